use Rattle.std.proofs.Common.{◌≡◌, ◌<◌, length, [], take, sym, ap, ◌∙◌, arith}
use Rattle.std.proofs.lemmas.List.Sums.{fold_more}
use Rattle.apex_world.specs.declared.calls.Image.{Image}
use Rattle.world_laws.specs.BootByRows.{chosen_in, pick_in}
use Rattle.apex_world.specs.Selection.{with_pick}
use Rattle.package_store.proofs.Parts.{held_part}
use Rattle.boot_recover.proofs.choosing.Selection.choose.Goals as goal

pub loop-m-preserved : goal.loop-m-preserved
loop-m-preserved g c sessions are =
    let mounts = g.M.Mounter.mounting c.args.self.now.mounter.now in
    let pick = pick_in mounts c.args.self.now.rows.now sessions in
    let xs = c.args.self.now.order.now.image.modules in
    let i = c.loop-m.m-index in
    let m = c.m-item.result in
    let items : c.as_slice-m-items.result.now ≡ xs =
    c.as_slice-m-items.ensures ∙ ap (λ (image : Image). image.modules) c.image.ensures in
    let lt : i < length xs = omega (arith, ap length items) in
    let more = fold_more (λ picks m. with_pick (pick m) picks) [] xs i m lt in
    let so_far = chosen_in mounts c.args.self.now.rows.now sessions (take i xs) in
    c.in_ok-put_pick.ensures
    ∙ ap (λ p. with_pick p c.loop-m.picks.items) (c.in_ok-pick.ensures sessions are)
    ∙ ap (with_pick (pick m)) (c.loop-m.invariant sessions are)
    ∙ ap (λ x. with_pick (pick x) so_far) (rw items at c.m-item.is)
    ∙ sym more

pub pick-requires-after_bounds : goal.pick-requires-after_bounds
pick-requires-after_bounds g c = λ κs b.
    let (sessions, (parts, are)) = c.requires in
    let found = are c.m-item.result.name in
    rw found (held_part sessions c.m-item.result.name parts)
