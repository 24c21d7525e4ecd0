use Rattle.std.proofs.Common.{◌≡◌, ◌<◌, length, ◌++◌, get_or, slice_set, sym, ap, ◌∙◌, arith}
use Rattle.std.proofs.lemmas.List.Edits.{map_over_more}
use Rattle.apex_base.specs.declared.records.Record.{Record}
use Rattle.apex_world.specs.Boot.{changed_to}
use Rattle.world_laws.specs.BootByRows.{become_in}
use Rattle.boot_recover.specs.Booted.{record_change}
use Rattle.boot_recover.proofs.InPlace.{next_untouched, noted_more}
use Rattle.boot_recover.proofs.becoming.boot_sessions.Goals as goal

pub loop-r-preserved : goal.loop-r-preserved
loop-r-preserved g c =
    let given = c.args.selection.now in
    let mounts = g.M.Mounter.mounting given.mounter.now in
    let f = become_in mounts given.rows.now given.order.now given.number in
    let xs = c.deref_mut-r-items.result.now in
    let i = c.loop-r.r-index in
    let x = c.r-item.result in
    let lt : i < length xs = omega arith in
    let here : x ≡ get_or xs i x =
    next_untouched f xs c.loop-r.r-items i x lt c.loop-r.invariant.turned_front c.r-item.is in
    let ys = c.loop-r.r-items in
    let same : get_or ys i x ≡ x = sym c.r-item.is in
    let s = c.boot_session.new.r in
    let turned : s ≡ f x = c.in_ok-boot_session.ensures.session ∙ ap f same in
    let changes = c.loop-r.noted.changes.items in
    let rows = c.loop-r.noted.rows.items in
    let now_changes : c.boot_session.new.noted.changes.items ≡ changes ++ changed_to x (f x) =
    c.in_ok-boot_session.ensures.changes ∙ ap (λ (r : Record). changes ++ changed_to (get_or ys i x) r) turned
    ∙ ap (λ (r : Record). changes ++ changed_to r (f x)) same in
    let now_rows : c.boot_session.new.noted.rows.items ≡ rows ++ record_change x (f x) =
    c.in_ok-boot_session.ensures.rows ∙ ap (λ (r : Record). rows ++ record_change (get_or ys i x) r) turned
    ∙ ap (λ (r : Record). rows ++ record_change r (f x)) same in
    record {
      turned_front =
          ap (slice_set ys i) turned
          ∙ map_over_more f xs ys i x lt c.loop-r.invariant.turned_front c.r-item.is;
      changed_front = noted_more (λ (r : Record). changed_to r (f r)) xs i x c.args.noted.now.changes.items changes
          lt here now_changes c.loop-r.invariant.changed_front;
      written_front = noted_more (λ (r : Record). record_change r (f r)) xs i x c.args.noted.now.rows.items rows lt here
          now_rows c.loop-r.invariant.written_front;
    }
