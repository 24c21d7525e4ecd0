use Rattle.std.proofs.Common.{◌≡◌, rules, List, get_or, take, drop, length, subst, ◌∷◌, ◌+◌}
use Rattle.std.proofs.lemmas.List.{drop_more}
use Rattle.apex_disk.specs.declared.content.Range.{Range}
use Rattle.apex_disk.specs.Content.{Within}
use Rattle.apex_disk.proofs.Picks.{Picked, pick_step}
use Rattle.apex_disk.proofs.pick.pick_ranges.Goals as goal

pub loop-range-preserved : goal.loop-range-preserved
loop-range-preserved c =
    let d : Range = record { at = 0; len = 0 } in
    let i = c.loop-range.range-index in
    let r = get_or c.args.ranges.now i d in
    let so_far : Picked (take i c.args.ranges.now) c.args.pick c.args.bytes.now c.args.synced.now c.loop-range.bytes =
    record { inside = c.loop-range.invariant.inside; others = c.loop-range.invariant.others } in
    let s = pick_step c.args.ranges.now i r d c.args.pick c.args.bytes.now c.args.synced.now c.loop-range.bytes
    c.pick_range.new.bytes c.loop-range-test.true (search rules) so_far c.pick_range.ensures.inside
    c.pick_range.ensures.below c.pick_range.ensures.above in
    let rest : drop i c.args.ranges.now ≡ r ∷ drop (i + 1) c.args.ranges.now =
    drop_more c.args.ranges.now i d c.loop-range-test.true in
    let within = subst (λ (l : List Range). Within (length c.loop-range.bytes) l) rest c.loop-range.invariant.within in
    record { inside = s.inside; others = s.others; within = rw c.pick_range.auto.bytes within.1 }
