use Rattle.std.proofs.Common.{arith, rules, List, get_or, subst}
use Rattle.std.proofs.lemmas.List.{drop_all}
use Rattle.apex_disk.specs.declared.content.Range.{Range}
use Rattle.apex_disk.specs.Content.{Agrees}
use Rattle.apex_disk.proofs.Ranges.{bring_step, all_brought}
use Rattle.apex_disk.proofs.content.copy_ranges.Goals as goal

pub loop-range-preserved : goal.loop-range-preserved
loop-range-preserved c =
    let d : Range = record { at = 0; len = 0 } in
    let r = get_or c.args.ranges.now c.loop-range.range-index d in
    let s = bring_step c.args.ranges.now c.loop-range.range-index _ r d c.args.from.now c.loop-range.to
    c.overwrite.new.bytes c.loop-range-test.true (search rules) (omega arith) c.loop-range.invariant.agrees
    c.loop-range.invariant.within c.overwrite.ensures in
    record { agrees = s.0; within = s.1 }

pub returns : goal.returns
returns c =
    all_brought c.args.from.now c.loop-range.to (subst (λ (l : List Range). Agrees c.loop-range.to l c.args.from.now)
    (drop_all c.loop-range.range-index c.args.ranges.now c.loop-range-test.false) c.loop-range.invariant.agrees)
