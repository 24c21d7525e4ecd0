use Rattle.std.proofs.Common.{refl}
use Rattle.call_judge.specs.Prepared.{call_of}
use Rattle.apex_core.proofs.Performed.{stands_quiet}
use Rattle.apex_core.proofs.manager.perform.Goals as goal

pub change-requires-clause-judged : goal.change-requires-clause-judged
change-requires-clause-judged c =
    let (w, s) = c.requires.stands in
    (w, call_of c.args.call.now, s, c.in-Ok.ensures.judged w s)

pub returns-then-changes_nothing-clause-stands : goal.returns-then-changes_nothing-clause-stands
returns-then-changes_nothing-clause-stands c w s =
    let (none, nothing) = c.if-changes_nothing.ensures refl in
    stands_quiet c.args.rows.now c.args.tables.now w (call_of c.args.call.now) c.in-Ok.judged s
    (c.in-Ok.ensures.judged w s) none nothing

pub returns-in-Ok-change-clause-stands : goal.returns-in-Ok-change-clause-stands
returns-in-Ok-change-clause-stands c w s =
    c.in-Ok-change.ensures.stands w (call_of c.args.call.now) s (c.in-Ok.ensures.judged w s)
