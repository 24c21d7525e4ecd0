use Rattle.std.proofs.Common.{◌≡◌, take}
use Rattle.apex_journal.specs.Journal.{mark}
use Rattle.apex_journal.proofs.head.first_wrong.Given as goal

abbrev pub invariant-loop-i : goal.invariant-loop-i
invariant-loop-i l = take l.i l.head ≡ take l.i mark
