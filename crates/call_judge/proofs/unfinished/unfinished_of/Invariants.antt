use Rattle.std.proofs.Common.{take}
use Rattle.call_judge.specs.Unfinished.{AreUnfinished}
use Rattle.call_judge.proofs.unfinished.unfinished_of.Given as goal

-- those of the sessions so far
abbrev pub invariant-loop-r : goal.invariant-loop-r
invariant-loop-r l = AreUnfinished l.by_name (take l.r-index l.sessions)
