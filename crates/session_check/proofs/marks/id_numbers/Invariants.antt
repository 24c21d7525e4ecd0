use Rattle.std.proofs.Common.{◌≡◌, take, flat_map}
use Rattle.session_check.specs.Marks.{id_numbers}
use Rattle.session_check.proofs.marks.id_numbers.Given as goal

-- the ids of the sessions so far
abbrev pub invariant-loop-r : goal.invariant-loop-r
invariant-loop-r l = l.numbers.items ≡ flat_map id_numbers (take l.r-index l.sessions)
