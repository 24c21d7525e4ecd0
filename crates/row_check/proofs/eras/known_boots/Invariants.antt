use Rattle.std.proofs.Common.{drop}
use Rattle.row_check.specs.KeptRows.{HaveBoots}
use Rattle.row_check.proofs.eras.known_boots.Given as goal

-- where the rest have them, all do
abbrev pub invariant-loop-r : goal.invariant-loop-r
invariant-loop-r l = HaveBoots (drop l.r-index l.sessions) → HaveBoots l.sessions
