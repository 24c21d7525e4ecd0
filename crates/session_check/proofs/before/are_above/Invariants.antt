use Rattle.std.proofs.Common.{◌≡◌, drop}
use Rattle.std.specs.List.{list_all}
use Rattle.session_check.specs.Before.{is_above}
use Rattle.session_check.proofs.before.are_above.Given as goal

-- what is left decides
abbrev pub invariant-loop-r : goal.invariant-loop-r
invariant-loop-r l = list_all (is_above l.marks) (drop l.r-index l.sessions) ≡ list_all (is_above l.marks) l.sessions
