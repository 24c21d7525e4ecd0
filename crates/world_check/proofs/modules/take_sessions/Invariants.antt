use Rattle.std.proofs.Common.{◌≡◌, drop}
use Rattle.package_store.specs.Keeping.{has_part}
use Rattle.world_check.specs.RightModules.{less_sessions}
use Rattle.world_check.proofs.modules.take_sessions.Given as goal

-- what is left once the sessions that are left are taken, is what is left in the end
abbrev pub invariant-loop-r : goal.invariant-loop-r
invariant-loop-r l =
    less_sessions l.rows (has_part l.kept) l.rest (drop l.r-index l.sessions)
    ≡ less_sessions l.rows (has_part l.kept) l.left l.sessions
