use Rattle.std.proofs.Common.{◌≡◌, ◌-◌}
use Rattle.std.specs.Option.{is_some}
use Rattle.apex_world.specs.Opened.{moments_at}
use Rattle.row_check.proofs.boots.are_moments.Given as goal

-- all are moments if and only if those that are left are
abbrev pub invariant-loop : goal.invariant-loop
invariant-loop l = is_some (moments_at (l.count - l.counter) l.rest) ≡ is_some (moments_at l.count l.bytes)
