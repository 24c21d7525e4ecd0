use Rattle.std.proofs.Common.{◌≡◌, ◌-◌}
use Rattle.apex_world.specs.Opened.{moments_at}
use Rattle.row_check.proofs.MomentLists.{with_front}
use Rattle.row_check.proofs.boots.moments_at.Given as goal

-- the moments so far and those that are left are all
abbrev pub invariant-loop : goal.invariant-loop
invariant-loop l = with_front l.moments.items (moments_at (l.count - l.counter) l.rest) ≡ moments_at l.count l.bytes
