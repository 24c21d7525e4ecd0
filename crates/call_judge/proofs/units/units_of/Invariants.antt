use Rattle.std.proofs.Common.{◌≡◌, take}
use Rattle.apex_world.specs.Limits.{units_of}
use Rattle.call_judge.proofs.units.units_of.Given as goal

-- the units of the sessions so far
abbrev pub invariant-loop-r : goal.invariant-loop-r
invariant-loop-r l = l.units ≡ units_of (take l.r-index l.sessions)
