use Rattle.std.proofs.Common.{◌≡◌, ◌-◌, ◌≤◌, ◌++◌, length, take, drop}
use Rattle.apex_world.specs.Selection.{with_pick}
use Rattle.boot_recover.proofs.choosing.place_for.Given as goal

-- the picks so far have lesser names
abbrev pub invariant-loop-at : goal.invariant-loop-at
invariant-loop-at l = (l.at ≤ length l.picks)
    × (with_pick l.p l.picks ≡ take l.at l.picks ++ with_pick l.p (drop l.at l.picks))

abbrev pub decreases-loop-at : goal.decreases-loop-at
decreases-loop-at l = length l.picks - l.at
