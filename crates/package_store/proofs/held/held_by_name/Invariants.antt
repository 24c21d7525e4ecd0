use Rattle.std.proofs.Common.{take}
use Rattle.package_store.specs.Latest.{AreHeld}
use Rattle.package_store.proofs.held.held_by_name.Given as goal

-- what the sessions so far have for each name
abbrev pub invariant-loop-r : goal.invariant-loop-r
invariant-loop-r l = AreHeld (take l.r-index l.records) l.held
