use Rattle.std.proofs.Common.{take}
use Rattle.package_store.specs.Earlier.{AreEarlier}
use Rattle.package_store.proofs.earlier.EarlierTargets.of_all.Given as goal

-- what names held by the sessions so far
abbrev pub invariant-loop-r : goal.invariant-loop-r
invariant-loop-r l = AreEarlier (take l.r-index l.records) l.earlier
