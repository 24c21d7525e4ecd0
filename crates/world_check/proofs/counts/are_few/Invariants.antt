use Rattle.std.proofs.Common.{◌≡◌, ◌+◌, take}
use Rattle.std.specs.List.{sum_by}
use Rattle.world_check.specs.Counted.{amount, most}
use Rattle.world_check.proofs.counts.are_few.Given as goal

-- what the sessions so far have, and what is left
abbrev pub invariant-loop-r : goal.invariant-loop-r
invariant-loop-r l = sum_by (amount l.counted) (take l.r-index l.sessions) + l.left ≡ most l.counted l.fn.scale
