use Rattle.std.proofs.Common.{◌≡◌, ◌+◌, drop}
use Rattle.call_judge.specs.Weights.{gained}
use Rattle.call_judge.proofs.weighing.gained.Given as goal

-- the weight so far, and that of what is left
abbrev pub invariant-loop-row : goal.invariant-loop-row
invariant-loop-row l = l.weight + gained (drop l.row-index l.batch) ≡ gained l.batch
