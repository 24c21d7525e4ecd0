use Rattle.std.proofs.Common.{◌≡◌, ◌+◌, drop}
use Rattle.call_judge.specs.Weights.{lost}
use Rattle.call_judge.proofs.weighing.lost.Given as goal

-- the weight so far, and that of what is left
abbrev pub invariant-loop-row : goal.invariant-loop-row
invariant-loop-row l = l.weight + lost l.rows (drop l.row-index l.batch) ≡ lost l.rows l.batch
