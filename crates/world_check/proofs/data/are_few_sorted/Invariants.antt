use Rattle.std.proofs.Common.{◌≡◌, ◌≤◌, drop}
use Rattle.world_check.specs.DataRows.{counted, same_boot}
use Rattle.world_check.specs.Runs.{are_light}
use Rattle.world_check.proofs.data.are_few_sorted.Given as goal

-- the boots that are left decide
abbrev pub invariant-loop-b : goal.invariant-loop-b
invariant-loop-b l = record {
  rest : are_light same_boot l.most l.boot l.count (counted (drop l.b-index l.boots))
      ≡ are_light same_boot l.most 0 0 (counted l.boots);
  few : l.count ≤ l.most;
}
