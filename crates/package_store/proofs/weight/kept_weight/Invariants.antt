use Rattle.std.proofs.Common.{◌≡◌, ◌+◌}
use Rattle.std.specs.List.{sum_by}
use Rattle.apex_base.specs.RowSums.{kept_weight, file_row_weight}
use Rattle.row_map.specs.Rows.{rows_of, shown}
use Rattle.package_store.proofs.weight.kept_weight.Given as goal

-- the weight so far, and that of the rows that are left
abbrev pub invariant-loop-key : goal.invariant-loop-key
invariant-loop-key l = l.weight + sum_by file_row_weight (shown l.key-iterator) ≡ kept_weight (rows_of l.rows.entries)
