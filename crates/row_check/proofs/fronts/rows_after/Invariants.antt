use Rattle.std.proofs.Common.{map}
use Rattle.std.specs.FinMap as fin
use Rattle.row_map.specs.Rows.{shown}
use Rattle.row_check.proofs.RowsWalked.{Left}
use Rattle.row_check.proofs.fronts.rows_after.Given as goal

-- the rows so far and those that are left are all
abbrev pub invariant-loop-key : goal.invariant-loop-key
invariant-loop-key l =
    Left l.front (fin.entries l.rows) (map (λ row. (row.key.now, row.value.now)) l.found.items) (shown l.key-iterator)
