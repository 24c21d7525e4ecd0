use Rattle.row_map.specs.Rows.{rows_of, shown}
use Rattle.package_store.proofs.RowSteps.{Settling}
use Rattle.package_store.proofs.settling.settle_held.Given as goal

-- the rows so far are settled
abbrev pub invariant-loop-key : goal.invariant-loop-key
invariant-loop-key l = Settling l.records (rows_of l.rows.entries) l.changes (shown l.key-iterator)
