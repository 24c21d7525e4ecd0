use Rattle.call_judge.proofs.RowRange.{Left}
use Rattle.row_map.specs.Rows.{shown}
use Rattle.std.specs.FinMap as fin
use Rattle.call_judge.proofs.files.take_rows.Given as goal

-- the batch, and what is left to take, is all that is to be taken
abbrev pub invariant-loop-key : goal.invariant-loop-key
invariant-loop-key l = Left l.front l.fn.batch.items (fin.keys l.rows) l.batch.items (shown l.key-iterator)
