use Rattle.std.proofs.Common.{◌≡◌, ◌&&◌}
use Rattle.std.specs.FinMap as fin
use Rattle.row_map.specs.Rows.{shown}
use Rattle.row_check.specs.FileKeys.{are_files}
use Rattle.row_key.specs.RowBytes.{FitRows}
use Rattle.row_check.proofs.files.are_files.Given as goal

-- those so far and those that are left are right if and only if all are; where those that are left are bytes, all are
abbrev pub invariant-loop-key : goal.invariant-loop-key
invariant-loop-key l =
    (l.right && are_files l.sessions (shown l.key-iterator) ≡ are_files l.sessions (fin.entries l.rows))
    × (FitRows (shown l.key-iterator) → FitRows (fin.entries l.rows))
