use Rattle.std.proofs.Common.{◌≡◌, true}
use Rattle.std.specs.FinMap as fin
use Rattle.row_map.specs.Rows.{shown}
use Rattle.row_check.specs.RightRows.{are_right_at, WrongRow}
use Rattle.row_key.specs.RowBytes.{FitRows}
use Rattle.row_check.proofs.alone.are_right_at.Given as goal

-- where those that are left are right, or bytes, all are; and one of them that isn't right is one of all
abbrev pub invariant-loop-key : goal.invariant-loop-key
invariant-loop-key l =
    (are_right_at l.tag (shown l.key-iterator) ≡ true → are_right_at l.tag (fin.entries l.rows) ≡ true)
    × (FitRows (shown l.key-iterator) → FitRows (fin.entries l.rows))
    × (WrongRow l.tag (shown l.key-iterator) → WrongRow l.tag (fin.entries l.rows))
