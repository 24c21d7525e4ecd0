use Rattle.std.proofs.Common.{◌≡◌, Some}
use Rattle.std.specs.FinMap as fin
use Rattle.row_map.specs.Rows.{shown}
use Rattle.row_key.specs.RowBytes.{FitRows}
use Rattle.row_check.specs.RowSessions.{left_after_all}
use Rattle.row_check.proofs.sessions.are_enough.Given as goal

-- what is left for the rest is left of all; where the rows that are left are bytes, all are
abbrev pub invariant-loop-key : goal.invariant-loop-key
invariant-loop-key l =
    (left_after_all l.left (shown l.key-iterator) ≡ left_after_all (Some l.sessions) (fin.entries l.rows))
    × (FitRows (shown l.key-iterator) → FitRows (fin.entries l.rows))
