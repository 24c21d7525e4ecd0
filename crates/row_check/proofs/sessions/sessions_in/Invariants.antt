use Rattle.std.proofs.Common.{◌≡◌, ◌++◌}
use Rattle.std.specs.FinMap as fin
use Rattle.row_map.specs.Rows.{shown}
use Rattle.row_key.specs.RowBytes.{FitRows}
use Rattle.row_check.specs.RowSessions.{sessions_in}
use Rattle.row_check.proofs.sessions.sessions_in.Given as goal

-- the sessions so far and those of the rows that are left are all; where these are bytes, all are
abbrev pub invariant-loop-key : goal.invariant-loop-key
invariant-loop-key l =
    (l.sessions.items ++ sessions_in (shown l.key-iterator) ≡ sessions_in (fin.entries l.rows))
    × (FitRows (shown l.key-iterator) → FitRows (fin.entries l.rows))
