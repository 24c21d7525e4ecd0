use Rattle.std.proofs.Common.{◌≡◌, true}
use Rattle.std.specs.FinMap as fin
use Rattle.row_map.specs.Rows.{shown}
use Rattle.row_check.specs.RightKept.{are_right_rows, WrongRow, FitKeys}
use Rattle.row_check.proofs.kept.are_right_rows.Given as goal

-- where those that are left are right, or bytes, all are; and one of them that isn't right is one of all
abbrev pub invariant-loop-key : goal.invariant-loop-key
invariant-loop-key l = record {
  right : are_right_rows l.opening.sessions.now l.opening.values.now l.opening.tag (shown l.key-iterator) ≡ true
      → are_right_rows l.opening.sessions.now l.opening.values.now l.opening.tag (fin.entries l.opening.rows.now)
      ≡ true;
  fits : FitKeys (shown l.key-iterator) → FitKeys (fin.entries l.opening.rows.now);
  wrong : WrongRow l.opening.sessions.now l.opening.values.now l.opening.tag (shown l.key-iterator)
      → WrongRow l.opening.sessions.now l.opening.values.now l.opening.tag (fin.entries l.opening.rows.now);
}
