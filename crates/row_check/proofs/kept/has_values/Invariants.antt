use Rattle.std.proofs.Common.{◌≡◌, ◌++◌, ℕ, List, map, drop}
use Rattle.std.specs.FinMap as fin
use Rattle.std.specs.List.{list_all}
use Rattle.row_check.specs.declared.fronts.RowAfter.{RowAfter}
use Rattle.row_check.specs.RightRows.{is_value}
use Rattle.row_check.proofs.kept.has_values.Given as goal

-- all are there where the rest are
abbrev pub invariant-loop-row : goal.invariant-loop-row
invariant-loop-row l =
    list_all (λ (row : List ℕ × List ℕ). is_value (fin.get l.rows (l.front ++ row.0)) row.1)
    (map (λ (row : RowAfter). (row.key.now, row.value.now)) (drop l.row-index l.values))
    ≡ list_all (λ (row : List ℕ × List ℕ). is_value (fin.get l.rows (l.front ++ row.0)) row.1)
    (map (λ (row : RowAfter). (row.key.now, row.value.now)) l.values)
