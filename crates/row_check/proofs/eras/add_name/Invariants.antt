use Rattle.std.proofs.Common.{◌≡◌, ℕ, List, map, drop}
use Rattle.std.specs.FinMap as fin
use Rattle.std.specs.Option.{option_or}
use Rattle.row_check.specs.declared.fronts.RowAfter.{RowAfter}
use Rattle.row_check.proofs.EraParts.{first_at}
use Rattle.row_check.proofs.eras.add_name.Given as goal

-- what is there now, and what the rest adds, is what all add
abbrev pub invariant-loop-row : goal.invariant-loop-row
invariant-loop-row l = (q : List ℕ)
    → option_or (fin.get l.values q) (first_at l.front.items
    (map (λ (row : RowAfter). (row.key.now, row.value.now)) (drop l.row-index l.row-items)) q)
    ≡ option_or (fin.get l.fn.values q) (first_at l.front.items
    (map (λ (row : RowAfter). (row.key.now, row.value.now)) l.row-items) q)
