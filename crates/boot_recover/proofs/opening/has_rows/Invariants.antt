use Rattle.std.proofs.Common.{◌≡◌}
use Rattle.std.specs.FinMap as fin
use Rattle.std.specs.List.{list_any}
use Rattle.apex_base.specs.RowSums.{has_tag}
use Rattle.row_map.specs.Rows.{shown}
use Rattle.boot_recover.proofs.opening.has_rows.Given as goal

-- one of those that are left is of the tag exactly if one of all is
abbrev pub invariant-loop-key : goal.invariant-loop-key
invariant-loop-key l =
    list_any (λ row. has_tag l.tag row.0) (shown l.key-iterator)
    ≡ list_any (λ row. has_tag l.tag row.0) (fin.entries l.rows)
