use Rattle.std.proofs.Common.{◌≡◌, Some}
use Rattle.std.specs.FinMap as fin
use Rattle.row_map.specs.Rows.{shown}
use Rattle.world_check.specs.WatchRows.{left_after_all}
use Rattle.world_check.proofs.watches.are_within.Given as goal

-- what is left after the rows that are left is what is left after all
abbrev pub invariant-loop-key : goal.invariant-loop-key
invariant-loop-key l =
    left_after_all (Some l.left) (shown l.key-iterator) ≡ left_after_all (Some l.most) (fin.entries l.rows)
