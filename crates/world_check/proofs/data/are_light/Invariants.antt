use Rattle.std.proofs.Common.{◌≡◌, []}
use Rattle.std.specs.FinMap as fin
use Rattle.std.specs.Str.{bytes_eq}
use Rattle.row_map.specs.Rows.{shown}
use Rattle.world_check.specs.DataRows.{weights_in}
use Rattle.world_check.specs.Runs.{are_light}
use Rattle.world_check.proofs.data.are_light.Given as goal

-- the rows that are left decide
abbrev pub invariant-loop-key : goal.invariant-loop-key
invariant-loop-key l =
    are_light bytes_eq l.most l.run.front.now l.run.weight (weights_in (shown l.key-iterator))
    ≡ are_light bytes_eq l.most [] 0 (weights_in (fin.entries l.rows))
