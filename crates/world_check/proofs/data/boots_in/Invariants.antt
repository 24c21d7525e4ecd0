use Rattle.std.proofs.Common.{◌≡◌, ◌++◌, map}
use Rattle.std.specs.FinMap as fin
use Rattle.std.specs.Str.{bytes_eq}
use Rattle.row_map.specs.Rows.{shown}
use Rattle.world_check.specs.DataRows.{weights_in, boot_of, boots_in}
use Rattle.world_check.specs.Runs.{run_keys}
use Rattle.world_check.proofs.data.boots_in.Given as goal

-- the boots so far and those of the rows that are left are all
abbrev pub invariant-loop-key : goal.invariant-loop-key
invariant-loop-key l =
    l.boots.items ++ map (boot_of l.sessions) (run_keys bytes_eq l.last (weights_in (shown l.key-iterator)))
    ≡ boots_in l.sessions (fin.entries l.rows)
