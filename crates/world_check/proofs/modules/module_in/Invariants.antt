use Rattle.apex_world.specs.Opened.{opened_files}
use Rattle.row_map.specs.Rows.{shown}
use Rattle.world_check.proofs.FilesWalked.{FilesLeft}
use Rattle.world_check.proofs.modules.module_in.Given as goal

-- the files so far, and those of the rows that are left, are the module
abbrev pub invariant-loop-key : goal.invariant-loop-key
invariant-loop-key l =
    FilesLeft l.session l.part (opened_files l.rows l.session l.part) l.files (shown l.key-iterator)
