use Rattle.apex_base.specs.RowSums.{module_at}
use Rattle.row_map.specs.Rows.{rows_of, shown}
use Rattle.row_key.specs.Files.{path_in}
use Rattle.package_store.proofs.FilesRead.{Filed}
use Rattle.package_store.proofs.reading.module_of.Given as goal

-- the files so far, and those of the rows that are left, are the module
abbrev pub invariant-loop-key : goal.invariant-loop-key
invariant-loop-key l =
    Filed (path_in l.session l.part) (module_at (rows_of l.rows.entries) l.session l.part) l.files
    (shown l.key-iterator)
