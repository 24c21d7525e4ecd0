-- The rows of a module's files: docs/rows.md, tag 5.
use Rattle.std.specs.Prelude.{ℕ, List, map, Option, Some, None}
use Rattle.std.specs.FinMap as fin
use Rattle.apex_base.specs.declared.numbers.SessionId.{SessionId}
use Rattle.apex_base.specs.Keys.{RowMap, file_front}
use Rattle.apex_base.specs.Modules.{FileMap}
use Rattle.row_codec.specs.declared.batch.Row.{Row}
use Rattle.row_key.specs.Files.{path_in}

-- a file is written under its path
abbrev pub file_change : SessionId → ℕ → List ℕ × List ℕ → Row
file_change session part file = record { key = file_front session part file.0; value = Some file.1 }

-- all files of the module that this part of a session submitted are written, ascending by path
abbrev pub file_changes : SessionId → ℕ → FileMap → List Row
file_changes session part files = map (file_change session part) (fin.entries files)

-- the file of the module that stands under a key
abbrev pub file_at : FileMap → Option (List ℕ) → Option (List ℕ)
file_at files None = None
file_at files (Some path) = fin.get files path

-- the file that is written, or else what was there
abbrev pub or_before : Option (List ℕ) → Option (List ℕ) → Option (List ℕ)
or_before None before = before
or_before (Some value) before = Some value

-- what stands under a key once the module's files are written
abbrev pub placed_value : RowMap → SessionId → ℕ → FileMap → List ℕ → Option (List ℕ)
placed_value rows session part files key = or_before (file_at files (path_in session part key)) (fin.get rows key)
