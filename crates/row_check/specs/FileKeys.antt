-- Rows of files whose keys are those of modules that sessions have as their own: docs/rows.md, tag 5.
use Rattle.std.specs.Prelude.{ℕ, ◌==◌, ◌&&◌, Bool, true, false, List, [], ◌∷◌, if◌then◌else◌}
use Rattle.std.specs.Int.{w32, from_be_bytes}
use Rattle.apex_base.specs.declared.records.Record.{Record}
use Rattle.apex_base.specs.Text.{is_path}
use Rattle.row_check.specs.RightRows.{has_own}

-- After its tag a file's key has an id in four bytes, a part and a path. The session of that id has the module of that
-- part as its own.
abbrev pub is_file_key : List Record → List ℕ → Bool
is_file_key sessions (a ∷ b ∷ c ∷ d ∷ part ∷ path) =
    is_path path && has_own sessions (record { 0 = from_be_bytes w32 (a ∷ b ∷ c ∷ d ∷ []) }) part
is_file_key sessions _ = false

-- the row is of another tag, or its key is such a one
abbrev pub is_file_at : List Record → List ℕ → Bool
is_file_at sessions [] = true
is_file_at sessions (tag ∷ key) = if tag == 5 then is_file_key sessions key else true

abbrev pub are_files : List Record → List (List ℕ × List ℕ) → Bool
are_files sessions [] = true
are_files sessions (row ∷ rows) = is_file_at sessions row.0 && are_files sessions rows
