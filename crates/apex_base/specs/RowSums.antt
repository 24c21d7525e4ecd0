-- What rows weigh, and the modules that they hold: docs/rows.md.
use Rattle.std.specs.Prelude.{ℕ, ◌+◌, ◌==◌, Bool, false, List, [], ◌∷◌, length, take, drop, if◌then◌else◌}
use Rattle.std.specs.List.{sum_by}
use Rattle.std.specs.Str.{bytes_eq}
use Rattle.std.specs.FinMap as fin
use Rattle.apex_base.specs.declared.numbers.SessionId.{SessionId}
use Rattle.apex_base.specs.Keys.{RowMap, file_front, data_front, tabulate, ends_of}
use Rattle.apex_base.specs.Modules.{FileMap, file_weight}

-- a value that a module keeps weighs as much as its key and itself, and 128 more
abbrev pub entry_weight : List ℕ → List ℕ → ℕ
entry_weight key value = length key + length value + 128

abbrev pub has_tag : ℕ → List ℕ → Bool
has_tag tag [] = false
has_tag tag (t ∷ rest) = t == tag

-- the files that are kept
abbrev pub file_row_weight : List ℕ × List ℕ → ℕ
file_row_weight row = if has_tag 5 row.0 then file_weight row.1 else 0

abbrev pub kept_weight : RowMap → ℕ
kept_weight rows = sum_by file_row_weight (fin.entries rows)

-- the data of a name: the key of a value follows the tag, the name's length and the name
abbrev pub is_of_name : List ℕ → List ℕ → Bool
is_of_name name key = bytes_eq (take (length name + 2) key) (data_front name [])

abbrev pub data_row_weight : List ℕ → List ℕ × List ℕ → ℕ
data_row_weight name row = if is_of_name name row.0 then entry_weight (drop (length name + 2) row.0) row.1 else 0

abbrev pub name_weight : RowMap → List ℕ → ℕ
name_weight rows name = sum_by (data_row_weight name) (fin.entries rows)

-- the files of the module that a part of a session submitted: a path follows the tag, the id and the part
abbrev pub module_at : RowMap → SessionId → ℕ → FileMap
module_at rows id part = tabulate (ends_of 6 rows) (λ path. fin.get rows (file_front id part path))
