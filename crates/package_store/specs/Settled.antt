-- What rows come to once they are settled by the records of all sessions: docs/rows.md, tags 3 to 5.
use Rattle.std.specs.Prelude.{ℕ, ◌≢◌, ◌==◌, Bool, true, List, [], ◌∷◌, Option, None}
use Rattle.std.specs.Prelude.{if◌then◌else◌}
use Rattle.std.specs.Int.{w32, from_be_bytes}
use Rattle.std.specs.List.{AllByRecursion}
use Rattle.std.specs.FinMap as fin
use Rattle.apex_base.specs.declared.records.Record.{Record}
use Rattle.apex_base.specs.declared.records.Target.{Target}
use Rattle.apex_base.specs.Held.{kept, is_target}
use Rattle.apex_base.specs.Keys.{Key, ActiveOf, BackupOf, FileOf, RowMap, file_front, key_text}
use Rattle.apex_base.specs.Settled.{active_of, backup_of}
use Rattle.row_codec.specs.declared.batch.Row.{Row}
use Rattle.session_record.specs.Room.{HasPartNumber}

-- A file's key has the id of the session in four bytes, and the part. Its module is among these targets; what is
-- shorter is no file's key, and stays.
abbrev pub file_stays : List Target → List ℕ → Bool
file_stays kept (a ∷ b ∷ c ∷ d ∷ part ∷ path) =
    is_target kept (record { 0 = from_be_bytes w32 (a ∷ b ∷ c ∷ d ∷ []) }) part
file_stays kept _ = true

-- what stands under a key once rows are settled, by what stood there before
abbrev pub settled : List Record → List ℕ → Option (List ℕ) → Option (List ℕ)
settled records [] value = value
settled records (tag ∷ rest) value =
    if tag == 3 then active_of records rest
    else (if tag == 4 then backup_of records rest
    else (if tag == 5 then (if file_stays (kept records) rest then value else None)
    else value))

abbrev pub settled_value : RowMap → List Record → List ℕ → Option (List ℕ)
settled_value rows records key = settled records key (fin.get rows key)

-- the same by what a row is of: the law `settled_by_key`
abbrev pub settled_row : RowMap → List Record → Key → Option (List ℕ)
settled_row rows records (ActiveOf name) = active_of records name
settled_row rows records (BackupOf name) = backup_of records name
settled_row rows records (FileOf session part path) =
    if is_target (kept records) session part then fin.get rows (file_front session part path) else None
settled_row rows records key = fin.get rows (key_text key)

-- a change that changes something
abbrev pub IsChange : RowMap → Row → Type 0
IsChange rows change = fin.get rows change.key ≢ change.value

-- the number of each target's part has one byte
abbrev pub HaveParts : List Record → Type 0
HaveParts records = AllByRecursion (λ r. AllByRecursion (λ p. HasPartNumber p.target) r.parts) records
