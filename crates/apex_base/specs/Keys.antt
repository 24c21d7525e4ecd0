-- The rows of a store, and their keys: docs/rows.md.
use Rattle.std.specs.Prelude.{◌≡◌, ℕ, ◌<◌, ◌^◌, refl, codes, List, [], ◌∷◌, ◌++◌, map, flat_map, drop, Option, Some, None, ◌==◌, if◌then◌else◌}
use Rattle.std.specs.Int.{w32, to_be_bytes}
use Rattle.std.specs.FinMap as fin
use Rattle.apex_base.specs.declared.numbers.SessionId.{SessionId}
use Rattle.apex_base.specs.Reading.{short_text, ◌>>=◌, byte_at, number_at, short_at, at_end}
use Rattle.apex_base.specs.Tables.{NameMap}

-- rows by their keys' bytes
abbrev pub RowMap : Type 0
RowMap = NameMap (List ℕ)

-- what a row is of
pub data Key : Type 0 where
  Boots : Key
  RecordOf : SessionId → Key
  ActiveOf : List ℕ → Key
  BackupOf : List ℕ → Key
  FileOf : SessionId → ℕ → List ℕ → Key
  DataOf : List ℕ → List ℕ → Key
  SnapshotOf : SessionId → List ℕ → List ℕ → Key
  PreRestoreOf : SessionId → List ℕ → List ℕ → Key
  WatchOf : List ℕ → List ℕ → Key

-- an id in four bytes
abbrev pub id_text : SessionId → List ℕ
id_text id = to_be_bytes w32 id.0

-- the first bytes of the keys of a module's files, of a name's data, of what a session keeps of it, and of an
-- observer's watches

abbrev pub file_front : SessionId → ℕ → List ℕ → List ℕ
file_front id part rest = 5 ∷ id_text id ++ part ∷ rest

abbrev pub data_front : List ℕ → List ℕ → List ℕ
data_front name rest = 6 ∷ short_text name rest

abbrev pub snapshot_front : SessionId → List ℕ → List ℕ → List ℕ
snapshot_front id name rest = 7 ∷ id_text id ++ short_text name rest

abbrev pub pre_restore_front : SessionId → List ℕ → List ℕ → List ℕ
pre_restore_front id name rest = 8 ∷ id_text id ++ short_text name rest

abbrev pub watch_front : List ℕ → List ℕ → List ℕ
watch_front observer rest = 9 ∷ short_text observer rest

-- a key's bytes
abbrev pub key_text : Key → List ℕ
key_text Boots = 1 ∷ []
key_text (RecordOf id) = 2 ∷ id_text id
key_text (ActiveOf name) = 3 ∷ name
key_text (BackupOf name) = 4 ∷ name
key_text (FileOf id part path) = file_front id part path
key_text (DataOf name key) = data_front name key
key_text (SnapshotOf id name key) = snapshot_front id name key
key_text (PreRestoreOf id name key) = pre_restore_front id name key
key_text (WatchOf observer name) = watch_front observer name

-- a key whose numbers have their width
abbrev pub IsKey : Key → Type 0
IsKey Boots = Unit {0}
IsKey (RecordOf id) = id.0 < 2 ^ 32
IsKey (ActiveOf name) = Unit {0}
IsKey (BackupOf name) = Unit {0}
IsKey (FileOf id part path) = id.0 < 2 ^ 32
IsKey (DataOf name key) = Unit {0}
IsKey (SnapshotOf id name key) = id.0 < 2 ^ 32
IsKey (PreRestoreOf id name key) = id.0 < 2 ^ 32
IsKey (WatchOf observer name) = Unit {0}

-- The key that bytes are, if they are one. Names and paths are taken as they stand

abbrev pub id_of : ℕ → SessionId
id_of n = record { 0 = n }

unfoldable pub record_key_of : List ℕ → Option Key
record_key_of bytes = do
  id ← number_at w32 bytes
  at_end (RecordOf (id_of id.0)) id.1

unfoldable pub file_key_of : List ℕ → Option Key
file_key_of bytes = do
  id ← number_at w32 bytes
  part ← byte_at id.1
  Some (FileOf (id_of id.0) part.0 part.1)

unfoldable pub data_key_of : List ℕ → Option Key
data_key_of bytes = do
  name ← short_at bytes
  Some (DataOf name.0 name.1)

unfoldable pub snapshot_key_of : List ℕ → Option Key
snapshot_key_of bytes = do
  id ← number_at w32 bytes
  name ← short_at id.1
  Some (SnapshotOf (id_of id.0) name.0 name.1)

unfoldable pub pre_restore_key_of : List ℕ → Option Key
pre_restore_key_of bytes = do
  id ← number_at w32 bytes
  name ← short_at id.1
  Some (PreRestoreOf (id_of id.0) name.0 name.1)

unfoldable pub watch_key_of : List ℕ → Option Key
watch_key_of bytes = do
  observer ← short_at bytes
  Some (WatchOf observer.0 observer.1)

unfoldable pub key_of : List ℕ → Option Key
key_of [] = None
key_of (tag ∷ rest) =
    if tag == 1 then at_end Boots rest
    else (if tag == 2 then record_key_of rest
    else (if tag == 3 then Some (ActiveOf rest)
    else (if tag == 4 then Some (BackupOf rest)
    else (if tag == 5 then file_key_of rest
    else (if tag == 6 then data_key_of rest
    else (if tag == 7 then snapshot_key_of rest
    else (if tag == 8 then pre_restore_key_of rest
    else (if tag == 9 then watch_key_of rest
    else None))))))))

-- The rows that a function of keys makes

abbrev pub row_of : Key → Option (List ℕ) → List (List ℕ × List ℕ)
row_of k None = []
row_of k (Some value) = (key_text k, value) ∷ []

-- those of these keys that have a value
abbrev pub rows_by : List Key → (Key → Option (List ℕ)) → RowMap
rows_by keys value = fin.from_entries (flat_map (λ k. row_of k (value k)) keys)

-- The rows whose keys begin alike

-- a map of these names, by what each has
abbrev pub pair_of : {X : Type 0} → List ℕ → Option X → List (List ℕ × X)
pair_of name None = []
pair_of name (Some x) = (name, x) ∷ []

abbrev pub tabulate : {X : Type 0} → List (List ℕ) → (List ℕ → Option X) → NameMap X
tabulate names value = fin.from_entries (flat_map (λ name. pair_of name (value name)) names)

-- what follows the first bytes of some keys, of which so many are dropped
abbrev pub ends_of : ℕ → RowMap → List (List ℕ)
ends_of n rows = map (λ key. drop n key) (fin.keys rows)

-- Worked values: the keys of a session's record, of a value, and of a snapshot

pub record_key : key_text (RecordOf (record { 0 = 101 })) ≡ 2 ∷ 0 ∷ 0 ∷ 0 ∷ 101 ∷ []
record_key = refl

pub data_key : key_text (DataOf (codes "ab") (codes "k")) ≡ 6 ∷ 2 ∷ 97 ∷ 98 ∷ 107 ∷ []
data_key = refl

pub snapshot_key : key_text (SnapshotOf (record { 0 = 5 }) (codes "a") (codes "k")) ≡ 7 ∷ 0 ∷ 0 ∷ 0 ∷ 5 ∷ 1 ∷ 97 ∷ 107 ∷ []
snapshot_key = refl
