-- The rows that stand for a world: docs/rows.md. What a row says is a definition of its own.
use Rattle.std.specs.Prelude.{ℕ, ◌==◌, ◌&&◌, Bool, true, false, not, List, [], ◌∷◌, ◌++◌, length, map, flat_map, Option, Some, None, option_and_then, if◌then◌else◌, ◌≡◌, refl}
use Rattle.std.specs.Option.{option_map}
use Rattle.std.specs.FinMap as fin
use Rattle.apex_base.specs.declared.numbers.SessionId.{SessionId}
use Rattle.apex_base.specs.declared.records.Record.{Record}
use Rattle.apex_base.specs.declared.records.RollbackState.{RollbackState}
use Rattle.apex_base.specs.declared.records.RollbackState.TheVariants.{Enabling, Available, Committed, Deleted}
use Rattle.apex_base.specs.Commit.{rollback_id, rolls_back, undoes}
use Rattle.apex_base.specs.Held.{is_staged, is_undoable, kept, is_target}
use Rattle.apex_base.specs.Keys.{Key, Boots, RecordOf, ActiveOf, BackupOf, FileOf, DataOf, SnapshotOf, PreRestoreOf, WatchOf, RowMap, rows_by}
use Rattle.apex_base.specs.Reading.{four_text, eight_text}
use Rattle.apex_base.specs.Sessions.{names, session_of}
pub use Rattle.apex_base.specs.Settled.{stands_for, active_of, is_undoable_for, backup_of}
use Rattle.apex_base.specs.Spelling.{record_text}
use Rattle.apex_base.specs.Tables.{Table, part_of, value_of}
use Rattle.apex_base.specs.Windows.{last_five}
use Rattle.apex_world.specs.declared.world.Submission.{Submission}
use Rattle.apex_world.specs.Selection.{submitted_by}
use Rattle.apex_world.specs.World.{World, Contents, boots, era, empty_world}
use Rattle.apex_base.specs.declared.numbers.Scale.TheVariants.{Small}

-- 1. how many boots there were, and the last five moments, the oldest first

abbrev pub moments_text : List ℕ → List ℕ
moments_text moments = flat_map (λ m. eight_text m []) moments

abbrev pub boots_text : ℕ → List ℕ → List ℕ
boots_text n moments = four_text n (length moments ∷ moments_text moments)

abbrev pub boots_row : World → Option (List ℕ)
boots_row w = if boots w == 0 then None else Some (boots_text (boots w) (last_five w.moments))

-- 2. a session

abbrev pub record_row : World → SessionId → Option (List ℕ)
record_row w id = option_map record_text (session_of w.sessions id)

-- 3. the target that a name holds, where a session that stands names it

abbrev pub active_row : World → List ℕ → Option (List ℕ)
active_row w name = active_of w.sessions name

-- 4. the target that it held before the session that can still be undone

abbrev pub backup_row : World → List ℕ → Option (List ℕ)
backup_row w name = backup_of w.sessions name

-- 5. a file of a module that is kept

abbrev pub file_row : World → SessionId → ℕ → List ℕ → Option (List ℕ)
file_row w session part path = if is_target (kept w.sessions) session part then option_and_then (λ m. fin.get m path) (submitted_by w.modules session part) else None

-- 6. a value that a module keeps

abbrev pub data_row : World → List ℕ → List ℕ → Option (List ℕ)
data_row w name key = value_of w.contents name key

-- 7. a value that a name had before a session that may be rolled back

abbrev pub is_staged_session : Option Record → Bool
is_staged_session None = false
is_staged_session (Some r) = is_staged r.state

-- a rollback may still happen: it may be committed, or the session that it made waits for the next boot
abbrev pub may_happen : List Record → SessionId → Option RollbackState → Bool
may_happen sessions id None = false
may_happen sessions id (Some Enabling) = true
may_happen sessions id (Some Available) = true
may_happen sessions id (Some Committed) = is_staged_session (session_of sessions (rollback_id id))
may_happen sessions id (Some Deleted) = false

abbrev pub has_snapshot : List Record → Record → Bool
has_snapshot sessions r = rolls_back r.kind && not (r.activation == 0) && may_happen sessions r.id r.rollback

-- what a name had before a session was activated
abbrev pub earlier : World → List ℕ → List ℕ → Record → Option (List ℕ)
earlier w name key r = if names name r then value_of (era w.eras r.activation) name key else None

abbrev pub snapshot_row : World → SessionId → List ℕ → List ℕ → Option (List ℕ)
snapshot_row w id name key = option_and_then (λ r. if has_snapshot w.sessions r then earlier w name key r else None) (session_of w.sessions id)

-- 8. a value that a name had before a rollback session that can still be undone

abbrev pub has_pre_restore : Record → Bool
has_pre_restore r = undoes r.kind && is_undoable r.state

abbrev pub pre_restore_row : World → SessionId → List ℕ → List ℕ → Option (List ℕ)
pre_restore_row w id name key = option_and_then (λ r. if has_pre_restore r then earlier w name key r else None) (session_of w.sessions id)

-- 9. until when an observer watches a name

abbrev pub watch_row : World → List ℕ → List ℕ → Option (List ℕ)
watch_row w observer name = option_map (λ end. eight_text end []) (value_of w.watches observer name)

-- The rows

-- the value of a row, if it is there
abbrev pub row_at : World → Key → Option (List ℕ)
row_at w Boots = boots_row w
row_at w (RecordOf id) = record_row w id
row_at w (ActiveOf name) = active_row w name
row_at w (BackupOf name) = backup_row w name
row_at w (FileOf session part path) = file_row w session part path
row_at w (DataOf name key) = data_row w name key
row_at w (SnapshotOf id name key) = snapshot_row w id name key
row_at w (PreRestoreOf id name key) = pre_restore_row w id name key
row_at w (WatchOf observer name) = watch_row w observer name

-- the keys that may have a value

abbrev pub part_keys : Contents → SessionId → List ℕ → List Key
part_keys era id name = flat_map (λ key. SnapshotOf id name key ∷ PreRestoreOf id name key ∷ []) (fin.keys (part_of era name))

abbrev pub name_keys : List Contents → Record → List ℕ → List Key
name_keys eras r name = ActiveOf name ∷ BackupOf name ∷ part_keys (era eras r.activation) r.id name

abbrev pub record_keys : List Contents → Record → List Key
record_keys eras r = RecordOf r.id ∷ flat_map (λ p. name_keys eras r p.name) r.parts

abbrev pub file_keys : Submission → List Key
file_keys s = map (λ path. FileOf s.session s.part path) (fin.keys s.content)

abbrev pub table_keys : {X : Type 0} → (List ℕ → List ℕ → Key) → Table X → List Key
table_keys key t = flat_map (λ e. map (key e.0) (fin.keys e.1)) (fin.entries t)

abbrev pub row_keys : World → List Key
row_keys w = Boots ∷ flat_map (record_keys w.eras) w.sessions ++ flat_map file_keys w.modules ++ table_keys DataOf w.contents ++ table_keys WatchOf w.watches

abbrev pub rows : World → RowMap
rows w = rows_by (row_keys w) (row_at w)

-- Worked value: what the row of boots says after one boot at moment 0

pub first_boot : boots_row (record (empty_world Small) { eras = fin.empty ∷ []; moments = 0 ∷ [] }) ≡ Some (0 ∷ 0 ∷ 0 ∷ 1 ∷ 1 ∷ 0 ∷ 0 ∷ 0 ∷ 0 ∷ 0 ∷ 0 ∷ 0 ∷ 0 ∷ [])
first_boot = refl
