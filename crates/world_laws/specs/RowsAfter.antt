-- What becomes of rows where a call changes sessions alone: docs/rows.md, "After a call".
use Rattle.std.specs.Prelude.{◌≡◌, ℕ, ◌+◌, ◌==◌, Bool, true, false, List, slice_get, Option, Some, None, Ok}
use Rattle.std.specs.Prelude.{option_and_then, if◌then◌else◌}
use Rattle.std.specs.List.{sum_by}
use Rattle.std.specs.Option.{option_map}
use Rattle.std.specs.FinMap as fin
use Rattle.apex_base.specs.declared.numbers.SessionId.{SessionId}
use Rattle.apex_base.specs.declared.records.Record.{Record}
use Rattle.apex_base.specs.Held.{kept, is_target}
use Rattle.apex_base.specs.Keys.{Key, Boots, RecordOf, ActiveOf, BackupOf, FileOf, DataOf, SnapshotOf, PreRestoreOf}
use Rattle.apex_base.specs.Keys.{WatchOf, IsKey, RowMap, key_text}
use Rattle.apex_base.specs.Modules.{FileMap, module_weight}
use Rattle.apex_base.specs.Sessions.{session_of}
use Rattle.apex_base.specs.Settled.{active_of, backup_of}
use Rattle.apex_base.specs.Spelling.{record_text}
use Rattle.apex_world.specs.declared.calls.Call.{Call}
use Rattle.apex_world.specs.declared.calls.Call.TheVariants as calls
use Rattle.apex_world.specs.declared.modules.Package.{Package}
use Rattle.apex_world.specs.Lawful.{Lawful}
use Rattle.apex_world.specs.Limits.{kind_units, units, weight}
use Rattle.apex_world.specs.Rows.{rows, row_at, has_snapshot, has_pre_restore}
use Rattle.apex_world.specs.Step.{step}
use Rattle.apex_world.specs.Submit.{admitted, entered, kind_of}
use Rattle.apex_world.specs.World.{World}

-- the row stays where it is, if it is still asked for
abbrev pub still : RowMap → Key → Bool → Option (List ℕ)
still rows k asked = if asked then fin.get rows (key_text k) else None

abbrev pub passes : (Record → Bool) → Option Record → Bool
passes test None = false
passes test (Some r) = test r

-- the row at a key, by the rows before and the sessions afterwards: the records are those of the sessions, and so are
-- the targets that names hold and held before; a file stays while its module is kept, and what a name had before a
-- session while the session may be taken back; all else stays
abbrev pub settled_row : RowMap → List Record → Key → Option (List ℕ)
settled_row rows sessions Boots = still rows Boots true
settled_row rows sessions (RecordOf id) = option_map record_text (session_of sessions id)
settled_row rows sessions (ActiveOf name) = active_of sessions name
settled_row rows sessions (BackupOf name) = backup_of sessions name
settled_row rows sessions (FileOf id part path) = still rows (FileOf id part path) (is_target (kept sessions) id part)
settled_row rows sessions (DataOf name key) = still rows (DataOf name key) true
settled_row rows sessions (SnapshotOf id name key) =
    still rows (SnapshotOf id name key) (passes (has_snapshot sessions) (session_of sessions id))
settled_row rows sessions (PreRestoreOf id name key) =
    still rows (PreRestoreOf id name key) (passes has_pre_restore (session_of sessions id))
settled_row rows sessions (WatchOf observer name) = still rows (WatchOf observer name) true

-- the calls that change nothing but sessions, the clock and the failures
abbrev pub changes_sessions : Call → Bool
changes_sessions (calls.Submit id children rollback parts) = false
changes_sessions (calls.Ready id) = true
changes_sessions (calls.Abort id) = true
changes_sessions (calls.Success time id) = true
changes_sessions calls.Revert = true
changes_sessions (calls.Commit id) = true
changes_sessions (calls.Put name key value) = false
changes_sessions (calls.Drop name key) = false
changes_sessions (calls.Get name key) = true
changes_sessions (calls.StateOf id) = true
changes_sessions (calls.Watch time observer duration names) = false
changes_sessions (calls.Report time name why) = true

-- after such a call, the rows are those that the sessions settle
abbrev pub CallsSettleRows : Type 0
CallsSettleRows =
    (w : World) → Lawful w → (call : Call) → changes_sessions call ≡ true → Lawful (step w call).world → (k : Key)
    → IsKey k → row_at (step w call).world k ≡ settled_row (rows w) (step w call).world.sessions k

-- A submit: the new session's modules are kept, and all else is what the sessions settle

-- the file of a part at a path
abbrev pub package_file : List Package → ℕ → List ℕ → Option (List ℕ)
package_file packages part path = option_and_then (λ p. fin.get p.content path) (slice_get packages part)

-- the row at a key, by the rows before, the sessions afterwards, and the packages of the new session
abbrev pub put_row : RowMap → List Record → SessionId → List Package → Key → Option (List ℕ)
put_row rows sessions id packages (FileOf session part path) =
    if session.0 == id.0 then package_file packages part path else settled_row rows sessions (FileOf session part path)
put_row rows sessions id packages k = settled_row rows sessions k

-- after a submit that is admitted, the rows are these
abbrev pub SubmitsPutRows : Type 0
SubmitsPutRows =
    (w : World) → Lawful w → (id : SessionId) (children : List SessionId) (rollback : Bool) (parts : List FileMap)
    (packages : List Package) → admitted w id children parts ≡ Ok packages
    → Lawful (entered w id children rollback packages) → (k : Key) → IsKey k
    → row_at (entered w id children rollback packages) k
    ≡ put_row (rows w) (entered w id children rollback packages).sessions id packages k

-- it adds the weight of its modules
abbrev pub SubmitsAddWeight : Type 0
SubmitsAddWeight =
    (w : World) → Lawful w → (id : SessionId) (children : List SessionId) (rollback : Bool) (parts : List FileMap)
    (packages : List Package) → admitted w id children parts ≡ Ok packages
    → weight (entered w id children rollback packages) ≡ weight w + sum_by (λ p. module_weight p.content) packages

-- and the units of its kind
abbrev pub SubmitsAddUnits : Type 0
SubmitsAddUnits =
    (w : World) → Lawful w → (id : SessionId) (children : List SessionId) (rollback : Bool) (parts : List FileMap)
    (packages : List Package) → admitted w id children parts ≡ Ok packages
    → units (entered w id children rollback packages) ≡ units w + kind_units (kind_of rollback)
