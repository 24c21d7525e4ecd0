-- What becomes of rows at a boot: docs/rows.md, "After a boot".
use Rattle.std.specs.Prelude.{◌≡◌, ℕ, ◌==◌, ◌&&◌, Bool, true, is_some, List, [], ◌∷◌, Option, Some, None, option_and_then, if◌then◌else◌, refl, codes}
use Rattle.std.specs.List.{list_any}
use Rattle.std.specs.Option.{option_map}
use Rattle.std.specs.Str.{bytes_eq}
use Rattle.apex_base.specs.declared.records.Kind.{Kind}
use Rattle.apex_base.specs.declared.records.Kind.TheVariants.{Plain, WithRollback, RollbackOf}
use Rattle.apex_base.specs.declared.records.Record.{Record}
use Rattle.apex_base.specs.declared.records.State.{State}
use Rattle.apex_base.specs.declared.records.State.TheVariants as state
use Rattle.apex_base.specs.declared.records.Target.TheVariants.{Preinstalled}
use Rattle.apex_base.specs.Held.{kept, is_target}
use Rattle.apex_base.specs.Keys.{Key, Boots, RecordOf, ActiveOf, BackupOf, FileOf, DataOf, SnapshotOf, PreRestoreOf, WatchOf, IsKey, RowMap}
use Rattle.apex_base.specs.Sessions.{names, session_of}
use Rattle.apex_base.specs.Settled.{active_of, backup_of}
use Rattle.apex_base.specs.Spelling.{record_text}
use Rattle.apex_base.specs.Windows.{last_five}
use Rattle.apex_world.specs.declared.calls.BootOrder.{BootOrder}
use Rattle.apex_world.specs.declared.calls.Image.{Image}
use Rattle.apex_world.specs.declared.calls.Observer.{Observer}
use Rattle.apex_world.specs.Boot.{boot_world}
use Rattle.world_laws.specs.Invariance.{IsOrderOf}
use Rattle.apex_world.specs.Lawful.{Lawful}
use Rattle.apex_world.specs.Opened.{end_of}
use Rattle.apex_world.specs.Restore.{became, undoing}
use Rattle.apex_world.specs.Rows.{boots_text, rows, row_at, has_snapshot, has_pre_restore}
use Rattle.world_laws.specs.RowsAfter.{still}
use Rattle.apex_world.specs.Selection.{Mounts, preinstalled}
use Rattle.apex_world.specs.Watching.{is_before}
use Rattle.apex_world.specs.World.{World, boots}

-- 6. a value of a name of the image comes from where it was put by: the session that goes back, if one was activated;
-- what that session's names had before it, if one was reverted; and else the value itself

-- where a session brings a value back from, by its state before and after the boot
abbrev pub brought_by : Kind → Record → Record → List ℕ → List ℕ → Option Key
brought_by Plain old new name key = None
brought_by WithRollback old new name key = None
brought_by (RollbackOf x) old new name key =
    if became state.Activated old new then Some (SnapshotOf x name key)
    else (if became state.Reverted old new then Some (PreRestoreOf old.id name key)
    else None)

abbrev pub brought_to : Record → Option Record → List ℕ → List ℕ → Option Key
brought_to old None name key = None
brought_to old (Some new) name key = if names name old then brought_by old.kind old new name key else None

abbrev pub or_key : Option Key → Key → Key
or_key None rest = rest
or_key (Some k) rest = k

-- at most one session brings a name's values back
abbrev pub source_of : List Record → List Record → List ℕ → List ℕ → Key
source_of [] after name key = DataOf name key
source_of (r ∷ rs) after name key = or_key (brought_to r (session_of after r.id) name key) (source_of rs after name key)

abbrev pub has_name : Image → List ℕ → Bool
has_name image name = is_some (preinstalled image.modules name)

-- 7 and 8. what a session keeps of a name: what the name had just before the boot that activated the session, if that is
-- this one, and else what the session kept
abbrev pub past_row : RowMap → ℕ → (Record → Bool) → Option Record → List ℕ → List ℕ → Key → Option (List ℕ)
past_row rows n test None name key k = None
past_row rows n test (Some r) name key k =
    if test r then (if r.activation == n then still rows (DataOf name key) (names name r) else still rows k true) else None

-- 9. a watch lasts whose observer is registered, whose name the image has, and whose end isn't reached
abbrev pub is_registered_by : List Observer → List ℕ → Bool
is_registered_by observers observer = list_any (λ o. bytes_eq o.name observer) observers

abbrev pub lasts_in : RowMap → ℕ → Key → Bool
lasts_in rows t k = is_before t (option_and_then end_of (still rows k true))

-- the row at a key after boot n, by the rows before it, the sessions before and after it, its order and the moments after
-- it
abbrev pub booted_row : RowMap → List Record → List Record → BootOrder → ℕ → List ℕ → Key → Option (List ℕ)
booted_row rows before after order n moments Boots = Some (boots_text n (last_five moments))
booted_row rows before after order n moments (RecordOf id) = option_map record_text (session_of after id)
booted_row rows before after order n moments (ActiveOf name) = active_of after name
booted_row rows before after order n moments (BackupOf name) = backup_of after name
booted_row rows before after order n moments (FileOf id part path) = still rows (FileOf id part path) (is_target (kept after) id part)
booted_row rows before after order n moments (DataOf name key) = still rows (source_of before after name key) (has_name order.image name)
booted_row rows before after order n moments (SnapshotOf id name key) = past_row rows n (has_snapshot after) (session_of after id) name key (SnapshotOf id name key)
booted_row rows before after order n moments (PreRestoreOf id name key) = past_row rows n has_pre_restore (session_of after id) name key (PreRestoreOf id name key)
booted_row rows before after order n moments (WatchOf observer name) =
    still rows (WatchOf observer name) (is_registered_by order.observers observer && (has_name order.image name && lasts_in rows order.time (WatchOf observer name)))

-- after a boot, the rows are these
abbrev pub BootsSettleRows : Type 0
BootsSettleRows =
    (w : World) → Lawful w → (order : BootOrder) → IsOrderOf w order → (mounts : Mounts) → (k : Key) → IsKey k
    → row_at (boot_world w order mounts) k
    ≡ booted_row (rows w) w.sessions (boot_world w order mounts).sessions order (boots (boot_world w order mounts)) (boot_world w order mounts).moments k

-- Worked values: session 1073741825, which goes back to before session 1 and names `a`, was activated, was reverted, or
-- stays what it is

abbrev pub example : State → Record
example s = record (undoing s 5) { parts = record { name = codes "a"; version = None; target = Preinstalled } ∷ [] }

abbrev pub example_source : State → State → Key
example_source s t = source_of (example s ∷ []) (example t ∷ []) (codes "a") (codes "k")

pub from_snapshot : example_source state.Staged state.Activated ≡ SnapshotOf (record { 0 = 1 }) (codes "a") (codes "k")
from_snapshot = refl

pub from_pre_restore : example_source state.Activated state.Reverted ≡ PreRestoreOf (record { 0 = 1073741825 }) (codes "a") (codes "k")
from_pre_restore = refl

pub from_itself : example_source state.Activated state.Activated ≡ DataOf (codes "a") (codes "k")
from_itself = refl
