-- Where a boot brings data back from, and whose data it puts by, in one pass over the sessions: docs/rows.md, "After a
-- boot".
use Rattle.std.specs.Prelude.{◌≡◌, ℕ, ◌==◌, ◌&&◌, ◌||◌, Bool, not, List, [], ◌∷◌, map, flat_map, find, Option, Some, None, if◌then◌else◌, refl, codes}
use Rattle.std.specs.Option.{option_map}
use Rattle.std.specs.Str.{bytes_eq}
use Rattle.apex_base.specs.declared.numbers.SessionId.{SessionId}
use Rattle.apex_base.specs.declared.records.Kind.{Kind}
use Rattle.apex_base.specs.declared.records.Kind.TheVariants.{Plain, WithRollback, RollbackOf}
use Rattle.apex_base.specs.declared.records.Part.{Part}
use Rattle.apex_base.specs.declared.records.Record.{Record}
use Rattle.apex_base.specs.declared.records.State.TheVariants as state
use Rattle.apex_base.specs.Commit.{rolls_back}
use Rattle.apex_base.specs.Held.{is_available}
use Rattle.apex_base.specs.Keys.{Key, DataOf, SnapshotOf, PreRestoreOf}
use Rattle.apex_base.specs.Rollbacks.{is_enabling}
use Rattle.apex_base.specs.Sessions.{Ascend}
use Rattle.apex_world.specs.declared.calls.BootOrder.{BootOrder}
use Rattle.apex_world.specs.Boot.{become}
use Rattle.apex_world.specs.Restore.{became}
use Rattle.apex_world.specs.Rows.{has_snapshot}
use Rattle.world_laws.specs.RowsBooted.{example, source_of}
use Rattle.apex_world.specs.Selection.{Mounts}
use Rattle.apex_world.specs.World.{World}

-- what a session kept as it was activated, or what it had as it went back
pub data Origin : Type 0 where
  Snapshot : SessionId → Origin
  PreRestore : SessionId → Origin

-- where a session brings the values of its names back from, by its state before and after the boot
abbrev pub origin_by : Kind → Record → Record → Option Origin
origin_by Plain old new = None
origin_by WithRollback old new = None
origin_by (RollbackOf x) old new =
    if became state.Activated old new then Some (Snapshot x)
    else (if became state.Reverted old new then Some (PreRestore old.id)
    else None)

abbrev pub named_origins : List Part → Option Origin → List (List ℕ × Origin)
named_origins parts None = []
named_origins parts (Some origin) = map (λ p. (p.name, origin)) parts

-- of all sessions
abbrev pub origins : (Record → Record) → List Record → List (List ℕ × Origin)
origins become sessions = flat_map (λ r. named_origins r.parts (origin_by r.kind r (become r))) sessions

-- the first of a name
abbrev pub origin_of : List (List ℕ × Origin) → List ℕ → Option Origin
origin_of origins name = option_map (λ e. e.1) (find (λ e. bytes_eq e.0 name) origins)

abbrev pub key_from : Option Origin → List ℕ → List ℕ → Key
key_from None name key = DataOf name key
key_from (Some (Snapshot x)) name key = SnapshotOf x name key
key_from (Some (PreRestore id)) name key = PreRestoreOf id name key

-- each value's source is by that of its name
abbrev pub SourcesAreListed : Type 0
SourcesAreListed =
    (f : Record → Record) (sessions : List Record) → ((r : Record) → (f r).id ≡ r.id) → Ascend sessions → (name key : List ℕ)
    → source_of sessions (map f sessions) name key ≡ key_from (origin_of (origins f sessions) name) name key

-- A session that a boot has looked at keeps what its names had before it, while its rollback may become available or is

abbrev pub may_be_taken_back : Record → Bool
may_be_taken_back r = rolls_back r.kind && not (r.activation == 0) && (is_enabling r.rollback || is_available r.rollback)

-- after what a boot makes of sessions, no session that goes back is ready
abbrev pub SnapshotsGoByRollbacks : Type 0
SnapshotsGoByRollbacks =
    (w : World) (order : BootOrder) (mounts : Mounts) (b : ℕ) (s : Record)
    → has_snapshot (map (become mounts w.modules order b) w.sessions) s ≡ may_be_taken_back s

-- Worked value: session 1073741825, which goes back to before session 1 and names `a`, was activated

pub example_origins : origins (λ r. example state.Activated) (example state.Staged ∷ []) ≡ (codes "a", Snapshot (record { 0 = 1 })) ∷ []
example_origins = refl
