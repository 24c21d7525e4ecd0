-- What a boot does with the data of modules: docs/boot.md, "Data" (AOSP's RollbackManagerServiceImpl and apexd).
use Rattle.std.specs.Prelude.{ℕ, ◌==◌, ◌&&◌, Bool, not, is_some, List, fold, Option, Some, None, if◌then◌else◌, ◌≡◌, refl, codes, [], ◌∷◌}
use Rattle.std.specs.Option.{option_map}
use Rattle.std.specs.FinMap as fin
use Rattle.apex_base.specs.declared.records.Kind.{Kind}
use Rattle.apex_base.specs.declared.records.Kind.TheVariants.{Plain, WithRollback, RollbackOf}
use Rattle.apex_base.specs.declared.records.Part.{Part}
use Rattle.apex_base.specs.declared.records.Record.{Record}
use Rattle.apex_base.specs.declared.records.State.{State}
use Rattle.apex_base.specs.declared.records.State.TheVariants as state
use Rattle.apex_base.specs.Moves.{state_number}
use Rattle.apex_base.specs.Sessions.{session_of}
use Rattle.apex_base.specs.Tables.{part_of, with_part}
use Rattle.apex_world.specs.declared.calls.Image.{Image}
use Rattle.apex_world.specs.Selection.{preinstalled}
use Rattle.apex_world.specs.World.{Contents, era}
use Rattle.apex_base.specs.declared.numbers.SessionId.{SessionId}

-- a session went to this state
abbrev pub became : State → Record → Record → Bool
became s old new = (state_number new.state == state_number s) && not (state_number old.state == state_number s)

-- the boot just before which a rollback session's names had the data that they get: that which activated the
-- session that is rolled back, where the rollback session is activated; and its own, where it is reverted
abbrev pub era_for : List Record → Record → Record → Kind → Option ℕ
era_for sessions old new Plain = None
era_for sessions old new WithRollback = None
era_for sessions old new (RollbackOf x) =
    if became state.Activated old new then option_map (λ r. r.activation) (session_of sessions x)
    else (if became state.Reverted old new then Some new.activation
    else None)

-- the data of each name is that of an earlier time
abbrev pub with_names : Contents → List Part → Contents → Contents
with_names earlier parts contents = fold (λ c p. with_part c p.name (part_of earlier p.name)) contents parts

abbrev pub restored_to : List Contents → List Part → Option ℕ → Contents → Contents
restored_to eras parts None contents = contents
restored_to eras parts (Some b) contents = with_names (era eras b) parts contents

abbrev pub restored_by : List Contents → List Record → Record → Record → Contents → Contents
restored_by eras sessions old new contents = restored_to eras new.parts (era_for sessions old new new.kind) contents

-- what the boot makes of all sessions, it makes of their data
abbrev pub restored : (Record → Record) → List Contents → List Record → Contents → Contents
restored become eras sessions contents = fold (λ c r. restored_by eras sessions r (become r) c) contents sessions

-- data of names that the image lacks is removed
abbrev pub of_image : Image → Contents → Contents
of_image image contents = fin.retain_keys contents (λ name. is_some (preinstalled image.modules name))

-- Worked values: session 1 was activated by boot 2, and its rollback session by boot 5, which brings back the data from
-- before boot 2. The boot that reverts it brings back the data from before boot 5

abbrev pub example : SessionId → Kind → State → ℕ → Record
example id kind s boot = record {
  id = id;
  children = [];
  kind = kind;
  parts = [];
  print = codes "P";
  state = s;
  cause = None;
  activation = boot;
  rollback = None;
  moment = 0;
}

abbrev pub undone : Record
undone = example (record { 0 = 1 }) WithRollback state.Success 2

abbrev pub undoing : State → ℕ → Record
undoing s boot = example (record { 0 = 1073741825 }) (RollbackOf (record { 0 = 1 })) s boot

pub at_activation : era_for (undone ∷ []) (undoing state.Staged 0) (undoing state.Activated 5) (RollbackOf (record { 0 = 1 })) ≡ Some 2
at_activation = refl

pub at_revert : era_for (undone ∷ []) (undoing state.Activated 5) (undoing state.Reverted 5) (RollbackOf (record { 0 = 1 })) ≡ Some 5
at_revert = refl

pub at_no_change : era_for (undone ∷ []) (undoing state.Activated 5) (undoing state.Activated 5) (RollbackOf (record { 0 = 1 })) ≡ None
at_no_change = refl
