-- The law of wholeness: what is activated is active in whole, and nothing else that was submitted is.
-- docs/LAWS.md, "Wholeness" and "One active module".
use Rattle.std.specs.Prelude.{◌≡◌, ℕ, true, fold, List, Some}
use Rattle.apex_base.specs.declared.numbers.SessionId.{SessionId}
use Rattle.apex_base.specs.declared.records.Part.{Part}
use Rattle.apex_base.specs.declared.records.Pick.{Pick}
use Rattle.apex_base.specs.declared.records.Place.TheVariants.{Data, Pre}
use Rattle.apex_base.specs.declared.records.Record.{Record}
use Rattle.apex_base.specs.declared.records.Target.{Target}
use Rattle.apex_base.specs.declared.records.Target.TheVariants as targets
use Rattle.apex_base.specs.Held.{held, is_standing, is_undoable}
use Rattle.apex_base.specs.Members.{In}
use Rattle.apex_base.specs.Sessions.{session_of}
use Rattle.apex_world.specs.declared.calls.BootOrder.{BootOrder}
use Rattle.apex_world.specs.declared.calls.Call.{Call}
use Rattle.apex_world.specs.Boot.{boot_world}
use Rattle.apex_world.specs.Lawful.{Lawful}
use Rattle.apex_world.specs.Orders.{IsOrder}
use Rattle.apex_world.specs.Selection.{Mounts}
use Rattle.apex_world.specs.Step.{step}
use Rattle.apex_world.specs.Submit.{preinstalled_version}
use Rattle.apex_world.specs.World.{World}

-- what is active of a name comes from a target: the image's module, or the module on data that the name holds
abbrev pub IsActiveFrom : World → List ℕ → Target → Type 0
IsActiveFrom w name targets.Preinstalled = (version : ℕ) × (preinstalled_version w.image name ≡ Some version)
    × In (record { name = name; chosen = Some (version, Pre) }) w.active
IsActiveFrom w name (targets.Module session part version) =
    In (record { name = name; chosen = Some (version, Data) }) w.active
    × (held w.sessions name ≡ targets.Module session part version)

-- the module on data that is active for a name: what the name holds, submitted by a session that stands
pub record IsOnData (w : World) (name : List ℕ) (version : ℕ) : Type 0 where
  pub session : SessionId
  pub part : ℕ
  pub submitter : Record
  pub holds : held w.sessions name ≡ targets.Module session part version
  pub found : session_of w.sessions session ≡ Some submitter
  -- it is ACTIVATED, SUCCESS or REVERT_IN_PROGRESS, and so in no other state
  pub stands : is_standing submitter.state ≡ true

pub record IsWhole (w : World) : Type 0 where
  -- each part of each session that can be undone, so each that is ACTIVATED or REVERT_IN_PROGRESS, is active, from its
  -- target
  pub parts : (r : Record) (p : Part) → In r w.sessions → is_undoable r.state ≡ true → In p r.parts
      → IsActiveFrom w p.name p.target
  pub modules : (name : List ℕ) (version : ℕ) → In (record { name = name; chosen = Some (version, Data) }) w.active
      → IsOnData w name version

-- the world after calls
abbrev pub called : World → List Call → World
called w calls = fold (λ w call. (step w call).world) w calls

abbrev pub Wholeness : Type 0
Wholeness = (w : World) (order : BootOrder) (mounts : Mounts) (calls : List Call) → Lawful w
    → IsWhole (called (boot_world w order mounts) calls)

-- the active set has each name once
abbrev pub AreOnce : List Pick → Type 0
AreOnce active = (p q : Pick) → In p active → In q active → p.name ≡ q.name → p ≡ q

abbrev pub OneActive : Type 0
OneActive = (w : World) (order : BootOrder) (mounts : Mounts) (calls : List Call) → Lawful w → IsOrder order
    → AreOnce (called (boot_world w order mounts) calls).active
