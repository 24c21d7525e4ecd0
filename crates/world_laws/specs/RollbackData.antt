-- The law of a rollback's data: what a boot makes of data where it activates or reverts the session that a rollback
-- made. docs/LAWS.md, "A rollback's data".
use Rattle.std.specs.Prelude.{◌≡◌, ◌≢◌, ◌⊎◌, ◌≤◌, ◌<◌, ℕ, true, false, List, Some}
use Rattle.std.specs.FinMap as fin
use Rattle.apex_base.specs.declared.numbers.SessionId.{SessionId}
use Rattle.apex_base.specs.declared.records.Kind.TheVariants.{RollbackOf}
use Rattle.apex_base.specs.declared.records.Record.{Record}
use Rattle.apex_base.specs.declared.records.State.{State}
use Rattle.apex_base.specs.declared.records.State.TheVariants as state
use Rattle.apex_base.specs.Members.{In}
use Rattle.apex_base.specs.Sessions.{names, session_of}
use Rattle.apex_base.specs.Tables.{part_of}
use Rattle.apex_world.specs.declared.calls.BootOrder.{BootOrder}
use Rattle.apex_world.specs.Boot.{boot_world}
use Rattle.apex_world.specs.Lawful.{Lawful}
use Rattle.apex_world.specs.Running.{runs}
use Rattle.apex_world.specs.Selection.{Mounts}
use Rattle.apex_world.specs.World.{World, boots, era}

-- a session that wasn't in this state is in it afterwards
pub record WentTo (s : State) (r : Record) (after : World) : Type 0 where
  pub after_it : Record
  pub was : r.state ≢ s
  pub found : session_of after.sessions r.id ≡ Some after_it
  pub is : after_it.state ≡ s

-- the data of a name is that which it had just before boot b, an earlier one than the last
pub record HasDataOf (w : World) (b : ℕ) (name : List ℕ) : Type 0 where
  pub begun : 1 ≤ b
  pub earlier : b < boots w
  pub same : part_of w.contents name ≡ part_of (era w.eras b) name

-- a session that a rollback made was activated or reverted, and names the name
abbrev pub IsRestoredBy : World → List ℕ → Record → SessionId → Type 0
IsRestoredBy after name r x =
    (r.kind ≡ RollbackOf x) × (names name r ≡ true) × (WentTo state.Activated r after ⊎ WentTo state.Reverted r after)

-- data before a boot, and after it
pub record RestoresData (before after : World) : Type 0 where
  -- where the rollback of session x was activated: that from before the boot which activated x
  pub activated : (r : Record) (id : SessionId) (name : List ℕ) → In r before.sessions → r.kind ≡ RollbackOf id
      → WentTo state.Activated r after → names name r ≡ true
      → (x : Record) × (session_of before.sessions id ≡ Some x) × HasDataOf after x.activation name
  -- where it was reverted: that from before the boot which activated it, if the image has the name
  pub reverted : (r : Record) (id : SessionId) (name : List ℕ) → In r before.sessions → r.kind ≡ RollbackOf id
      → WentTo state.Reverted r after → names name r ≡ true
      → runs after name ≡ true → HasDataOf after r.activation name
  -- all other data of the image's names stays
  pub others : (name : List ℕ) → runs after name ≡ true
      → ((r : Record) (id : SessionId) → In r before.sessions → IsRestoredBy after name r id → ⊥)
      → part_of after.contents name ≡ part_of before.contents name
  -- a name that the image lacks has none
  pub removed : (name : List ℕ) → runs after name ≡ false → part_of after.contents name ≡ fin.empty

abbrev pub RollbackData : Type 0
RollbackData = (w : World) (order : BootOrder) (mounts : Mounts) → Lawful w → RestoresData w (boot_world w order mounts)
