-- Worlds of which the same is stored: docs/rows.md, "Alike".
use Rattle.std.specs.Prelude.{◌≡◌, ◌⊎◌, ℕ, true, List}
use Rattle.apex_base.specs.declared.numbers.SessionId.{SessionId}
use Rattle.apex_base.specs.declared.records.Record.{Record}
use Rattle.apex_base.specs.Held.{kept, is_target}
use Rattle.apex_base.specs.Members.{In}
use Rattle.apex_base.specs.Sessions.{names}
use Rattle.apex_base.specs.Tables.{value_of}
use Rattle.apex_base.specs.Windows.{last_five}
use Rattle.apex_world.specs.Report.{failures_of}
use Rattle.apex_world.specs.Rows.{has_snapshot, has_pre_restore}
use Rattle.apex_world.specs.Selection.{submitted_by}
use Rattle.apex_world.specs.Stepped.{Stepped}
use Rattle.apex_world.specs.World.{World, boots, era}

-- a session keeps what its names had before it was activated
abbrev pub KeepsPast : List Record → Record → Type 0
KeepsPast sessions r = (has_snapshot sessions r ≡ true) ⊎ (has_pre_restore r ≡ true)

-- the same sessions, data, watches and boots, the same modules where they are kept, and the same earlier data where a
-- session keeps it
pub record AreStoredAlike (w v : World) : Type 0 where
  pub sessions : w.sessions ≡ v.sessions
  pub modules : (session : SessionId) (part : ℕ) → is_target (kept w.sessions) session part ≡ true
      → submitted_by w.modules session part ≡ submitted_by v.modules session part
  pub contents : w.contents ≡ v.contents
  pub past : (r : Record) (name key : List ℕ) → In r w.sessions → KeepsPast w.sessions r → names name r ≡ true
      → value_of (era w.eras r.activation) name key ≡ value_of (era v.eras r.activation) name key
  pub boots : boots w ≡ boots v
  pub moments : last_five w.moments ≡ last_five v.moments
  pub watches : w.watches ≡ v.watches

-- Worlds of which the same is stored, and the same runs
pub record AreAlikeInParts (w v : World) : Type 0 where
  pub stored : AreStoredAlike w v
  pub scale : w.scale ≡ v.scale
  pub image : w.image ≡ v.image
  pub observers : w.observers ≡ v.observers
  pub active : w.active ≡ v.active
  pub clock : w.clock ≡ v.clock
  pub failures : (name : List ℕ) → last_five (failures_of w.failures name) ≡ last_five (failures_of v.failures name)

-- the same replies, and such worlds
pub record AreSteppedAlike (a b : Stepped) : Type 0 where
  pub reply : a.reply ≡ b.reply
  pub world : AreAlikeInParts a.world b.world
