-- Worlds that no boot and no call tells apart: docs/rows.md, "Alike".
use Rattle.std.specs.Prelude.{◌≡◌, ℕ, List}
use Rattle.apex_base.specs.Windows.{last_five}
use Rattle.apex_world.specs.Report.{failures_of}
use Rattle.apex_world.specs.Rows.{rows}
use Rattle.apex_world.specs.Stepped.{Stepped}
use Rattle.apex_world.specs.World.{World}

-- the same rows, and the same runs
pub record Alike (w v : World) : Type 0 where
  pub scale : w.scale ≡ v.scale
  pub rows : rows w ≡ rows v
  pub image : w.image ≡ v.image
  pub observers : w.observers ≡ v.observers
  pub active : w.active ≡ v.active
  pub clock : w.clock ≡ v.clock
  pub failures : (name : List ℕ) → last_five (failures_of w.failures name) ≡ last_five (failures_of v.failures name)

-- the same replies, and worlds that are alike
pub record AlikeAfter (a b : Stepped) : Type 0 where
  pub reply : a.reply ≡ b.reply
  pub world : Alike a.world b.world
