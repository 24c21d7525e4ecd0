-- What is lawful of a world beside its sessions, part by part: docs/rows.md, "Lawful worlds". The fields are those of
-- `Lawful`.
use Rattle.std.specs.Prelude.{◌≡◌, ◌≤◌, ℕ, ◌*◌, List, [], Some}
use Rattle.apex_base.specs.Members.{In}
use Rattle.apex_base.specs.Modules.{IsModule}
use Rattle.apex_base.specs.Numbers.{scale_modules, scale_file_weight, scale_units}
use Rattle.apex_base.specs.Tables.{value_of}
use Rattle.apex_world.specs.declared.world.Submission.{Submission}
use Rattle.apex_world.specs.Bounds.{HasLittleData, can_be_rolled_back, can_be_undone, is_ready_rollback, name_count, table_len}
use Rattle.apex_world.specs.Lawful.{HaveModules}
use Rattle.apex_world.specs.Limits.{units, weight}
use Rattle.apex_world.specs.World.{World, Contents, boots}

-- each module that is kept is there, is sound, and says its part's name and version; all are within the scale
pub record HasLawfulModules (w : World) : Type 0 where
  pub ranges : (s : Submission) → In s w.modules → IsModule s.content
  pub modules : HaveModules w
  pub weight : weight w ≤ scale_file_weight w.scale

-- data is within the scale, now and just before each boot
pub record HasLawfulData (w : World) : Type 0 where
  pub contents : HasLittleData w.scale w.contents
  pub eras : (contents : Contents) → In contents w.eras → HasLittleData w.scale contents

-- watches are within the scale, and each ends at most a duration after a moment
pub record HasLawfulWatches (w : World) : Type 0 where
  pub ends : (observer name : List ℕ) (end : ℕ) → value_of w.watches observer name ≡ Some end → end ≤ 18014398509481982
  pub few : table_len w.watches ≤ 8 * scale_modules w.scale

-- units and names are within the scale, and before the first boot there is no moment
pub record HasLawfulCounts (w : World) : Type 0 where
  pub units : units w ≤ scale_units w.scale
  pub undoable : name_count can_be_undone w.sessions ≤ scale_modules w.scale
  pub available : name_count can_be_rolled_back w.sessions ≤ scale_modules w.scale
  pub waiting : name_count is_ready_rollback w.sessions ≤ scale_modules w.scale
  pub begun : boots w ≡ 0 → w.moments ≡ []
