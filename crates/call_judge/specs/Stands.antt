-- Which worlds rows and tables stand for: docs/rows.md, "A core".
use Rattle.std.specs.Prelude.{◌≡◌, Some}
use Rattle.apex_base.specs.Keys.{RowMap}
use Rattle.apex_world.specs.Limits.{units, weight}
use Rattle.apex_world.specs.Rows.{rows}
use Rattle.apex_world.specs.Running.{Running}
use Rattle.apex_world.specs.World.{World}
use Rattle.stored_world.specs.Stored.{IsSimple}
use Rattle.call_judge.specs.declared.tables.Tables.{Tables}
use Rattle.call_judge.specs.Unfinished.{AreUnfinished}

-- the rows are those of a running world that calls and boots lead to, and the tables are its sessions, by names those that
-- are unfinished, what they sum up to, and what runs
pub record StandsFor (kept : RowMap) (tables : Tables) (w : World) : Type 0 where
  pub running : Running w
  pub simple : IsSimple w
  pub stored : kept ≡ rows w
  pub scale : tables.scale ≡ w.scale
  pub sessions : tables.sessions.items ≡ w.sessions
  pub unfinished : AreUnfinished tables.unfinished w.sessions
  pub units : tables.units ≡ units w
  pub weight : tables.weight ≡ weight w
  pub image : Some tables.image ≡ w.image
  pub active : tables.active ≡ w.active
  pub clock : tables.clock ≡ w.clock
