-- Which worlds calls and boots lead to, and which rows are those of one: docs/rows.md, "A core".
use Rattle.std.specs.Prelude.{◌≡◌, []}
use Rattle.apex_base.specs.declared.records.Record.{Record}
use Rattle.apex_base.specs.Keys.{RowMap}
use Rattle.apex_base.specs.Members.{In}
use Rattle.apex_world.specs.Lawful.{Lawful}
use Rattle.world_facts.specs.Plain.{IsPlain}
use Rattle.apex_world.specs.Rows.{rows}
use Rattle.apex_world.specs.World.{World}

-- a world that the calls and the boots built so far lead to: plain sessions without children
pub record IsSimple (w : World) : Type 0 where
  pub plain : IsPlain w
  pub childless : (r : Record) → In r w.sessions → r.children ≡ []

-- the rows are those of such a world
pub record IsStored (kept : RowMap) (w : World) : Type 0 where
  pub lawful : Lawful w
  pub simple : IsSimple w
  pub stored : kept ≡ rows w
