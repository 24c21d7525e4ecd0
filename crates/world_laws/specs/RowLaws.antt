-- What the rows of a lawful world open to, and what the rows of data weigh: docs/rows.md.
use Rattle.std.specs.Prelude.{◌≡◌, ℕ, List}
use Rattle.apex_base.specs.RowSums.{name_weight}
use Rattle.apex_world.specs.Data.{data_weight}
use Rattle.apex_world.specs.Lawful.{Lawful}
use Rattle.apex_world.specs.Opened.{opened}
use Rattle.apex_world.specs.Rows.{rows}
use Rattle.apex_world.specs.World.{World}
use Rattle.world_laws.specs.StoredAlike.{AreStoredAlike}

-- the rows of a name's data weigh as much as that data
abbrev pub DataRowsWeighTheData : Type 0
DataRowsWeighTheData = (w : World) → Lawful w → (name : List ℕ)
    → name_weight (rows w) name ≡ data_weight w.contents name

-- Opening

-- the world that the rows of a lawful world open to is lawful
abbrev pub OpenedIsLawful : Type 0
OpenedIsLawful = (w : World) → Lawful w → Lawful (opened (rows w) w.scale)

-- and has these rows
abbrev pub OpenedHasTheRows : Type 0
OpenedHasTheRows = (w : World) → Lawful w → rows (opened (rows w) w.scale) ≡ rows w

-- Worlds of the same rows

-- the same is stored of lawful worlds that have the same rows
abbrev pub SameRowsStoreAlike : Type 0
SameRowsStoreAlike = (w v : World) → Lawful w → Lawful v → rows w ≡ rows v → AreStoredAlike w v

-- and lawful worlds of which the same is stored have the same rows
abbrev pub StoredAlikeHasSameRows : Type 0
StoredAlikeHasSameRows = (w v : World) → Lawful w → Lawful v → AreStoredAlike w v → rows w ≡ rows v
