-- Where rows differ from those of the world that they open to: docs/rows.md, "Opening".
use Rattle.std.specs.Prelude.{◌≡◌, ◌≢◌, ℕ, ◌<◌, List, ◌∷◌}
use Rattle.std.specs.FinMap as fin
use Rattle.apex_base.specs.declared.numbers.Scale.{Scale}
use Rattle.apex_base.specs.Keys.{RowMap}
use Rattle.apex_world.specs.Opened.{opened}
use Rattle.apex_world.specs.Rows.{rows}

-- the rows of the world that rows open to
abbrev pub opened_rows : RowMap → Scale → RowMap
opened_rows m scale = rows (opened m scale)

-- at each key of this tag both have the same
abbrev pub AgreesAt : RowMap → Scale → ℕ → Type 0
AgreesAt m scale tag = (rest : List ℕ) → fin.get m (tag ∷ rest) ≡ fin.get (opened_rows m scale) (tag ∷ rest)

-- at a key of this tag they differ
abbrev pub DiffersAt : RowMap → Scale → ℕ → Type 0
DiffersAt m scale tag = (rest : List ℕ) × (fin.get m (tag ∷ rest) ≢ fin.get (opened_rows m scale) (tag ∷ rest))

-- they differ at a key of this tag, and at none of a lesser tag
pub record IsLeastDifference (m : RowMap) (scale : Scale) (tag : ℕ) : Type 0 where
  pub here : DiffersAt m scale tag
  pub before : (lesser : ℕ) → lesser < tag → AgreesAt m scale lesser
