-- Which tags have the rows of the world that they open to, where rows depend on the sessions: docs/rows.md, "Opening".
use Rattle.std.specs.Prelude.{◌≡◌, ℕ, Bool, true, false, List}
use Rattle.std.specs.List.{list_any}
use Rattle.apex_base.specs.declared.numbers.Scale.{Scale}
use Rattle.apex_base.specs.Keys.{RowMap}
use Rattle.apex_base.specs.RowSums.{has_tag}
use Rattle.row_codec.specs.declared.batch.Row.{Row}
use Rattle.row_check.specs.BadRows.{AgreesAt, DiffersAt}

-- the answer says whether the rows of this tag are those of the opened world
pub record Tells (m : RowMap) (tag : ℕ) (answer : Bool) : Type 0 where
  pub right : answer ≡ true → (scale : Scale) → AgreesAt m scale tag
  pub wrong : answer ≡ false → (scale : Scale) → DiffersAt m scale tag

-- a change is one of a row of this tag
abbrev pub changes_tag : ℕ → List Row → Bool
changes_tag tag changes = list_any (λ change. has_tag tag change.key) changes
