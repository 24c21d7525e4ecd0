-- The least tag at which rows are wrong: docs/rows.md, "Opening". The tags of keys are below 10.
use Rattle.std.specs.Prelude.{ℕ, ◌<◌, nat_le, nat_lt, List, [], ◌∷◌, Option, Some, None, if◌then◌else◌}
use Rattle.apex_base.specs.declared.numbers.Scale.{Scale}
use Rattle.apex_base.specs.declared.why.Why.{Why}
use Rattle.apex_base.specs.declared.why.Why.TheVariants.{Fault, NoMemory}
use Rattle.apex_base.specs.Keys.{RowMap}
use Rattle.row_check.specs.declared.opened.BadRows.{BadRows}
use Rattle.row_check.specs.declared.tags.Judged.{Judged}
use Rattle.row_check.specs.BadRows.{AgreesAt, IsLeastDifference}
use Rattle.row_check.specs.SettledTags.{Tells}

-- at all tags below this both have the same
abbrev pub AgreeBelow : RowMap → ℕ → Type 0
AgreeBelow m tag = (low : ℕ) → low < tag → (scale : Scale) → AgreesAt m scale low

-- the least tag at which they differ, or none where they differ at no tag
abbrev pub IsWrongTag : RowMap → Option ℕ → Type 0
IsWrongTag m None = (scale : Scale) (tag : ℕ) → AgreesAt m scale tag
IsWrongTag m (Some tag) = (scale : Scale) → IsLeastDifference m scale tag

-- rows are refused for that tag
abbrev pub AreBad : RowMap → Why BadRows → Type 0
AreBad m (Fault bad) = (scale : Scale) → IsLeastDifference m scale bad.tag
AreBad m NoMemory = Unit {0}

-- what is said of the tags whose rows depend on the sessions
pub record AreJudged (m : RowMap) (judged : Judged) : Type 0 where
  pub sessions : Tells m 2 judged.sessions
  pub active : Tells m 3 judged.settled.active
  pub backup : Tells m 4 judged.settled.backup
  pub files : Tells m 5 judged.settled.files
  pub snapshots : Tells m 7 judged.kept.snapshots
  pub pre_restores : Tells m 8 judged.kept.pre_restores

-- what a row's key begins with, if that is above the tags of keys
abbrev pub strange_in : List ℕ → Option ℕ
strange_in [] = None
strange_in (tag ∷ key) = if nat_le 10 tag then Some tag else None

abbrev pub lesser : Option ℕ → Option ℕ → Option ℕ
lesser None other = other
lesser (Some a) None = Some a
lesser (Some a) (Some b) = if nat_lt b a then Some b else Some a

-- the least such tag
abbrev pub strange_tag : List (List ℕ × List ℕ) → Option ℕ
strange_tag [] = None
strange_tag (row ∷ rows) = lesser (strange_in row.0) (strange_tag rows)
