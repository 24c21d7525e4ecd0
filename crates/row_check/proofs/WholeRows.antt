-- Rows that agree at each tag with those of the world that they open to. Callers want `whole_rows`.
use Rattle.std.proofs.Common.{◌≡◌, ℕ, List, [], ◌∷◌, None, sym, ◌∙◌, refl}
use Rattle.std.specs.FinMap as fin
use Rattle.apex_base.specs.declared.numbers.Scale.{Scale}
use Rattle.apex_base.specs.Keys.{RowMap, key_of}
use Rattle.row_map.proofs.Maps.{same_rows}
use Rattle.row_check.specs.BadRows.{opened_rows, AgreesAt}
use Rattle.row_check.proofs.KeysRead.{no_key_row}

no_empty_key : key_of [] ≡ None
unfolding key_of
no_empty_key = refl

module _ (m : RowMap) (scale : Scale) (keyed : fin.get m [] ≡ None) (agree : (tag : ℕ) → AgreesAt m scale tag) where
  same_at : (q : List ℕ) → fin.get (opened_rows m scale) q ≡ fin.get m q
  same_at [] = no_key_row m scale [] no_empty_key ∙ sym keyed
  same_at (tag ∷ rest) = sym (agree tag rest)

  -- they are those rows
  pub whole_rows : opened_rows m scale ≡ m
  whole_rows = same_rows (opened_rows m scale) m same_at
