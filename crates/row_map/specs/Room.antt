-- Room for a batch: each key that it writes is there, so that no change takes memory.
use Rattle.std.specs.Prelude.{◌≡◌, ◌⊎◌, ℕ, List, [], ◌∷◌, None, Bool, false, IsTrue, cond, ◌||◌}
use Rattle.std.specs.Cmp.Lexicographic.{slice_cmp}
use Rattle.std.specs.Ordering.{nat_cmp, eq_by_cmp}
use Rattle.std.specs.Option.{is_some, is_none}
use Rattle.std.specs.FinMap as fin
use Rattle.row_codec.specs.declared.batch.Row.{Row}
use Rattle.row_map.specs.Rows.{RowMap}

abbrev pub same_key : List ℕ → List ℕ → Bool
same_key = eq_by_cmp (slice_cmp nat_cmp)

abbrev pub among : List ℕ → List (List ℕ) → Bool
among q [] = false
among q (key ∷ keys) = same_key q key || among q keys

abbrev pub in_batch : List ℕ → List Row → Bool
in_batch q [] = false
in_batch q (row ∷ rows) = same_key q row.key || in_batch q rows

-- the first map is the second without these keys
abbrev pub Back : List (List ℕ) → RowMap → RowMap → Type 0
Back keys m n = (q : List ℕ) → fin.get m q ≡ cond (among q keys) None (fin.get n q)

-- the maps agree but at the batch's keys
abbrev pub Agrees : List Row → RowMap → RowMap → Type 0
Agrees rows m n = (q : List ℕ) → in_batch q rows ≡ false → fin.get m q ≡ fin.get n q

-- a row that deletes, or whose key is there
abbrev pub Covers : Row → RowMap → Type 0
Covers row m = IsTrue (is_none row.value) ⊎ IsTrue (is_some (fin.get m row.key))

abbrev pub HasRoom : List Row → RowMap → Type 0
HasRoom [] m = Unit {0}
HasRoom (row ∷ rows) m = Covers row m × HasRoom rows m

-- each key that is there stays
abbrev pub Grows : RowMap → RowMap → Type 0
Grows m n = (q : List ℕ) → IsTrue (is_some (fin.get m q)) → IsTrue (is_some (fin.get n q))

-- what a row has added, noted
pub record Adds (row : Row) (old : RowMap) (added : List (List ℕ)) (new : RowMap) (added' : List (List ℕ)) : Type
    0 where
  pub noted : (start : RowMap) → Back added start old → Back added' start new
  pub others : (q : List ℕ) → same_key q row.key ≡ false → fin.get new q ≡ fin.get old q
  pub grows : Grows old new
