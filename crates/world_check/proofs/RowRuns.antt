-- The rows of one front stand next to each other, since rows stand in the order of their keys. Callers want
-- `weight_back`, `weight_there`, `rows_together` and `rows_begin`.
use Rattle.std.proofs.Common.{◌≡◌, ℕ, true, List, [], ◌∷◌, ◌++◌, Option, Some, None, sym, ap, subst, ◌∙◌}
use Rattle.std.proofs.Common.{refl, inl, inr}
use Rattle.std.specs.FinMap.{is_sorted}
use Rattle.std.specs.FinMap.Entries.{below_all}
use Rattle.std.specs.BTreeMap.Comparable.{le_lt_trans}
use Rattle.std.specs.Ordering.{nat_cmp, is_le}
use Rattle.std.specs.declared.cmp.Ordering.TheVariants.{Less}
use Rattle.std.specs.Cmp.Lexicographic.{slice_cmp, nat_list_cmp_total}
use Rattle.std.specs.Str.{bytes_eq}
use Rattle.std.proofs.lemmas.Bool.{true≢false, and_parts}
use Rattle.std.proofs.lemmas.Slice.Eq.{bytes_eq-Decides}
use Rattle.apex_base.specs.Members.{In}
use Rattle.apex_base.proofs.Finding.{some_of}
use Rattle.package_store.proofs.Fronts.{front_le, between as begun}
use Rattle.row_check.proofs.KeyOrder.{below_less}
use Rattle.world_check.specs.DataRows.{Row, value_weight, weighed, with_some, weights_in}
use Rattle.row_key.specs.Data.{front_of}
use Rattle.world_check.proofs.FrontForms.{IsFull, one_front}
use Rattle.world_check.proofs.RunSums.{GoesOn, StandTogether}

abbrev pub Item : Type 0
Item = List ℕ × ℕ

-- a key between two that begin with a front begins with it
between : (f a c k : List ℕ) → slice_cmp nat_cmp (f ++ a) k ≡ Less → slice_cmp nat_cmp k (f ++ c) ≡ Less
    → (b : List ℕ) × (k ≡ f ++ b)
between f a c k low high =
    let less = le_lt_trans nat_list_cmp_total f (f ++ a) k (front_le f a) low in
    begun f k c (ap is_le less) high

-- What is weighed

pub weighed_as : (row : Row) (x : Item) → weighed row ≡ Some x
    → (front_of row.0 ≡ Some x.0) × (x.1 ≡ value_weight x.0 row)
weighed_as row x e =
    let (f, g, h) = some_of (λ (front : List ℕ). (front, value_weight front row)) (front_of row.0) x e in (
      g ∙ ap (λ (y : Item). Some y.0) h,
      sym (ap (λ (y : Item). y.1) h) ∙ ap (λ (y : Item). value_weight y.0 row) h,
    )

back_if : (o : Option Item) (x : Item) (row : Row) (rows : List Row) → weighed row ≡ o
    → (In x (weights_in rows) → (r : Row) × In r rows × (weighed r ≡ Some x)) → In x (with_some o (weights_in rows))
    → (r : Row) × In r (row ∷ rows) × (weighed r ≡ Some x)
back_if None x row rows e more h = let (r, i, w) = more h in (r, inr i, w)
back_if (Some y) x row rows e more (inl same) = (row, inl refl, e ∙ ap (λ (z : Item). Some z) same)
back_if (Some y) x row rows e more (inr h) = let (r, i, w) = more h in (r, inr i, w)

-- each is of a row
pub weight_back : (x : Item) (rows : List Row) → In x (weights_in rows)
    → (r : Row) × In r rows × (weighed r ≡ Some x)
weight_back x [] h = absurd h
weight_back x (row ∷ rows) h = back_if (weighed row) x row rows refl (weight_back x rows) h

there_if : (o : Option Item) (x : Item) (xs : List Item) → In x xs → In x (with_some o xs)
there_if None x xs h = h
there_if (Some y) x xs h = inr h

-- and that of each row is there
pub weight_there : (x : Item) (row : Row) (rows : List Row) → In row rows → weighed row ≡ Some x
    → In x (weights_in rows)
weight_there x row [] h e = absurd h
weight_there x row (r ∷ rows) (inl same) e =
    subst (λ (o : Option Item). In x (with_some o (weights_in rows))) (sym e ∙ ap weighed (sym same)) (inl refl)
weight_there x row (r ∷ rows) (inr h) e = there_if (weighed r) x (weights_in rows) (weight_there x row rows h e)

-- Rows of which each front is that of each key that begins with it

abbrev pub AllFull : List Row → Type 0
AllFull rows = (row : Row) (front : List ℕ) → In row rows → front_of row.0 ≡ Some front → IsFull row.0 front

-- after a key, in order
abbrev Follow : List ℕ → List Row → Type 0
Follow k rows = (below_all (slice_cmp nat_cmp) k rows ≡ true) × (is_sorted (slice_cmp nat_cmp) rows ≡ true)

module _ (front a : List ℕ) (each : (b : List ℕ) → front_of (front ++ b) ≡ Some front) where
  abbrev first : List ℕ
  first = front ++ a

  goes_if : (o : Option Item) (e : Row) (es : List Row) → weighed e ≡ o → Follow first (e ∷ es) → AllFull (e ∷ es)
      → GoesOn bytes_eq bytes_eq-Decides front (weights_in es)
      → GoesOn bytes_eq bytes_eq-Decides front (with_some o (weights_in es))
  goes_if None e es w up all more = more
  goes_if (Some y) e es w up all more = λ other z h one.
      let (row, i, v) = weight_back z es h in
      let full = all row z.0 (inr i) (weighed_as row z v).0 in
      let begins : row.0 ≡ front ++ full.key = full.is ∙ ap (λ (f : List ℕ). f ++ full.key) (sym one) in
      let low = below_less first (e ∷ es) e up.0 (inl refl) in
      let high = subst (λ (k : List ℕ). slice_cmp nat_cmp e.0 k ≡ Less) begins
      (below_less e.0 es row (and_parts _ _ up.1).0 i) in
      let (b, is) = between front a full.key e.0 low high in
      let same : front ≡ y.0 = one_front front y.0 (front_of e.0) (ap front_of is ∙ each b) (weighed_as e y w).0 in
      true≢false (sym ((bytes_eq-Decides front y.0).1 same) ∙ other)

  goes : (es : List Row) → Follow first es → AllFull es → GoesOn bytes_eq bytes_eq-Decides front (weights_in es)
  goes [] up all = tt
  goes (e ∷ es) up all =
      goes_if (weighed e) e es refl up all
      (goes es ((and_parts _ _ up.0).1, (and_parts _ _ up.1).1) (λ row f h. all row f (inr h)))

together_if : (o : Option Item) (e : Row) (es : List Row) → weighed e ≡ o
    → is_sorted (slice_cmp nat_cmp) (e ∷ es) ≡ true → AllFull (e ∷ es) → StandTogether bytes_eq bytes_eq-Decides (weights_in es)
    → StandTogether bytes_eq bytes_eq-Decides (with_some o (weights_in es))
together_if None e es w s all more = more
together_if (Some y) e es w s all more =
    let full = all e y.0 (inl refl) (weighed_as e y w).0 in
    let parts = and_parts _ _ s in (
      goes y.0 full.key full.each es
          (subst (λ (k : List ℕ). below_all (slice_cmp nat_cmp) k es ≡ true) full.is parts.0, parts.1)
          (λ row f h. all row f (inr h)),
      more,
    )

-- those of one front stand next to each other
pub rows_together : (es : List Row) → is_sorted (slice_cmp nat_cmp) es ≡ true → AllFull es
    → StandTogether bytes_eq bytes_eq-Decides (weights_in es)
rows_together [] s all = tt
rows_together (e ∷ es) s all =
    together_if (weighed e) e es refl s all (rows_together es (and_parts _ _ s).1 (λ row f h. all row f (inr h)))

no_empty : (q : List ℕ) → IsFull q [] → ⊥
no_empty q full = absurd (cc (full.each []))

begins_if : (xs : List Item) → ((y : Item) → In y xs → [] ≡ y.0 → ⊥) → GoesOn bytes_eq bytes_eq-Decides [] xs
begins_if [] d = tt
begins_if (x ∷ xs) d = λ other y h e. d y (inr h) e

-- no front is empty
pub no_empty_front : (es : List Row) → AllFull es → (y : Item) → In y (weights_in es) → [] ≡ y.0 → ⊥
no_empty_front es all y h e =
    let (row, i, v) = weight_back y es h in
    no_empty row.0 (subst (λ (f : List ℕ). IsFull row.0 f) (sym e) (all row y.0 i (weighed_as row y v).0))

pub rows_begin : (es : List Row) → AllFull es → GoesOn bytes_eq bytes_eq-Decides [] (weights_in es)
rows_begin es all = begins_if (weights_in es) (no_empty_front es all)
