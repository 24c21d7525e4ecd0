-- The tags above those of keys. Callers want `lesser_none`, `lesser_more` and `least_wrong`.
use Rattle.std.proofs.Common.{◌≡◌, ◌⊎◌, ℕ, ◌≤◌, Bool, true, false, cond, leb, ltb, List, [], ◌∷◌}
use Rattle.std.proofs.Common.{Option, Some, None, sym, ap, subst, ◌∙◌, refl, inl, inr, arith}
use Rattle.std.specs.FinMap as fin
use Rattle.std.proofs.lemmas.Bool.{cases_lt, lt-ltb, le-ltb, ltb-true, ltb-false, leb-true, le-leb, ne_eqb}
use Rattle.apex_base.specs.declared.numbers.Scale.{Scale}
use Rattle.apex_base.specs.Keys.{RowMap, key_of}
use Rattle.apex_base.specs.Members.{In}
use Rattle.apex_base.proofs.RowMaps.{entry_get, in_entries}
use Rattle.row_check.specs.BadRows.{AgreesAt, DiffersAt}
use Rattle.row_check.specs.WrongTags.{AgreeBelow, IsWrongTag, lesser, strange_in, strange_tag}
use Rattle.row_check.proofs.KeysRead.{no_key_row}

abbrev Entry : Type 0
Entry = List ℕ × List ℕ

-- The lesser of two tags

pub lesser_none : (o : Option ℕ) → lesser o None ≡ o
lesser_none None = refl
lesser_none (Some a) = refl

three_if : (a b c : ℕ) (x y : Bool) → ltb b a ≡ x → ltb c b ≡ y
    → lesser (cond x (Some b) (Some a)) (Some c) ≡ lesser (Some a) (cond y (Some c) (Some b))
three_if a b c true true e f = rw (f, lt-ltb c a (omega (arith, ltb-true b a e, ltb-true c b f))) refl
three_if a b c true false e f = rw (f, e) refl
three_if a b c false true e f = refl
three_if a b c false false e f = rw (e, le-ltb c a (omega (arith, ltb-false b a e, ltb-false c b f))) refl

pub lesser_more : (o p q : Option ℕ) → lesser (lesser o p) q ≡ lesser o (lesser p q)
lesser_more None p q = refl
lesser_more (Some a) None q = refl
lesser_more (Some a) (Some b) None = lesser_none (lesser (Some a) (Some b))
lesser_more (Some a) (Some b) (Some c) = three_if a b c (ltb b a) (ltb c b) refl refl

-- there is such a tag, and it is at most this
abbrev IsAtMost : Option ℕ → ℕ → Type 0
IsAtMost None tag = ⊥
IsAtMost (Some least) tag = least ≤ tag

left_if : (a b tag : ℕ) (x : Bool) → ltb b a ≡ x → a ≤ tag → IsAtMost (cond x (Some b) (Some a)) tag
left_if a b tag true e low = omega (arith, low, ltb-true b a e)
left_if a b tag false e low = low

left_most : (o p : Option ℕ) (tag : ℕ) → IsAtMost o tag → IsAtMost (lesser o p) tag
left_most None p tag low = absurd low
left_most (Some a) None tag low = low
left_most (Some a) (Some b) tag low = left_if a b tag (ltb b a) refl low

right_if : (a b tag : ℕ) (x : Bool) → ltb b a ≡ x → b ≤ tag → IsAtMost (cond x (Some b) (Some a)) tag
right_if a b tag true e low = low
right_if a b tag false e low = omega (arith, low, ltb-false b a e)

right_most : (o p : Option ℕ) (tag : ℕ) → IsAtMost p tag → IsAtMost (lesser o p) tag
right_most None p tag low = low
right_most (Some a) None tag low = absurd low
right_most (Some a) (Some b) tag low = right_if a b tag (ltb b a) refl low

one_if : (x : Bool) (a b tag : ℕ) → cond x (Some b) (Some a) ≡ Some tag → (Some a ≡ Some tag) ⊎ (Some b ≡ Some tag)
one_if true a b tag e = inr e
one_if false a b tag e = inl e

one_of : (o p : Option ℕ) (tag : ℕ) → lesser o p ≡ Some tag → (o ≡ Some tag) ⊎ (p ≡ Some tag)
one_of None p tag e = inr e
one_of (Some a) None tag e = inl e
one_of (Some a) (Some b) tag e = one_if (ltb b a) a b tag e

-- The tags of a list of rows

-- the least tag is at most each
at_most : (es : List Entry) (e : Entry) (tag : ℕ) → In e es → strange_in e.0 ≡ Some tag → IsAtMost (strange_tag es) tag
at_most [] e tag h is = absurd h
at_most (x ∷ es) e tag (inl same) is =
    left_most (strange_in x.0) (strange_tag es) tag
    (rw (ap (λ (y : Entry). strange_in y.0) same ∙ is) (omega arith))
at_most (x ∷ es) e tag (inr h) is =
    right_most (strange_in x.0) (strange_tag es) tag (at_most es e tag h is)

-- and there is a row that has it
found_row : (es : List Entry) (tag : ℕ) → strange_tag es ≡ Some tag → (e : Entry) × In e es × (strange_in e.0 ≡ Some tag)
found_row [] tag e = absurd (cc e)
found_row (x ∷ es) tag e =
    elim (one_of (strange_in x.0) (strange_tag es) tag e) [
      | inl here ↦ (x, inl refl, here)
      | inr there ↦ let (row, member, is) = found_row es tag there in (row, inr member, is)
    ]

-- what a key that has such a tag begins with
front_if : (x : Bool) (first tag : ℕ) (rest : List ℕ) → leb 10 first ≡ x → cond x (Some first) None ≡ Some tag
    → (10 ≤ tag) × (first ∷ rest ≡ tag ∷ rest)
front_if true first tag rest e is =
    let same : first ≡ tag = cc is in (
      omega (arith, leb-true 10 first e, same),
      ap (λ (n : ℕ). n ∷ rest) same,
    )
front_if false first tag rest e is = absurd (cc is)

front_of : (key : List ℕ) (tag : ℕ) → strange_in key ≡ Some tag
    → (rest : List ℕ) × (10 ≤ tag) × (key ≡ tag ∷ rest)
front_of [] tag is = absurd (cc is)
front_of (first ∷ rest) tag is =
    let (high, same) = front_if (leb 10 first) first tag rest refl is in (rest, high, same)

strange_front : (tag : ℕ) (rest : List ℕ) → 10 ≤ tag → strange_in (tag ∷ rest) ≡ Some tag
strange_front tag rest high = rw (le-leb 10 tag high) refl

-- no key has such a tag
no_key : (tag : ℕ) (rest : List ℕ) → 10 ≤ tag → key_of (tag ∷ rest) ≡ None
unfolding key_of
no_key tag rest high = rw (
  ne_eqb tag 1 (λ s. omega (arith, high, s)),
  ne_eqb tag 2 (λ s. omega (arith, high, s)),
  ne_eqb tag 3 (λ s. omega (arith, high, s)),
  ne_eqb tag 4 (λ s. omega (arith, high, s)),
  ne_eqb tag 5 (λ s. omega (arith, high, s)),
  ne_eqb tag 6 (λ s. omega (arith, high, s)),
  ne_eqb tag 7 (λ s. omega (arith, high, s)),
  ne_eqb tag 8 (λ s. omega (arith, high, s)),
  ne_eqb tag 9 (λ s. omega (arith, high, s)),
) refl

module _ (m : RowMap) (scale : Scale) where
  -- no row of a tag, where the least is above it
  none_here : (tag : ℕ) (rest : List ℕ) (o : Option (List ℕ)) → 10 ≤ tag → fin.get m (tag ∷ rest) ≡ o
      → (IsAtMost (strange_tag (fin.entries m)) tag → ⊥) → o ≡ None
  none_here tag rest None high e above = refl
  none_here tag rest (Some value) high e above =
      absurd (above (at_most (fin.entries m) (tag ∷ rest, value) tag (in_entries m (tag ∷ rest) value e)
      (strange_front tag rest high)))

  strange_agrees : (tag : ℕ) → 10 ≤ tag → (IsAtMost (strange_tag (fin.entries m)) tag → ⊥) → AgreesAt m scale tag
  strange_agrees tag high above rest =
      none_here tag rest (fin.get m (tag ∷ rest)) high refl above
      ∙ sym (no_key_row m scale (tag ∷ rest) (no_key tag rest high))

  -- where all tags of keys agree, so do those below the least strange one
  below_agrees : AgreeBelow m 10 → (tag : ℕ) → (IsAtMost (strange_tag (fin.entries m)) tag → ⊥)
      → AgreesAt m scale tag
  below_agrees agree tag above = elim (cases_lt tag 10) [
    | inl low ↦ agree tag low scale
    | inr high ↦ strange_agrees tag high above
  ]

  -- a row of a strange tag differs
  row_differs : (tag : ℕ) (rest value : List ℕ) → 10 ≤ tag → fin.get m (tag ∷ rest) ≡ Some value
      → DiffersAt m scale tag
  row_differs tag rest value high e = (
    rest,
    λ same. absurd (cc (sym e ∙ same ∙ no_key_row m scale (tag ∷ rest) (no_key tag rest high))),
  )

  strange_differs : (tag : ℕ) → strange_tag (fin.entries m) ≡ Some tag → DiffersAt m scale tag
  strange_differs tag e =
      let (row, member, is) = found_row (fin.entries m) tag e in
      let (rest, high, front) = front_of row.0 tag is in
      row_differs tag rest row.1 high (ap (fin.get m) (sym front) ∙ entry_get m row member)

wrong_if : (m : RowMap) (o : Option ℕ) → strange_tag (fin.entries m) ≡ o → AgreeBelow m 10 → IsWrongTag m o
wrong_if m None e agree =
    λ scale tag. below_agrees m scale agree tag
    (subst (λ (o : Option ℕ). IsAtMost o tag → ⊥) (sym e) (λ never. never))
wrong_if m (Some tag) e agree =
    λ scale. record {
      here = strange_differs m scale tag e;
      before = λ less l. below_agrees m scale agree less
          (subst (λ (o : Option ℕ). IsAtMost o less → ⊥) (sym e) (λ most. absurd (omega (arith, most, l))));
    }

-- where all tags of keys agree, the least strange one is the least wrong one
pub least_wrong : (m : RowMap) → AgreeBelow m 10 → IsWrongTag m (strange_tag (fin.entries m))
least_wrong m agree = wrong_if m (strange_tag (fin.entries m)) refl agree
