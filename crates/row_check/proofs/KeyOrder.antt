-- Keys of sessions stand in the order of their ids. Callers want `id_less` and `below_less`.
use Rattle.std.proofs.Common.{◌≡◌, ◌⊎◌, ℕ, suc, ◌<◌, true, List, [], ◌∷◌, length, sym, ap, ◌∙◌}
use Rattle.std.proofs.Common.{refl, inl, inr, arith}
use Rattle.std.specs.Int.{w32, from_be_bytes}
use Rattle.std.specs.Ordering.{nat_cmp, is_lt, ordering_then}
use Rattle.std.specs.declared.cmp.Ordering.{Ordering}
use Rattle.std.specs.declared.cmp.Ordering.TheVariants.{Less, Equal, Greater}
use Rattle.std.specs.Cmp.Lexicographic.{slice_cmp}
use Rattle.std.specs.FinMap.Entries.{below_all}
use Rattle.std.proofs.lemmas.Bool.{and_parts, cases_order, le-ltb, eq-eqb, ne_eqb}
use Rattle.apex_base.specs.Members.{In}
use Rattle.row_key.specs.RowBytes.{FitBytes}

is_less : (o : Ordering) → is_lt o ≡ true → o ≡ Less
is_less Less e = refl
is_less Equal e = absurd (cc)
is_less Greater e = absurd (cc)

-- a key below all others is below each
pub below_less : {X : Type 0} (k : List ℕ) (es : List (List ℕ × X)) (e : List ℕ × X)
    → below_all (slice_cmp nat_cmp) k es ≡ true → In e es → slice_cmp nat_cmp k e.0 ≡ Less
below_less k [] e b h = absurd h
below_less {X} k (x ∷ es) e b (inl same) = ap (λ (y : List ℕ × X). slice_cmp nat_cmp k y.0) (sym same)
    ∙ is_less (slice_cmp nat_cmp k x.0) (and_parts _ _ b).0
below_less k (x ∷ es) e b (inr h) = below_less k es e (and_parts _ _ b).1 h

-- the first elements decide, or the rest where they are the same
pub first_less : (x y : ℕ) (o : Ordering) → ordering_then (nat_cmp x y) o ≡ Less → (x < y) ⊎ ((x ≡ y) × (o ≡ Less))
first_less x y o e =
    elim (cases_order x y) [
      | inl same ↦ inr (same, rw (le-ltb x y (omega (arith, same)), eq-eqb x y same) at e)
      | inr apart ↦ elim apart [
        | inl l ↦ inl l
        | inr l ↦ absurd (cc (rw (le-ltb x y (omega (arith, l)), ne_eqb x y (λ s. omega (arith, l, s))) at e))
      ]
    ]

record FourBytes (xs : List ℕ) : Type 0 where
  a : ℕ
  b : ℕ
  c : ℕ
  d : ℕ
  is : xs ≡ a ∷ b ∷ c ∷ d ∷ []

first_of : (n : ℕ) (xs : List ℕ) → length xs ≡ suc n → (x : ℕ) × (rest : List ℕ) × (xs ≡ x ∷ rest) × (length rest ≡ n)
first_of n [] e = absurd (cc e)
first_of n (x ∷ xs) e = (x, xs, refl, omega (arith, e))

none_of : (xs : List ℕ) → length xs ≡ 0 → xs ≡ []
none_of [] e = refl
none_of (x ∷ xs) e = absurd (cc e)

four_of : (xs : List ℕ) → length xs ≡ 4 → FourBytes xs
four_of xs e =
    let (a, after_a, is_a, more) = first_of 3 xs e in
    let (b, after_b, is_b, many) = first_of 2 after_a more in
    let (c, after_c, is_c, few) = first_of 1 after_b many in
    let (d, after_d, is_d, none) = first_of 0 after_c few in
    record {
      a = a;
      b = b;
      c = c;
      d = d;
      is = is_a ∙ ap (λ (r : List ℕ). a ∷ r) (is_b ∙ ap (λ (r : List ℕ). b ∷ r) (is_c
          ∙ ap (λ (r : List ℕ). c ∷ r) (is_d ∙ ap (λ (r : List ℕ). d ∷ r) (none_of after_d none))));
    }

digits_less : (a b c d e f g h : ℕ) → FitBytes (a ∷ b ∷ c ∷ d ∷ []) → FitBytes (e ∷ f ∷ g ∷ h ∷ [])
    → slice_cmp nat_cmp (a ∷ b ∷ c ∷ d ∷ []) (e ∷ f ∷ g ∷ h ∷ []) ≡ Less
    → from_be_bytes w32 (a ∷ b ∷ c ∷ d ∷ []) < from_be_bytes w32 (e ∷ f ∷ g ∷ h ∷ [])
digits_less a b c d e f g h fx fy less =
    let b_fits : b < 256 = fx 1 in
    let c_fits : c < 256 = fx 2 in
    let d_fits : d < 256 = fx 3 in
    elim (first_less a e (slice_cmp nat_cmp (b ∷ c ∷ d ∷ []) (f ∷ g ∷ h ∷ [])) less) [
      | inl l ↦ omega (arith, l, b_fits, c_fits, d_fits)
      | inr p ↦ elim (first_less b f (slice_cmp nat_cmp (c ∷ d ∷ []) (g ∷ h ∷ [])) p.1) [
        | inl l ↦ omega (arith, l, c_fits, d_fits, p.0)
        | inr q ↦ elim (first_less c g (slice_cmp nat_cmp (d ∷ []) (h ∷ [])) q.1) [
          | inl l ↦ omega (arith, l, d_fits, p.0, q.0)
          | inr r ↦ elim (first_less d h Equal r.1) [
            | inl l ↦ omega (arith, l, p.0, q.0, r.0)
            | inr s ↦ absurd (cc s.1)
          ]
        ]
      ]
    ]

-- four bytes that are less than others are the lesser number
pub id_less : (xs ys : List ℕ) → length xs ≡ 4 → length ys ≡ 4 → FitBytes xs → FitBytes ys
    → slice_cmp nat_cmp xs ys ≡ Less → from_be_bytes w32 xs < from_be_bytes w32 ys
id_less xs ys k l fx fy less =
    let x = four_of xs k in
    let y = four_of ys l in
    rw (x.is, y.is) (digits_less x.a x.b x.c x.d y.a y.b y.c y.d (rw x.is at fx) (rw y.is at fy)
    (rw (x.is, y.is) at less))
