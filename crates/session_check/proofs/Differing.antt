-- Lists that are joined end to end have distinct elements if each has, and no two have one in common. Callers want
-- `flat_pairs`, `pairs_flat`, `apart_in` and `distinct_pairs`.
use Rattle.std.proofs.Common.{◌≡◌, ◌≢◌, Bool, true, false, List, [], ◌∷◌, ◌++◌, flat_map, sym, ap, ◌∙◌, refl, inl, inr}
use Rattle.std.specs.List.{IsDistinct}
use Rattle.apex_base.specs.Members.{In, EachPair}
use Rattle.apex_base.proofs.MemberLemmas.{in_left, in_right, in_append, in_flat_map, in_flat_map_back, each_in, in_each}

-- no two elements are one
abbrev pub AllDiffer : {X : Type 0} → List X → Type 0
AllDiffer {X} xs = EachPair (λ (x y : X). x ≢ y) xs

-- two lists have no element in common
abbrev pub NoneShared : {X : Type 0} → List X → List X → Type 0
NoneShared {X} xs ys = (x : X) → In x xs → In x ys → ⊥

module _ {X : Type 0} where
  -- two lists, one after the other
  pub joined : (xs ys : List X) → AllDiffer xs → AllDiffer ys → NoneShared xs ys → AllDiffer (xs ++ ys)
  joined [] ys a b n = b
  joined (x ∷ xs) ys a b n = (
    in_each (λ (y : X). x ≢ y) (xs ++ ys) (λ y i. elim (in_append y xs ys i) [
      | inl j ↦ each_in (λ (y : X). x ≢ y) xs a.0 y j
      | inr j ↦ λ same. n x (inl refl) (rw same j)
    ]),
    joined xs ys a.1 b (λ y i. n y (inr i)),
  )

  -- and the other way round
  pub first_differ : (xs ys : List X) → AllDiffer (xs ++ ys) → AllDiffer xs
  first_differ [] ys a = tt
  first_differ (x ∷ xs) ys a = (
    in_each (λ (y : X). x ≢ y) xs (λ y i. each_in (λ (y : X). x ≢ y) (xs ++ ys) a.0 y (in_left y xs ys i)),
    first_differ xs ys a.1,
  )

  pub rest_differ : (xs ys : List X) → AllDiffer (xs ++ ys) → AllDiffer ys
  rest_differ [] ys a = a
  rest_differ (x ∷ xs) ys a = rest_differ xs ys a.1

  pub none_shared : (xs ys : List X) → AllDiffer (xs ++ ys) → NoneShared xs ys
  none_shared [] ys a x i j = absurd i
  none_shared (z ∷ xs) ys a x (inl e) j = each_in (λ (y : X). z ≢ y) (xs ++ ys) a.0 x (in_right x xs ys j) e
  none_shared (z ∷ xs) ys a x (inr i) j = none_shared xs ys a.1 x i j

module _ {A X : Type 0} (f : A → List X) where
  -- each list has distinct elements, and no two have one in common
  pub flat_pairs : (rs : List A) → AllDiffer (flat_map f rs)
      → ((a : A) → In a rs → AllDiffer (f a)) × EachPair (λ (a b : A). NoneShared (f a) (f b)) rs
  flat_pairs [] d = (λ a i. absurd i, tt)
  flat_pairs (a ∷ rs) d =
      let rest = flat_pairs rs (rest_differ (f a) (flat_map f rs) d) in
      let apart = none_shared (f a) (flat_map f rs) d in (
        λ b i. elim i [
          | inl e ↦ rw (← e) (first_differ (f a) (flat_map f rs) d)
          | inr j ↦ rest.0 b j
        ],
        (
          in_each (λ (b : A). NoneShared (f a) (f b)) rs (λ b i x j k. apart x j (in_flat_map f b x rs i k)),
          rest.1,
        ),
      )

  -- and the other way round
  pub pairs_flat : (rs : List A) → ((a : A) → In a rs → AllDiffer (f a))
      → EachPair (λ (a b : A). NoneShared (f a) (f b)) rs → AllDiffer (flat_map f rs)
  pairs_flat [] each apart = tt
  pairs_flat (a ∷ rs) each apart =
      joined (f a) (flat_map f rs) (each a (inl refl)) (pairs_flat rs (λ b i. each b (inr i)) apart.1)
      (λ x i j.
      let (b, k, l) = in_flat_map_back f x rs j in
      each_in (λ (b : A). NoneShared (f a) (f b)) rs apart.0 b k x i l)

-- Tests of equality

module _ {X : Type 0} (same : X → X → Bool) (one : (x y : X) → same x y ≡ true → x ≡ y)
    (itself : (x : X) → same x x ≡ true) where
  other : (x y : X) (b : Bool) → same x y ≡ b → x ≢ y → same x y ≡ false
  other x y true e n = absurd (n (one x y e))
  other x y false e n = e

  -- keys of which no two are the same differ
  pub distinct_differ : (xs : List X) → IsDistinct same xs → AllDiffer xs
  unfolding IsDistinct
  distinct_differ [] d = tt
  distinct_differ (x ∷ xs) d = (
    in_each (λ (y : X). x ≢ y) xs (λ y i e.
        let apart = each_in (λ (y : X). same x y ≡ false) xs d.0 y i in
        let alike = ap (same x) (sym e) ∙ itself x in
        cc),
    distinct_differ xs d.1,
  )

  -- and the other way round
  pub differ_distinct : (xs : List X) → AllDiffer xs → IsDistinct same xs
  unfolding IsDistinct
  differ_distinct [] d = tt
  differ_distinct (x ∷ xs) d = (
    in_each (λ (y : X). same x y ≡ false) xs (λ y i. other x y (same x y) refl (each_in (λ (y : X). x ≢ y) xs d.0 y i)),
    differ_distinct xs d.1,
  )
