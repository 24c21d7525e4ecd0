-- Sums over lists whose elements have different keys. Callers want `sum_most`, `length_most` and `pairs_map`.
use Rattle.std.proofs.Common.{◌≡◌, ◌≢◌, ◌⊎◌, ℕ, ◌+◌, ◌≤◌, List, [], ◌∷◌, ◌++◌, length, sym, ap, subst, ◌∙◌, refl, inl}
use Rattle.std.proofs.Common.{inr, arith}
use Rattle.std.specs.List.{sum_by}
use Rattle.std.proofs.lemmas.List.Sums.{sum_by-cons}
use Rattle.apex_base.specs.Members.{In, EachPair}
use Rattle.apex_base.proofs.MemberLemmas.{in_left, in_right, in_append, each_in, in_each}

pub pairs_map : {X : Type 0} (P Q : X → X → Type 0) → ((x y : X) → P x y → Q x y) → (xs : List X) → EachPair P xs
    → EachPair Q xs
pairs_map P Q f [] a = tt
pairs_map P Q f (x ∷ xs) a = (in_each (Q x) xs (λ y h. f x y (each_in (P x) xs a.0 y h)), pairs_map P Q f xs a.1)

in_split : {X : Type 0} (x : X) (xs : List X) → In x xs → (front : List X) × (back : List X) × (xs ≡ front ++ x ∷ back)
in_split x [] h = absurd h
in_split x (y ∷ ys) (inl e) = ([], ys, ap (λ z. z ∷ ys) e)
in_split x (y ∷ ys) (inr h) = let (front, back, e) = in_split x ys h in (y ∷ front, back, ap (λ zs. y ∷ zs) e)

module _ {X : Type 0} (g : X → ℕ) where
  sum_split : (front : List X) (x : X) (back : List X) → sum_by g (front ++ x ∷ back) ≡ g x + sum_by g (front ++ back)
  sum_split [] x back = sum_by-cons g x back
  sum_split (y ∷ front) x back = let r = sum_split front x back in
      omega (arith, r, sum_by-cons g y (front ++ x ∷ back), sum_by-cons g y (front ++ back))

  -- another element than the one that was taken out
  other : (x y : X) (front back : List X) → In y (front ++ x ∷ back) → (x ≡ y → ⊥) → In y (front ++ back)
  other x y front back h d =
      elim (in_append y front (x ∷ back) h) [
        | inl i ↦ in_left y front back i
        | inr i ↦ elim i [
          | inl e ↦ absurd (d e)
          | inr j ↦ in_right y front back j
        ]
      ]

  module _ {K : Type 0} (key : X → K) where
    abbrev pub Matched : X → List X → Type 0
    Matched x ys = (g x ≡ 0) ⊎ ((y : X) × In y ys × (key x ≡ key y) × (g x ≡ g y))

    -- a sum over elements of different keys is at most that over a list that has each of them
    pub sum_most : (xs ys : List X) → EachPair (λ (x y : X). key x ≢ key y) xs → ((x : X) → In x xs → Matched x ys)
        → sum_by g xs ≤ sum_by g ys
    sum_most [] ys a m = omega arith
    sum_most (x ∷ xs) ys a m =
        elim (m x (inl refl)) [
          | inl zero ↦ let r = sum_most xs ys a.1 (λ z h. m z (inr h)) in omega (arith, zero, r, sum_by-cons g x xs)
          | inr (y, h, same, e) ↦
              let (front, back, split) = in_split y ys h in
              let r = sum_most xs (front ++ back) a.1 (λ z i. elim (m z (inr i)) [
                | inl zero ↦ inl zero
                | inr (u, j, alike, f) ↦ inr (
                  u,
                  other y u front back (subst (λ (zs : List X). In u zs) split j)
                      (λ one. each_in (λ (z : X). key x ≢ key z) xs a.0 z i (same ∙ ap key one ∙ sym alike)),
                  alike,
                  f,
                )
              ]) in
              let all : sum_by g ys ≡ g y + sum_by g (front ++ back) = ap (sum_by g) split ∙ sum_split front y back in
              omega (arith, e, r, all, sum_by-cons g x xs)
        ]

count : {X : Type 0} (xs : List X) → sum_by (λ (x : X). 1) xs ≡ length xs
count [] = refl
count {X} (x ∷ xs) = let r = count xs in let s = sum_by-cons (λ (x : X). 1) x xs in omega (arith, r, s)

-- a list of different elements is at most as long as one that has each of them
pub length_most : {X : Type 0} (xs ys : List X) → EachPair (λ (x y : X). x ≢ y) xs → ((x : X) → In x xs → In x ys)
    → length xs ≤ length ys
length_most {X} xs ys a m =
    let l = sum_most (λ (x : X). 1) (λ (x : X). x) xs ys a (λ x h. inr (x, m x h, refl, refl)) in
    omega (arith, l, count xs, count ys)
