-- How often a boot stands in a list, by the list in order. Callers want `few_decided`.
use Rattle.std.proofs.Common.{◌≡◌, ℕ, suc, ◌<◌, ◌≤◌, Bool, true, false, cond, List, [], ◌∷◌, length, sym, ap, ◌∙◌}
use Rattle.std.proofs.Common.{refl, inl, inr, Decides, arith}
use Rattle.std.specs.Prelude.{slice_index_or}
use Rattle.std.specs.List.{sum_by}
use Rattle.std.specs.List.Sorted.{IsPermutation, IsSorted}
use Rattle.std.specs.Ordering.{nat_cmp}
use Rattle.std.proofs.lemmas.Bool.{true≢false, eqb-true, eq-eqb}
use Rattle.std.proofs.lemmas.List.Sorted.{sum_by-IsPermutation, IsNonDecreasingBy-from_sort}
use Rattle.std.proofs.lemmas.List.Sums.{sum_by-cons}
use Rattle.apex_base.specs.Members.{In}
use Rattle.apex_base.proofs.MemberLemmas.{in_map_back}
use Rattle.world_check.specs.DataRows.{counted, same_boot}
use Rattle.world_check.specs.Runs.{are_light, weight_if, key_weight}
use Rattle.world_check.proofs.RunSums.{GoesOn, StandTogether, light_forth, light_back}

nothing : (b : Bool) → ◌≡◌ {A = ℕ} (cond b 0 0) 0
nothing true = refl
nothing false = refl

pub same_boots : (a b : ℕ) → Decides (same_boot a b) (a ≡ b)
same_boots a b = (eqb-true a b, eq-eqb a b)

abbrev Item : Type 0
Item = ℕ × ℕ

abbrev one : ℕ → Item
one b = (b, 1)

-- how often a boot stands there, as a sum over the boots
count_is : (q : ℕ) (xs : List ℕ) → key_weight same_boot q (counted xs)
    ≡ sum_by (λ (b : ℕ). weight_if same_boot q (b, 1)) xs
count_is q [] = refl
count_is q (x ∷ xs) =
    let r = count_is q xs in
    let a = sum_by-cons (weight_if same_boot q) (x, 1) (counted xs) in
    let b = sum_by-cons (λ (b : ℕ). weight_if same_boot q (b, 1)) x xs in
    omega (arith, r, a, b)

-- boots that don't fall
abbrev Rise : List ℕ → Type 0
Rise xs = (i j : ℕ) (d : ℕ) → i ≤ j → j < length xs → slice_index_or xs i d ≤ slice_index_or xs j d

rise_more : (x : ℕ) (xs : List ℕ) → Rise (x ∷ xs) → Rise xs
rise_more x xs up i j d l k = up (suc i) (suc j) d (omega (arith, l)) (omega (arith, k))

place_of : (y : ℕ) (xs : List ℕ) → In y xs → (j : ℕ) × (j < length xs) × (slice_index_or xs j 0 ≡ y)
place_of y [] h = absurd h
place_of y (x ∷ xs) (inl e) = (0, omega arith, e)
place_of y (x ∷ xs) (inr h) = let (j, l, e) = place_of y xs h in (suc j, omega (arith, l), e)

first_least : (x y : ℕ) (xs : List ℕ) → Rise (x ∷ xs) → In y xs → x ≤ y
first_least x y xs up h =
    let (j, l, e) = place_of y xs h in
    let low : x ≤ slice_index_or xs j 0 = up 0 (suc j) 0 (omega arith) (omega (arith, l)) in
    omega (arith, low, e)

-- after a lesser boot
goes : (k : ℕ) (xs : List ℕ) → ((y : ℕ) → In y xs → k ≤ y) → Rise xs → GoesOn same_boot same_boots k (counted xs)
goes k [] low up = tt
goes k (x ∷ xs) low up = λ other y h s.
    let (b, i, e) = in_map_back one y xs h in
    let same : b ≡ y.0 = ap (λ (z : Item). z.0) e in
    let least = first_least x b xs up i in
    let first = low x (inl refl) in
    true≢false (sym (eq-eqb k x (omega (arith, least, same, s, first))) ∙ other)

together : (xs : List ℕ) → Rise xs → StandTogether same_boot same_boots (counted xs)
together [] up = tt
together (x ∷ xs) up = (goes x xs (λ y h. first_least x y xs up h) (rise_more x xs up), together xs (rise_more x xs up))

-- what the list in order tells
pub few_decided : (most : ℕ) (xs ys : List ℕ) → IsPermutation xs ys → IsSorted nat_cmp ys
    → Decides (are_light same_boot most 0 0 (counted ys)) ((boot : ℕ) → key_weight same_boot boot (counted xs) ≤ most)
few_decided most xs ys moved sorted =
    let up : Rise ys = IsNonDecreasingBy-from_sort (λ (b : ℕ). b) ys sorted in
    let on = goes 0 ys (λ y h. omega arith) up in
    let all = together ys up in
    let same : (q : ℕ) → key_weight same_boot q (counted xs) ≡ key_weight same_boot q (counted ys) =
    λ q. count_is q xs ∙ sym (sum_by-IsPermutation (λ (b : ℕ). weight_if same_boot q (b, 1)) xs ys moved)
    ∙ sym (count_is q ys) in (
      λ e q.
          let l = light_forth same_boot same_boots most 0 0 (counted ys) on all (omega arith) e q in
          omega (arith, l, same q),
      λ few. light_back same_boot same_boots most 0 0 (counted ys) on all (λ q.
          let l = few q in
          let z = nothing (same_boot q 0) in
          omega (arith, l, same q, z)),
    )
