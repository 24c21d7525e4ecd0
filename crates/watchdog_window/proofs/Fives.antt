-- Windows of five moments. Callers want `failures_told` and `loops_told`.
use Rattle.std.proofs.Common.{◌≡◌, ℕ, zero, suc, ◌-◌, ◌<◌, ◌≤◌, Bool, true, false, leb, ◌&&◌, List, [], ◌∷◌}
use Rattle.std.proofs.Common.{◌++◌, length, drop, sym, ap, ◌∙◌, refl, arith}
use Rattle.std.specs.List.{list_all, filter, AllByRecursion}
use Rattle.std.proofs.lemmas.Bool.{le-leb, false≢true}
use Rattle.std.proofs.lemmas.List.{length-drop}
use Rattle.apex_base.specs.Members.{EachPair}
use Rattle.apex_base.specs.Windows.{last_five, is_since, is_failing}
use Rattle.apex_base.proofs.MomentsAlike.{failing_alike, looping_alike}
use Rattle.watchdog_window.specs.Full.{is_near, is_full, FailuresAreTold, LoopsAreTold}

-- Lists without their first items

module _ (P : ℕ → Type 0) where
  drop_all : (n : ℕ) (xs : List ℕ) → AllByRecursion P xs → AllByRecursion P (drop n xs)
  drop_all zero xs a = a
  drop_all (suc n) [] a = a
  drop_all (suc n) (x ∷ xs) a = drop_all n xs a.1

drop_sorted : (n : ℕ) (xs : List ℕ) → EachPair (λ (a b : ℕ). a ≤ b) xs → EachPair (λ (a b : ℕ). a ≤ b) (drop n xs)
drop_sorted zero xs s = s
drop_sorted (suc n) [] s = s
drop_sorted (suc n) (x ∷ xs) s = drop_sorted n xs s.1

last_of : (P : ℕ → Type 0) (xs : List ℕ) (t : ℕ) → AllByRecursion P (xs ++ t ∷ []) → P t
last_of P [] t a = a.0
last_of P (x ∷ xs) t a = last_of P xs t a.1

-- in a list that doesn't fall each is at most the last
below_last : (xs : List ℕ) (t : ℕ) → EachPair (λ (a b : ℕ). a ≤ b) (xs ++ t ∷ [])
    → AllByRecursion (λ (m : ℕ). m ≤ t) (xs ++ t ∷ [])
below_last [] t s = (omega arith, tt)
below_last (x ∷ xs) t s = (last_of (λ (n : ℕ). x ≤ n) xs t s.0, below_last xs t s.1)

few : (xs : List ℕ) → length (last_five xs) ≤ 5
few xs = let e = length-drop (length xs - 5) xs in omega (arith, e)

last_again : (xs : List ℕ) → length xs ≤ 5 → last_five xs ≡ xs
last_again xs l = let e : length xs - 5 ≡ 0 = omega (arith, l) in ap (λ (n : ℕ). drop n xs) e

-- Failures

module _ (now : ℕ) where
  abbrev since : ℕ → Bool
  since = is_since now 60000

  near_if : (x : ℕ) → x ≤ now → is_near now 60000 x ≡ since x
  near_if x l = ap (λ (b : Bool). b && since x) (le-leb x now l)

  near_all : (xs : List ℕ) → AllByRecursion (λ (m : ℕ). m ≤ now) xs → list_all (is_near now 60000) xs ≡ list_all since xs
  near_all [] a = refl
  near_all (x ∷ xs) a = ap (λ (b : Bool). b && list_all (is_near now 60000) xs) (near_if x a.0)
      ∙ ap (λ (b : Bool). since x && b) (near_all xs a.1)

  -- all count, or fewer than there are
  record Counts (xs : List ℕ) : Type 0 where
    pub all : list_all since xs ≡ true → length (filter since xs) ≡ length xs
    pub fewer : list_all since xs ≡ false → length (filter since xs) < length xs
    pub most : length (filter since xs) ≤ length xs

  counts_if : (b : Bool) (x : ℕ) (xs : List ℕ) → since x ≡ b → Counts xs → Counts (x ∷ xs)
  counts_if true x xs e c = record {
    all = λ h. grind (arith, e, c.all);
    fewer = λ h. grind (arith, e, c.fewer);
    most = grind (arith, e, c.most);
  }
  counts_if false x xs e c = record {
    all = λ h. grind (arith, e);
    fewer = λ h. grind (arith, e, c.most);
    most = grind (arith, e, c.most);
  }

  counts : (xs : List ℕ) → Counts xs
  counts [] = record { all = λ h. refl; fewer = λ h. absurd (false≢true (sym h)); most = omega arith }
  counts (x ∷ xs) = counts_if (since x) x xs refl (counts xs)

  full_if : (b : Bool) (xs : List ℕ) → list_all since xs ≡ b → length xs ≤ 5
      → (leb 5 (length xs) && b) ≡ is_failing now xs
  full_if true xs e l = let c = (counts xs).all e in grind (arith, c)
  full_if false xs e l = let c = (counts xs).fewer e in grind (arith, c, l)

  full_failing : (xs : List ℕ) → AllByRecursion (λ (m : ℕ). m ≤ now) xs → length xs ≤ 5
      → is_full now 60000 xs ≡ is_failing now xs
  full_failing xs a l = ap (λ (b : Bool). leb 5 (length xs) && b) (near_all xs a) ∙ full_if (list_all since xs) xs refl l

pub failures_told : FailuresAreTold
failures_told earlier now s =
    let xs = earlier ++ now ∷ [] in
    let n = length xs - 5 in
    full_failing now (last_five xs) (drop_all (λ (m : ℕ). m ≤ now) n xs (below_last earlier now s)) (few xs)
    ∙ failing_alike now (last_five xs) xs (drop_sorted n xs s) s (last_again (last_five xs) (few xs))

-- Boots

pub loops_told : LoopsAreTold
loops_told xs now =
    ap (λ (ys : List ℕ). leb 5 (length (last_five xs)) && list_all (is_near now 600000) ys) (sym (last_again (last_five xs) (few xs)))
    ∙ looping_alike now (last_five xs) xs (last_again (last_five xs) (few xs))
