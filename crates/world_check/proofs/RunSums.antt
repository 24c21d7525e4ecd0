-- Runs weigh what the things of their keys do, and have each key once. Callers want `weight_some`, `light_forth`,
-- `light_back`, `run_key_back`, `run_key_there` and `run_keys_apart`.
use Rattle.std.proofs.Common.{◌≡◌, ◌≢◌, ◌⊎◌, ℕ, ◌+◌, ◌≤◌, Bool, true, false, cond, leb, List, [], ◌∷◌, sym, ap}
use Rattle.std.proofs.Common.{◌∙◌, refl, inl, inr, Decides, arith}
use Rattle.std.proofs.lemmas.Bool.{true≢false, and_parts, and_from, leb-true, le-leb}
use Rattle.std.proofs.lemmas.List.Sums.{sum_by-cons}
use Rattle.apex_base.specs.Members.{In, EachPair}
use Rattle.apex_base.proofs.MemberLemmas.{in_each}
use Rattle.world_check.specs.Runs.{run_weight, are_light, weight_if, key_weight, run_keys}

module _ {K : Type 0} (same : K → K → Bool) (is : (a b : K) → Decides (same a b) (a ≡ b)) where
  abbrev Item : Type 0
  Item = K × ℕ

  -- after a key its own things come first, or none of them comes
  abbrev pub GoesOn : K → List Item → Type 0
  GoesOn k [] = Unit {0}
  GoesOn k (x ∷ xs) = same k x.0 ≡ false → (y : Item) → In y xs → k ≡ y.0 → ⊥

  -- things of one key stand next to each other
  abbrev pub StandTogether : List Item → Type 0
  StandTogether [] = Unit {0}
  StandTogether (x ∷ xs) = GoesOn x.0 xs × StandTogether xs

  not_same : (a b : K) → (a ≡ b → ⊥) → same a b ≡ false
  not_same a b d = by (same a b) refl where
    by : (t : Bool) → same a b ≡ t → t ≡ false
    by true e = absurd (d ((is a b).0 e))
    by false e = refl

  weight_none : (q : K) (xs : List Item) → ((y : Item) → In y xs → q ≡ y.0 → ⊥) → key_weight same q xs ≡ 0
  weight_none q [] d = refl
  weight_none q (x ∷ xs) d =
      let first : weight_if same q x ≡ 0 =
      ap (λ (b : Bool). cond b x.1 0) (not_same q x.0 (d x (inl refl))) in
      let rest = weight_none q xs (λ y h. d y (inr h)) in
      omega (arith, first, rest, sum_by-cons (weight_if same q) x xs)

  some_if : (b : Bool) (q : K) (x : Item) (xs : List Item) → same q x.0 ≡ b
      → (key_weight same q xs ≡ 0) ⊎ ((y : Item) × In y xs × (y.0 ≡ q))
      → (key_weight same q (x ∷ xs) ≡ 0) ⊎ ((y : Item) × In y (x ∷ xs) × (y.0 ≡ q))
  some_if true q x xs e more = inr (x, inl refl, sym ((is q x.0).0 e))
  some_if false q x xs e (inl none) =
      let first : weight_if same q x ≡ 0 = ap (λ (b : Bool). cond b x.1 0) e in
      inl (omega (arith, first, none, sum_by-cons (weight_if same q) x xs))
  some_if false q x xs e (inr (y, h, f)) = inr (y, inr h, f)

  -- a key that weighs something is that of a thing
  pub weight_some : (q : K) (xs : List Item) → (key_weight same q xs ≡ 0) ⊎ ((y : Item) × In y xs × (y.0 ≡ q))
  weight_some q [] = inl refl
  weight_some q (x ∷ xs) = some_if (same q x.0) q x xs refl (weight_some q xs)

  -- one thing more: b says that it goes on with the run, c and d that the run and the thing are of a key
  step_forth : (b c d : Bool) (kw w x most : ℕ) → (b ≡ true → c ≡ d) → (b ≡ false → c ≡ true → (d ≡ false) × (kw ≡ 0))
      → w ≤ most → kw + cond d (cond b (w + x) x) 0 ≤ most → (cond d x 0 + kw) + cond c w 0 ≤ most
  step_forth true true true kw w x most f g l h = omega (arith, h)
  step_forth true false false kw w x most f g l h = omega (arith, h)
  step_forth true true false kw w x most f g l h = absurd (true≢false (f refl))
  step_forth true false true kw w x most f g l h = absurd (true≢false (sym (f refl)))
  step_forth false true true kw w x most f g l h = absurd (true≢false (g refl refl).0)
  step_forth false true false kw w x most f g l h = let z = (g refl refl).1 in omega (arith, l, z)
  step_forth false false true kw w x most f g l h = omega (arith, h)
  step_forth false false false kw w x most f g l h = omega (arith, h)

  step_back : (b c d : Bool) (kw w x most : ℕ) → (b ≡ true → c ≡ d) → (b ≡ false → c ≡ true → (d ≡ false) × (kw ≡ 0))
      → (cond d x 0 + kw) + cond c w 0 ≤ most → kw + cond d (cond b (w + x) x) 0 ≤ most
  step_back true true true kw w x most f g h = omega (arith, h)
  step_back true false false kw w x most f g h = omega (arith, h)
  step_back true true false kw w x most f g h = absurd (true≢false (f refl))
  step_back true false true kw w x most f g h = absurd (true≢false (sym (f refl)))
  step_back false true true kw w x most f g h = absurd (true≢false (g refl refl).0)
  step_back false true false kw w x most f g h = let z = (g refl refl).1 in omega (arith, z)
  step_back false false true kw w x most f g h = omega (arith, h)
  step_back false false false kw w x most f g h = omega (arith, h)

  goes_same : (q k : K) (x : Item) → same k x.0 ≡ true → same q k ≡ same q x.0
  goes_same q k x e = ap (same q) ((is k x.0).0 e)

  goes_other : (q k : K) (x : Item) (xs : List Item) → GoesOn k (x ∷ xs) → same k x.0 ≡ false → same q k ≡ true
      → (same q x.0 ≡ false) × (key_weight same q xs ≡ 0)
  goes_other q k x xs g e f =
      let one : q ≡ k = (is q k).0 f in (
        ap (λ (a : K). same a x.0) one ∙ e,
        weight_none q xs (λ y h s. g e y h (sym one ∙ s)),
      )

  pub light_forth : (most : ℕ) (k : K) (w : ℕ) (xs : List Item) → GoesOn k xs → StandTogether xs → w ≤ most
      → are_light same most k w xs ≡ true → (q : K) → key_weight same q xs + cond (same q k) w 0 ≤ most
  light_forth most k w [] g s l e q = none (same q k) where
    none : (b : Bool) → 0 + cond b w 0 ≤ most
    none true = omega (arith, l)
    none false = omega arith
  light_forth most k w (x ∷ xs) g s l e q =
      let parts = and_parts (leb (run_weight same k w x) most) (are_light same most x.0 (run_weight same k w x) xs) e in
      let rest = light_forth most x.0 (run_weight same k w x) xs s.0 s.1 (leb-true _ _ parts.0) parts.1 q in
      let step = step_forth (same k x.0) (same q k) (same q x.0) (key_weight same q xs) w x.1 most (goes_same q k x)
      (goes_other q k x xs g) l rest in
      let c = sum_by-cons (weight_if same q) x xs in
      omega (arith, step, c)

  pub light_back : (most : ℕ) (k : K) (w : ℕ) (xs : List Item) → GoesOn k xs → StandTogether xs
      → ((q : K) → key_weight same q xs + cond (same q k) w 0 ≤ most) → are_light same most k w xs ≡ true
  light_back most k w [] g s all = refl
  light_back most k w (x ∷ xs) g s all =
      let each : (q : K) → key_weight same q xs + cond (same q x.0) (run_weight same k w x) 0 ≤ most = λ q.
      step_back (same k x.0) (same q k) (same q x.0) (key_weight same q xs) w x.1 most (goes_same q k x)
      (goes_other q k x xs g) (let a = all q in let c = sum_by-cons (weight_if same q) x xs in omega (arith, a, c)) in
      let own = each x.0 in
      let itself : same x.0 x.0 ≡ true = (is x.0 x.0).1 refl in
      let low : key_weight same x.0 xs + run_weight same k w x ≤ most = rw itself at own in
      and_from _ _ (le-leb _ _ (omega (arith, low)))
      (light_back most x.0 (run_weight same k w x) xs s.0 s.1 each)

  -- The keys of runs

  back_if : (b : Bool) (q : K) (x : Item) (xs : List Item) (ks : List K)
      → (In q ks → (y : Item) × In y xs × (y.0 ≡ q)) → In q (cond b ks (x.0 ∷ ks))
      → (y : Item) × In y (x ∷ xs) × (y.0 ≡ q)
  back_if true q x xs ks more h = let (y, i, e) = more h in (y, inr i, e)
  back_if false q x xs ks more (inl e) = (x, inl refl, e)
  back_if false q x xs ks more (inr h) = let (y, i, e) = more h in (y, inr i, e)

  -- a run's key is that of a thing
  pub run_key_back : (k q : K) (xs : List Item) → In q (run_keys same k xs) → (y : Item) × In y xs × (y.0 ≡ q)
  run_key_back k q [] h = absurd h
  run_key_back k q (x ∷ xs) h =
      back_if (same k x.0) q x xs (run_keys same x.0 xs) (run_key_back x.0 q xs) h

  first_if : (b : Bool) (k : K) (x : Item) (ks : List K) → same k x.0 ≡ b → (x.0 ≡ k) ⊎ In x.0 (cond b ks (x.0 ∷ ks))
  first_if true k x ks e = inl (sym ((is k x.0).0 e))
  first_if false k x ks e = inr (inl refl)

  later_if : (b : Bool) (k q : K) (x : Item) (ks : List K) → same k x.0 ≡ b → (q ≡ x.0) ⊎ In q ks
      → (q ≡ k) ⊎ In q (cond b ks (x.0 ∷ ks))
  later_if true k q x ks e (inl s) = inl (s ∙ sym ((is k x.0).0 e))
  later_if false k q x ks e (inl s) = inr (inl (sym s))
  later_if true k q x ks e (inr h) = inr h
  later_if false k q x ks e (inr h) = inr (inr h)

  -- and each thing's key is that of a run
  pub run_key_there : (k : K) (y : Item) (xs : List Item) → In y xs → (y.0 ≡ k) ⊎ In y.0 (run_keys same k xs)
  run_key_there k y [] h = absurd h
  run_key_there k y (x ∷ xs) (inl e) =
      rw (← e) (first_if (same k x.0) k x (run_keys same x.0 xs) refl)
  run_key_there k y (x ∷ xs) (inr h) =
      later_if (same k x.0) k y.0 x (run_keys same x.0 xs) refl (run_key_there x.0 y xs h)

  abbrev Apart : K → List K → Type 0
  Apart k ks = EachPair (λ (a b : K). a ≢ b) ks × (In k ks → ⊥)

  apart_if : (b : Bool) (k : K) (x : Item) (xs : List Item) (ks : List K) → same k x.0 ≡ b → GoesOn k (x ∷ xs)
      → (In k ks → (y : Item) × In y xs × (y.0 ≡ k)) → Apart x.0 ks → Apart k (cond b ks (x.0 ∷ ks))
  apart_if true k x xs ks e g back a = (a.0, λ h. a.1 (rw (← (is k x.0).0 e) h))
  apart_if false k x xs ks e g back a = (
    (in_each (λ (b : K). x.0 ≢ b) ks (λ b h s. a.1 (rw s h)), a.0),
    λ h. elim h [
      | inl s ↦ absurd (true≢false (sym ((is k x.0).1 (sym s)) ∙ e))
      | inr i ↦ let (y, j, s) = back i in g e y j (sym s)
    ],
  )

  -- no two runs have one key
  pub run_keys_apart : (k : K) (xs : List Item) → GoesOn k xs → StandTogether xs → Apart k (run_keys same k xs)
  run_keys_apart k [] g s = (tt, λ h. h)
  run_keys_apart k (x ∷ xs) g s =
      apart_if (same k x.0) k x xs (run_keys same x.0 xs) refl g (run_key_back x.0 k xs)
      (run_keys_apart x.0 xs s.0 s.1)
