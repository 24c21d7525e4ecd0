-- Each range's bytes are picked, also where ranges overlap.
use Rattle.std.proofs.Common.{◌≡◌, ◌⊎◌, inl, inr, ⊎_elim, ℕ, ◌+◌, ◌*◌, ◌%◌, ◌≤◌, ◌<◌, ◌==◌, Bool, true, false, cond, List, [], ◌∷◌, ◌++◌, length, take, get_or, refl, sym, ◌∙◌, ap, subst, arith}
use Rattle.std.proofs.lemmas.Bool.{cases_lt}
use Rattle.std.proofs.lemmas.List.{take_more}
use Rattle.apex_disk.specs.Content.{Inside, Covered}
use Rattle.apex_disk.specs.Pick.{picked}
use Rattle.apex_disk.specs.declared.content.Range.{Range}
use Rattle.apex_disk.proofs.Ranges.{covered_left, covered_last, covered_or}

twice : (a b c d : Bool) (n s o : ℕ)
    → cond a s (cond b (cond a s (cond b n (cond c n (cond d s o))))
    (cond c (cond a s (cond b n (cond c n (cond d s o)))) (cond d s o))) ≡ cond a s (cond b n (cond c n (cond d s o)))
twice true b c d n s o = refl
twice false true c d n s o = refl
twice false false true d n s o = refl
twice false false false true n s o = refl
twice false false false false n s o = refl

pub picked_twice : (p k n s : ℕ) → picked p k (picked p k n s) s ≡ picked p k n s
picked_twice p k n s = twice (p == 0) (p == 1) ((k + p) % 3 == 0) ((k + p) % 3 == 1) n s ((7 * k + p) % 256)

inside_or : (r : Range) (k : ℕ) → Inside r k ⊎ ((k < r.at) ⊎ (r.at + r.len ≤ k))
inside_or r k = elim (cases_lt k r.at) [
  | inl low ↦ inr (inl low)
  | inr from_at ↦ elim (cases_lt k (r.at + r.len)) [ inl inside ↦ inl (from_at, inside) | inr above ↦ inr (inr above) ]
]

covered_cases : (ranges : List Range) (k : ℕ) → Covered ranges k ⊎ (Covered ranges k → ⊥)
covered_cases [] k = inr (λ none. none)
covered_cases (r ∷ ranges) k = elim (inside_or r k) [
  | inl here ↦ inl (inl here)
  | inr out ↦ elim (covered_cases ranges k) [
    | inl there ↦ inl (inr there)
    | inr not ↦ inr
        (λ covered. ⊎_elim (λ (i : Inside r k). ⊎_elim (λ (low : k < r.at). absurd (omega (arith, low, i.0)))
        (λ (high : r.at + r.len ≤ k). absurd (omega (arith, high, i.1))) out) not covered)
  ]
]

-- all bytes of the ranges are picked, and no others
pub record Picked (ranges : List Range) (pick : ℕ) (first synced bytes : List ℕ) : Type 0 where
  pub inside : (k : ℕ) → Covered ranges k → get_or bytes k 0 ≡ picked pick k (get_or first k 0) (get_or synced k 0)
  pub others : (k : ℕ) → (Covered ranges k → ⊥) → get_or bytes k 0 ≡ get_or first k 0

pub pick_more : (ranges : List Range) (r : Range) (pick : ℕ) (first synced before after : List ℕ)
    → Picked ranges pick first synced before
    → ((k : ℕ) → r.at ≤ k → k < r.at + r.len → get_or after k 0 ≡ picked pick k (get_or before k 0) (get_or synced k 0))
    → ((k : ℕ) → k < r.at → get_or after k 0 ≡ get_or before k 0)
    → ((k : ℕ) → r.at + r.len ≤ k → get_or after k 0 ≡ get_or before k 0)
    → Picked (ranges ++ r ∷ []) pick first synced after
pick_more ranges r pick first synced before after was inside below above = record {
  inside = λ k covered. elim (inside_or r k) [
    | inl here ↦ inside k here.0 here.1 ∙ elim (covered_cases ranges k) [
      | inl there ↦ ap (λ n. picked pick k n (get_or synced k 0)) (was.inside k there)
          ∙ picked_twice pick k (get_or first k 0) (get_or synced k 0)
      | inr not ↦ ap (λ n. picked pick k n (get_or synced k 0)) (was.others k not)
    ]
    | inr out ↦ stays k out
        ∙ was.inside k
        (⊎_elim (λ c. c) (λ (i : Inside r k). ⊎_elim (λ (low : k < r.at). absurd (omega (arith, low, i.0)))
        (λ (high : r.at + r.len ≤ k). absurd (omega (arith, high, i.1))) out) (covered_or ranges r k covered))
  ];
  others = λ k not. elim (inside_or r k) [
    | inl here ↦ absurd (not (covered_last ranges r k here))
    | inr out ↦ stays k out ∙ was.others k (λ c. not (covered_left ranges r k c))
  ];
}
  where
    stays : (k : ℕ) → (k < r.at) ⊎ (r.at + r.len ≤ k) → get_or after k 0 ≡ get_or before k 0
    stays k (inl low) = below k low
    stays k (inr high) = above k high

pub pick_step : (ranges : List Range) (i : ℕ) (r d : Range) (pick : ℕ) (first synced before after : List ℕ)
    → i < length ranges → r ≡ get_or ranges i d → Picked (take i ranges) pick first synced before
    → ((k : ℕ) → r.at ≤ k → k < r.at + r.len → get_or after k 0 ≡ picked pick k (get_or before k 0) (get_or synced k 0))
    → ((k : ℕ) → k < r.at → get_or after k 0 ≡ get_or before k 0)
    → ((k : ℕ) → r.at + r.len ≤ k → get_or after k 0 ≡ get_or before k 0)
    → Picked (take (i + 1) ranges) pick first synced after
pick_step ranges i r d pick first synced before after lt is was inside below above =
    let more : take (i + 1) ranges ≡ take i ranges ++ r ∷ [] = take_more ranges i d lt
    ∙ ap (λ (x : Range). take i ranges ++ x ∷ []) (sym is) in
    subst (λ (l : List Range). Picked l pick first synced after) (sym more)
    (pick_more (take i ranges) r pick first synced before after was inside below above)
