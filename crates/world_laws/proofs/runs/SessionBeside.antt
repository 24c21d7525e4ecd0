-- A session beside others: how sums grow, and what the latest is. Callers want `sum_with`, `count_with`, `latest_with`.
use Rattle.std.proofs.Common.{◌≡◌, ◌≢◌, ℕ, ◌+◌, ◌≤◌, Bool, cond, false, List, []}
use Rattle.std.proofs.Common.{◌∷◌, fold, length, Option, None, ap, ◌∙◌, refl, inl, inr, arith}
use Rattle.std.specs.List.{sum_by}
use Rattle.std.proofs.lemmas.Bool.{cases_order}
use Rattle.std.proofs.lemmas.List.Sums.{sum_by-cons}
use Rattle.apex_base.specs.declared.records.Record.{Record}
use Rattle.apex_base.specs.declared.records.Target.{Target}
use Rattle.apex_base.specs.Held.{candidate, later, target_of, latest}
use Rattle.apex_base.specs.Members.{In}
use Rattle.apex_base.specs.Sessions.{with_session}
use Rattle.apex_world.specs.Bounds.{name_count}
use Rattle.apex_base.proofs.SessionLemmas.{with_lt, with_eq, with_gt}

-- of what one session adds
pub sum_with : (g : Record → ℕ) (s : Record) (ss : List Record) → sum_by g (with_session s ss) ≤ g s + sum_by g ss
sum_with g s [] = let a = sum_by-cons g s [] in omega (arith, a)
sum_with g s (x ∷ ss) =
    let b = sum_by-cons g x ss in
    elim (cases_order x.id.0 s.id.0) [
      | inl e ↦ let a = sum_by-cons g s ss in omega (arith, a, b, ap (sum_by g) (with_eq s x ss e))
      | inr o ↦ elim o [
        | inl l ↦
            let r = sum_with g s ss in
            let a = sum_by-cons g x (with_session s ss) in
            omega (arith, a, b, r, ap (sum_by g) (with_lt s x ss l))
        | inr l ↦ let a = sum_by-cons g s (x ∷ ss) in omega (arith, a, b, ap (sum_by g) (with_gt s x ss l))
      ]
    ]

-- what doesn't pass adds no name
pub count_with : (test : Record → Bool) (s : Record) (ss : List Record) → test s ≡ false
    → name_count test (with_session s ss) ≤ name_count test ss
count_with test s ss e =
    let l = sum_with (λ r. cond (test r) (length r.parts) 0) s ss in
    let none : cond (test s) (length s.parts) 0 ≡ 0 = ap (λ b. cond b (length s.parts) 0) e in
    omega (arith, l, none)

module _ (test : Record → Bool) (name : List ℕ) (s : Record) (none : candidate (test s) name s ≡ None) where
  -- the best of sessions after one that was the best
  abbrev best : Option (ℕ × Target) → List Record → Option (ℕ × Target)
  best b ss = fold (λ b r. later b (candidate (test r) name r)) b ss

  -- the best of sessions is that without the new one
  best_with : (ss : List Record) (b : Option (ℕ × Target)) → ((r : Record) → In r ss → r.id.0 ≢ s.id.0)
      → best b (with_session s ss) ≡ best b ss
  best_with [] b apart = ap (later b) none
  best_with (x ∷ ss) b apart =
      elim (cases_order x.id.0 s.id.0) [
        | inl e ↦ absurd (apart x (inl refl) e)
        | inr o ↦ elim o [
          | inl l ↦ ap (best b) (with_lt s x ss l)
              ∙ best_with ss (later b (candidate (test x) name x)) (λ r h. apart r (inr h))
          | inr l ↦ ap (best b) (with_gt s x ss l) ∙ ap (λ (c : Option (ℕ × Target)). best (later b c) (x ∷ ss)) none
        ]
      ]

  -- a new session that doesn't count leaves the latest
  pub latest_with : (ss : List Record) → ((r : Record) → In r ss → r.id.0 ≢ s.id.0)
      → latest test (with_session s ss) name ≡ latest test ss name
  latest_with ss apart = ap target_of (best_with ss None apart)
