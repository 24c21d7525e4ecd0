-- What a name holds after sessions changed. Callers want `held_beside`, `held_again`, `held_map`.
use Rattle.std.proofs.Common.{◌≡◌, ℕ, List, [], ◌∷◌, map, fold, Option, Some, None, sym, ap, ◌∙◌, refl, inl, inr}
use Rattle.std.proofs.lemmas.Bool.{cases_order}
use Rattle.apex_base.specs.declared.records.Record.{Record}
use Rattle.apex_base.specs.declared.records.Target.{Target}
use Rattle.apex_base.specs.Held.{is_standing, candidate, later, target_of, held}
use Rattle.apex_base.specs.Members.{In}
use Rattle.apex_base.specs.Sessions.{session_of, with_session}
use Rattle.apex_base.proofs.SessionLemmas.{with_lt, with_eq, with_gt, of_lt, of_eq, of_gt}

-- what a session has for a name, where it stands
abbrev pub stands_for : List ℕ → Record → Option (ℕ × Target)
stands_for name r = candidate (is_standing r.state) name r

module _ (name : List ℕ) where
  abbrev best : Option (ℕ × Target) → List Record → Option (ℕ × Target)
  best b ss = fold (λ b r. later b (stands_for name r)) b ss

  nothing : (b c : Option (ℕ × Target)) → c ≡ None → later b c ≡ b
  nothing b c e = ap (later b) e

  best_beside : (s : Record) (ss : List Record) (b : Option (ℕ × Target)) → stands_for name s ≡ None
      → ((r : Record) → In r ss → r.id.0 ≡ s.id.0 → stands_for name r ≡ None) → best b (with_session s ss) ≡ best b ss
  best_beside s [] b e all = nothing b (stands_for name s) e
  best_beside s (x ∷ ss) b e all =
      elim (cases_order x.id.0 s.id.0) [
        | inl f ↦ ap (best b) (with_eq s x ss f) ∙ ap (λ (c : Option (ℕ × Target)). best (later b c) ss) (e
            ∙ sym (all x (inl refl) f))
        | inr o ↦ elim o [
          | inl l ↦ ap (best b) (with_lt s x ss l) ∙ best_beside s ss (later b (stands_for name x)) e
              (λ r h f. all r (inr h) f)
          | inr l ↦ ap (best b) (with_gt s x ss l) ∙ ap (λ (c : Option (ℕ × Target)). best c (x ∷ ss))
              (nothing b (stands_for name s) e)
        ]
      ]

  -- a session that doesn't stand changes nothing, in the place of none that stands
  pub held_beside : (s : Record) (ss : List Record) → stands_for name s ≡ None
      → ((r : Record) → In r ss → r.id.0 ≡ s.id.0 → stands_for name r ≡ None)
      → held (with_session s ss) name ≡ held ss name
  held_beside s ss e all = ap target_of (best_beside s ss None e all)

  best_again : (s r : Record) (ss : List Record) (b : Option (ℕ × Target)) → session_of ss s.id ≡ Some r
      → stands_for name s ≡ stands_for name r → best b (with_session s ss) ≡ best b ss
  best_again s r [] b found e = absurd (cc)
  best_again s r (x ∷ ss) b found e =
      elim (cases_order x.id.0 s.id.0) [
        | inl f ↦
            let g : x ≡ r = cc (of_eq s.id x ss f, found) in
            ap (best b) (with_eq s x ss f) ∙ ap (λ (c : Option (ℕ × Target)). best (later b c) ss) (e
            ∙ ap (stands_for name) (sym g))
        | inr o ↦ elim o [
          | inl l ↦ ap (best b) (with_lt s x ss l) ∙ best_again s r ss (later b (stands_for name x))
              (sym (of_lt s.id x ss l) ∙ found) e
          | inr l ↦ absurd (cc (of_gt s.id x ss l, found))
        ]
      ]

  -- nor does one that stands as the one in whose place it comes
  pub held_again : (s r : Record) (ss : List Record) → session_of ss s.id ≡ Some r
      → stands_for name s ≡ stands_for name r → held (with_session s ss) name ≡ held ss name
  held_again s r ss found e = ap target_of (best_again s r ss None found e)

  best_map : (f : Record → Record) (ss : List Record) (b : Option (ℕ × Target))
      → ((r : Record) → In r ss → stands_for name (f r) ≡ stands_for name r) → best b (map f ss) ≡ best b ss
  best_map f [] b same = refl
  best_map f (x ∷ ss) b same =
      ap (λ (c : Option (ℕ × Target)). best (later b c) (map f ss)) (same x (inl refl))
      ∙ best_map f ss (later b (stands_for name x)) (λ r h. same r (inr h))

  pub held_map : (f : Record → Record) (ss : List Record)
      → ((r : Record) → In r ss → stands_for name (f r) ≡ stands_for name r) → held (map f ss) name ≡ held ss name
  held_map f ss same = ap target_of (best_map f ss None same)
