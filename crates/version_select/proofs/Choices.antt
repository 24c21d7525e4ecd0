-- How a choice changes by one candidate more.
use Rattle.std.proofs.Common.{◌≡◌, ℕ, Bool, true, false, List, [], ◌∷◌, ◌++◌, Option, Some, None, refl, sym, subst, ◌∙◌, inl, inr, arith}
use Rattle.std.specs.List.{All}
use Rattle.std.proofs.lemmas.List.Elements.{All-push, All-weaker, Contains-push, Contains-append_left}
use Rattle.apex_base.specs.declared.records.Place.{Place}
use Rattle.version_select.specs.declared.candidate.Candidate.{Candidate}
use Rattle.version_select.specs.Kept.{Improves}
use Rattle.version_select.specs.Selecting.{offered, IsBetter, IsChoice}

-- nothing is better than itself
not_itself : (a : ℕ × Place) → IsBetter a a → ⊥
not_itself a (inl lt) = omega (arith, lt)
not_itself a (inr (same, data_, not_data)) = not_data data_

-- what is better than something better is better
still_better : (a b c : ℕ × Place) → IsBetter a b → IsBetter b c → IsBetter a c
still_better a b c (inl p) (inl q) = inl (omega (arith, p, q))
still_better a b c (inl p) (inr q) = inl (omega (arith, p, q.0))
still_better a b c (inr p) (inl q) = inl (omega (arith, p.0, q))
still_better a b c (inr p) (inr q) = inr (p.0 ∙ q.0, p.1, q.2)

abbrev NotUsable : List ℕ → Candidate → Type 0
NotUsable name d = d.name ≡ name → d.usable ≡ false

abbrev Unbeaten : List ℕ → Candidate → Candidate → Type 0
Unbeaten name c d = d.name ≡ name → d.usable ≡ true → IsBetter (offered d) (offered c) → ⊥

true_false : (b : Bool) → b ≡ true → b ≡ false → ⊥
true_false b e f = let both : true ≡ false = sym e ∙ f in absurd cc

-- a candidate that isn't usable changes nothing
choice_stays : (seen : List Candidate) (c : Candidate) (before : Option (ℕ × Place)) → c.usable ≡ false
    → IsChoice seen c.name before → IsChoice (seen ++ c ∷ []) c.name before
choice_stays seen c None not_usable h = All-push (NotUsable c.name) seen c h (λ _. not_usable)
choice_stays seen c (Some best) not_usable (d, h, e) = (
  d,
  record {
    among = Contains-append_left seen (c ∷ []) d h.among;
    named = h.named;
    usable = h.usable;
    unbeaten = All-push (Unbeaten c.name d) seen c h.unbeaten (λ _ usable _. true_false c.usable usable not_usable);
  },
  e,
)

-- a usable one that is better than all usable ones before it
newest : (seen : List Candidate) (c : Candidate) → c.usable ≡ true
    → All (Unbeaten c.name c) seen
    → IsChoice (seen ++ c ∷ []) c.name (Some (offered c))
newest seen c usable h = (
  c,
  record {
    among = Contains-push seen c;
    named = refl;
    usable = usable;
    unbeaten = All-push (Unbeaten c.name c) seen c h (λ _ _ better. not_itself (offered c) better);
  },
  refl,
)

-- the first usable one of its name
choice_begins : (seen : List Candidate) (c : Candidate) → c.usable ≡ true → IsChoice seen c.name None
    → IsChoice (seen ++ c ∷ []) c.name (Some (offered c))
choice_begins seen c usable h =
    newest seen c usable
    (All-weaker (NotUsable c.name) (Unbeaten c.name c)
    (λ d none named d_usable _. true_false d.usable d_usable (none named)) seen h)

-- one that is better than the best so far
better_choice : (seen : List Candidate) (c : Candidate) (best : ℕ × Place) → c.usable ≡ true
    → IsBetter (offered c) best → IsChoice seen c.name (Some best)
    → IsChoice (seen ++ c ∷ []) c.name (Some (offered c))
better_choice seen c best usable better (e, h, is) =
    let over : IsBetter (offered c) (offered e) = subst (λ (b : ℕ × Place). IsBetter (offered c) b) (sym is) better in
    newest seen c usable
    (All-weaker (Unbeaten c.name e) (Unbeaten c.name c) (λ d unbeaten named d_usable more.
    unbeaten named d_usable (still_better (offered d) (offered c) (offered e) more over)) seen h.unbeaten)

pub choice_changes : (seen : List Candidate) (c : Candidate) (before : Option (ℕ × Place)) → Improves c before
    → IsChoice seen c.name before → IsChoice (seen ++ c ∷ []) c.name (Some (offered c))
choice_changes seen c None usable h = choice_begins seen c usable h
choice_changes seen c (Some best) (usable, better) h = better_choice seen c best usable better h

worse_choice : (seen : List Candidate) (c : Candidate) (before : Option (ℕ × Place)) → c.usable ≡ true
    → (Improves c before → ⊥) → IsChoice seen c.name before → IsChoice (seen ++ c ∷ []) c.name before
worse_choice seen c None usable worse h = absurd (worse usable)
worse_choice seen c (Some best) usable worse (e, h, is) = (
  e,
  record {
    among = Contains-append_left seen (c ∷ []) e h.among;
    named = h.named;
    usable = h.usable;
    unbeaten = All-push (Unbeaten c.name e) seen c h.unbeaten
        (λ _ _ better. worse (usable, subst (λ (b : ℕ × Place). IsBetter (offered c) b) is better));
  },
  is,
)

-- one that isn't
pub choice_holds : (seen : List Candidate) (c : Candidate) (before : Option (ℕ × Place))
    → (Improves c before → ⊥) → IsChoice seen c.name before → IsChoice (seen ++ c ∷ []) c.name before
choice_holds seen c before worse h = by_usable c.usable refl
  where
    by_usable : (usable : Bool) → c.usable ≡ usable → IsChoice (seen ++ c ∷ []) c.name before
    by_usable true e = worse_choice seen c before e worse h
    by_usable false e = choice_stays seen c before e h
