-- Candidates have one list of picks.
use Rattle.std.proofs.Common.{T, ◌≡◌, ◌≢◌, ℕ, ◌≤◌, true, false, List, [], ◌∷◌, map, Option, Some}
use Rattle.std.proofs.Common.{None, refl, sym, ap, subst, ◌∙◌, inl, inr, arith}
use Rattle.std.specs.Prelude.{IsSome}
use Rattle.std.specs.Cmp.Lexicographic.{slice_cmp, nat_list_cmp_total}
use Rattle.std.specs.FinMap as fin
use Rattle.std.specs.FinMap.{is_sorted, slice_cmp-IsAntisymmetric, nat_cmp-IsAntisymmetric}
use Rattle.std.specs.FinMap.Entries.{same_entries}
use Rattle.std.specs.Map.{keys_of, lookup}
use Rattle.std.specs.Ordering.{eq_by_cmp, nat_cmp}
use Rattle.std.proofs.lemmas.Bool.{cases_lt}
use Rattle.std.proofs.lemmas.Cmp.{eq_by_cmp_equiv}
use Rattle.std.proofs.lemmas.List.Elements.{All-map, All-contains}
use Rattle.std.proofs.lemmas.Map.Views.{Contains-keys_from_lookup, IsSome-lookup_from_Contains, Contains-from_lookup}
use Rattle.apex_base.specs.declared.records.Pick.{Pick}
use Rattle.apex_base.specs.declared.records.Place.{Place}
use Rattle.apex_base.specs.declared.records.Place.TheVariants.{Data, Pre}
use Rattle.version_select.specs.declared.candidate.Candidate.{Candidate}
use Rattle.version_select.specs.Kept.{Entries, kept_at, IsKept, KeepsChoices, pick_of}
use Rattle.version_select.specs.Selecting.{offered, IsBetter, NoneUsable, IsChoice, names_of, ArePicks}
use Rattle.version_select.proofs.KeptLemmas.{same_name}
use Rattle.apex_base.proofs.Maps.{sorted, is_T}

-- Choices

not_above : (a b : ℕ × Place) → (IsBetter a b → ⊥) → a.0 ≤ b.0
not_above a b worse = elim (cases_lt b.0 a.0) [ inl lt ↦ absurd (worse (inl lt)) | inr le ↦ le ]

same_place : (x y : Place) → ((x ≡ Data) × (y ≢ Data) → ⊥) → ((y ≡ Data) × (x ≢ Data) → ⊥) → x ≡ y
same_place Data Data p q = refl
same_place Data Pre p q = absurd (p (refl, λ e. absurd cc))
same_place Pre Data p q = absurd (q (refl, λ e. absurd cc))
same_place Pre Pre p q = refl

-- of two of which neither is better both offer the same
same_offer : (a b : ℕ × Place) → (IsBetter a b → ⊥) → (IsBetter b a → ⊥) → a ≡ b
same_offer a b p q =
    let version : a.0 ≡ b.0 = omega (arith, not_above a b p, not_above b a q) in
    let place : a.1 ≡ b.1 =
    same_place a.1 b.1 (λ h. p (inr (version, h.0, h.1))) (λ h. q (inr (sym version, h.0, h.1))) in
    λ i. (version i, place i)

not_both : (candidates : List Candidate) (name : List ℕ) (chosen : ℕ × Place) → NoneUsable candidates name
    → IsChoice candidates name (Some chosen) → ⊥
not_both candidates name chosen none (c, h, e) =
    let unusable : c.usable ≡ false =
    All-contains (λ d. d.name ≡ name → d.usable ≡ false) candidates c none h.among h.named in
    let both : true ≡ false = sym h.usable ∙ unusable in absurd cc

one_choice : (candidates : List Candidate) (name : List ℕ) (a b : Option (ℕ × Place)) → IsChoice candidates name a
    → IsChoice candidates name b → a ≡ b
one_choice candidates name None None p q = refl
one_choice candidates name None (Some b) p q = absurd (not_both candidates name b p q)
one_choice candidates name (Some a) None p q = absurd (not_both candidates name a q p)
one_choice candidates name (Some a) (Some b) (c, h, e) (d, k, f) =
    let not_c = All-contains (λ x. x.name ≡ name → x.usable ≡ true → IsBetter (offered x) (offered d) → ⊥)
    candidates c k.unbeaten h.among h.named h.usable in
    let not_d = All-contains (λ x. x.name ≡ name → x.usable ≡ true → IsBetter (offered x) (offered c) → ⊥)
    candidates d h.unbeaten k.among k.named k.usable in
    ap (λ (x : ℕ × Place). Some x) (sym e ∙ same_offer (offered c) (offered d) not_c not_d ∙ f)

one_kept : (candidates : List Candidate) (name : List ℕ) (a b : Option (Option (ℕ × Place)))
    → IsKept candidates name a → IsKept candidates name b → a ≡ b
one_kept candidates name None None p q = refl
one_kept candidates name None (Some b) p q = absurd (p q.0)
one_kept candidates name (Some a) None p q = absurd (q p.0)
one_kept candidates name (Some a) (Some b) p q =
    ap (λ (x : Option (ℕ × Place)). Some x) (one_choice candidates name a b p.1 q.1)

-- Picks as entries

abbrev entry_of : Pick → List ℕ × Option (ℕ × Place)
entry_of p = (p.name, p.chosen)

abbrev entries_of : List Pick → Entries
entries_of ps = map entry_of ps

picks_again : (ps : List Pick) → map pick_of (entries_of ps) ≡ ps
picks_again [] = refl
picks_again (p ∷ ps) = ap (λ (qs : List Pick). p ∷ qs) (picks_again ps)

keys_are_names : (ps : List Pick) → keys_of (entries_of ps) ≡ names_of ps
keys_are_names [] = refl
keys_are_names (p ∷ ps) = ap (λ (names : List (List ℕ)). p.name ∷ names) (keys_are_names ps)

-- picks are kept choices
picks_keep : (candidates : List Candidate) (ps : List Pick) → ArePicks candidates ps
    → KeepsChoices candidates (entries_of ps)
picks_keep candidates ps h name = by_entry (kept_at (entries_of ps) name) refl
  where
    by_entry : (kept : Option (Option (ℕ × Place))) → kept_at (entries_of ps) name ≡ kept
        → IsKept candidates name kept
    by_entry None e = λ named.
        let some : IsSome (kept_at (entries_of ps) name) =
        IsSome-lookup_from_Contains (eq_by_cmp_equiv nat_list_cmp_total) name (entries_of ps)
        (rw (keys_are_names ps) ((h.names name).1 named)) in
        let none : IsSome {T = Option (ℕ × Place)} None =
        subst (λ (o : Option (Option (ℕ × Place))). IsSome o) e some in
        absurd cc
    by_entry (Some chosen) e =
        let some : IsSome (kept_at (entries_of ps) name) = rw e refl in
        let key = Contains-keys_from_lookup same_name name (entries_of ps) some in
        let own = Contains-from_lookup same_name name chosen (entries_of ps) e in (
          (h.names name).0 (rw (keys_are_names ps) at key),
          All-contains (λ x. IsChoice candidates x.0 x.1) (entries_of ps) (name, chosen)
              (All-map (λ x. IsChoice candidates x.0 x.1) entry_of ps h.chosen) own,
        )

find_lookup : (q : List ℕ) (es : Entries)
    → lookup (eq_by_cmp (slice_cmp nat_cmp) q) es ≡ fin.find (slice_cmp nat_cmp) q es
find_lookup q [] = refl
find_lookup q (e ∷ es) = rw (find_lookup q es) refl

ordered : (candidates : List Candidate) (ps : List Pick) → ArePicks candidates ps
    → T (is_sorted (slice_cmp nat_cmp) (entries_of ps))
ordered candidates ps h = is_T _ (sorted (entries_of ps) (rw (keys_are_names ps) h.ascending))

pub one_list : (candidates : List Candidate) (a b : List Pick) → ArePicks candidates a → ArePicks candidates b → a ≡ b
one_list candidates a b p q =
    let same : entries_of a ≡ entries_of b =
    same_entries (slice_cmp nat_cmp) nat_list_cmp_total (slice_cmp-IsAntisymmetric nat_cmp-IsAntisymmetric)
    (entries_of a) (entries_of b) (ordered candidates a p) (ordered candidates b q) (λ name.
    sym (find_lookup name (entries_of a))
    ∙ one_kept candidates name (kept_at (entries_of a) name) (kept_at (entries_of b) name)
    (picks_keep candidates a p name) (picks_keep candidates b q name)
    ∙ find_lookup name (entries_of b)) in
    sym (picks_again a) ∙ ap (λ (es : Entries). map pick_of es) same ∙ picks_again b
