-- The picks of what is kept, and that candidates have one list of picks.
use Rattle.std.proofs.Common.{◌≡◌, ℕ, List, [], ◌∷◌, map, Option, Some, None, refl, ap, subst}
use Rattle.std.specs.Prelude.{IsSome}
use Rattle.std.specs.Cmp.Lexicographic.{slice_cmp, nat_list_cmp_total}
use Rattle.std.specs.List.{Contains}
use Rattle.std.specs.List.Sorted.{IsStrictlySortedBy}
use Rattle.std.specs.Map.{keys_of}
use Rattle.std.specs.Ordering.{nat_cmp}
use Rattle.std.proofs.lemmas.Cmp.{eq_by_cmp_equiv}
use Rattle.std.proofs.lemmas.List.Elements.{All-weaker, All-map, All-contains_itself}
use Rattle.std.proofs.lemmas.Map.Keys.{IsDistinct-from_sorted}
use Rattle.std.proofs.lemmas.Map.Views.{Contains-keys_from_lookup, IsSome-lookup_from_Contains, lookup-from_Contains}
use Rattle.apex_base.specs.declared.records.Place.{Place}
use Rattle.version_select.specs.declared.candidate.Candidate.{Candidate}
use Rattle.version_select.specs.Kept.{Entries, kept_at, IsKept, KeepsChoices, pick_of}
use Rattle.version_select.specs.Selecting.{IsNamed, IsChoice, names_of, ArePicks}
use Rattle.version_select.proofs.KeptLemmas.{same_name}

-- From what is kept to picks

names_kept : (es : Entries) → names_of (map pick_of es) ≡ keys_of es
names_kept [] = refl
names_kept (e ∷ es) = ap (λ (names : List (List ℕ)). e.0 ∷ names) (names_kept es)

named_kept : (candidates : List Candidate) (name : List ℕ) (kept : Option (Option (ℕ × Place)))
    → IsKept candidates name kept → IsSome kept → IsNamed candidates name
named_kept candidates name (Some chosen) h some = h.0
named_kept candidates name None h some = absurd cc

kept_named : (candidates : List Candidate) (name : List ℕ) (kept : Option (Option (ℕ × Place)))
    → IsKept candidates name kept → IsNamed candidates name → IsSome kept
kept_named candidates name (Some chosen) h named = refl
kept_named candidates name None h named = absurd (h named)

pub picks_of_kept : (candidates : List Candidate) (es : Entries) → KeepsChoices candidates es
    → IsStrictlySortedBy (slice_cmp nat_cmp) (keys_of es) → ArePicks candidates (map pick_of es)
picks_of_kept candidates es keeps sorted = record {
  ascending = rw (names_kept es) sorted;
  names = λ name. rw (names_kept es) (
    λ among. named_kept candidates name (kept_at es name) (keeps name)
        (IsSome-lookup_from_Contains (eq_by_cmp_equiv nat_list_cmp_total) name es among),
    λ named. Contains-keys_from_lookup same_name name es
        (kept_named candidates name (kept_at es name) (keeps name) named),
  );
  chosen = All-map (λ p. IsChoice candidates p.name p.chosen) pick_of es
      (All-weaker (Contains es) (λ e. IsChoice candidates e.0 e.1) (λ e among.
      let at_own : kept_at es e.0 ≡ Some e.1 =
      lookup-from_Contains (eq_by_cmp_equiv nat_list_cmp_total) e.0 e.1 es
      (IsDistinct-from_sorted (slice_cmp nat_cmp) (keys_of es) sorted) among in
      (subst (IsKept candidates e.0) at_own (keeps e.0)).1) es (All-contains_itself es));
}
