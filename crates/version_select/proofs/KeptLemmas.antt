-- What is kept of the candidates that were seen.
use Rattle.std.proofs.Common.{◌≡◌, ℕ, ◌+◌, ◌<◌, Bool, true, false, cond, List, [], ◌∷◌, ◌++◌, length, get_or, take, Option, Some, None, refl, sym, ap, subst, ◌∙◌, inl, inr, arith}
use Rattle.std.specs.Cmp.Lexicographic.{slice_cmp, nat_list_cmp_total}
use Rattle.std.specs.FinMap.{slice_cmp-IsAntisymmetric, nat_cmp-IsAntisymmetric}
use Rattle.std.specs.List.{Contains}
use Rattle.std.specs.Ordering.{eq_by_cmp, nat_cmp}
use Rattle.std.proofs.lemmas.Cmp.{eq_by_cmp_equiv}
use Rattle.std.proofs.lemmas.List.{take_more}
use Rattle.std.proofs.lemmas.List.Elements.{All-push, All-weaker, All-contains_itself, Contains-push, Contains-push_cases, Contains-append_left}
use Rattle.std.proofs.lemmas.Map.Views.{tells_apart}
use Rattle.apex_base.specs.declared.records.Place.{Place}
use Rattle.version_select.specs.declared.candidate.Candidate.{Candidate}
use Rattle.version_select.specs.Kept.{Entries, kept_at, IsKept, KeepsChoices, flat}
use Rattle.version_select.specs.Selecting.{offered, IsBetter, IsNamed, IsChoice}

abbrev pub is_same : List ℕ → List ℕ → Bool
is_same a b = eq_by_cmp (slice_cmp nat_cmp) a b

pub same_name : (a b : List ℕ) → is_same a b ≡ true → a ≡ b
same_name a b e = tells_apart {R = slice_cmp nat_cmp} (slice_cmp-IsAntisymmetric nat_cmp-IsAntisymmetric) a b e

pub is_itself : (a : List ℕ) → is_same a a ≡ true
is_itself a = (eq_by_cmp_equiv nat_list_cmp_total).refl a

pub other_name : (a b : List ℕ) → is_same a b ≡ false → a ≡ b → ⊥
other_name a b e is =
    let itself : is_same a b ≡ true = subst (λ (name : List ℕ). is_same a name ≡ true) is (is_itself a) in
    let both : true ≡ false = sym itself ∙ e in absurd cc

-- nothing was seen
pub keeps_nothing : KeepsChoices [] []
keeps_nothing name = λ named. omega (arith, named.1.1)

-- a name that no candidate had has no choice
kept_choice : (seen : List Candidate) (name : List ℕ) (kept : Option (Option (ℕ × Place))) → IsKept seen name kept
    → IsChoice seen name (flat kept)
kept_choice seen name (Some chosen) h = h.1
kept_choice seen name None h =
    All-weaker (Contains seen) (λ d. d.name ≡ name → d.usable ≡ false) (λ d among named. absurd (h (d, among, named)))
    seen (All-contains_itself seen)

-- one candidate more of another name
choice_besides : (seen : List Candidate) (c : Candidate) (name : List ℕ) (chosen : Option (ℕ × Place))
    → (c.name ≡ name → ⊥) → IsChoice seen name chosen → IsChoice (seen ++ c ∷ []) name chosen
choice_besides seen c name None other h =
    All-push (λ d. d.name ≡ name → d.usable ≡ false) seen c h (λ named. absurd (other named))
choice_besides seen c name (Some best) other (e, h, is) = (
  e,
  record {
    among = Contains-append_left seen (c ∷ []) e h.among;
    named = h.named;
    usable = h.usable;
    unbeaten = All-push (λ d. d.name ≡ name → d.usable ≡ true → IsBetter (offered d) (offered e) → ⊥) seen c
        h.unbeaten (λ named _ _. other named);
  },
  is,
)

kept_besides : (seen : List Candidate) (c : Candidate) (name : List ℕ) (kept : Option (Option (ℕ × Place)))
    → (c.name ≡ name → ⊥) → IsKept seen name kept → IsKept (seen ++ c ∷ []) name kept
kept_besides seen c name None other h = λ named. unnamed named
  where
    unnamed : IsNamed (seen ++ c ∷ []) name → ⊥
    unnamed (d, among, is) =
        elim (Contains-push_cases seen c d among) [
          | inl before ↦ h (d, before, is)
          | inr last ↦ other (ap (λ (x : Candidate). x.name) last ∙ is)
        ]
kept_besides seen c name (Some chosen) other (named, choice) = (
  (named.0, Contains-append_left seen (c ∷ []) named.0 named.1, named.2),
  choice_besides seen c name chosen other choice,
)

-- one candidate more
pub kept_more : (seen : List Candidate) (c : Candidate) (before after : Entries) (chosen : Option (ℕ × Place))
    → ((name : List ℕ) → kept_at after name ≡ cond (is_same c.name name) (Some chosen) (kept_at before name))
    → (IsChoice seen c.name (flat (kept_at before c.name)) → IsChoice (seen ++ c ∷ []) c.name chosen)
    → KeepsChoices seen before → KeepsChoices (seen ++ c ∷ []) after
kept_more seen c before after chosen updates improves keeps name =
    rw updates (by_name (is_same c.name name) refl)
  where
    by_name : (same : Bool) → is_same c.name name ≡ same
        → IsKept (seen ++ c ∷ []) name (cond same (Some chosen) (kept_at before name))
    by_name true e =
        subst (λ (n : List ℕ). IsKept (seen ++ c ∷ []) n (Some chosen)) (same_name c.name name e)
        ((c, Contains-push seen c, refl), improves (kept_choice seen c.name (kept_at before c.name) (keeps c.name)))
    by_name false e = kept_besides seen c name (kept_at before name) (other_name c.name name e) (keeps name)

pub seen_more : (candidates : List Candidate) (i : ℕ) (c : Candidate) → i < length candidates
    → c ≡ get_or candidates i c → take (i + 1) candidates ≡ take i candidates ++ c ∷ []
seen_more candidates i c lt is =
    take_more candidates i c lt ∙ ap (λ (x : Candidate). take i candidates ++ x ∷ []) (sym is)
