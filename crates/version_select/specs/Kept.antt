-- What is kept of the candidates that were seen, by name.
use Rattle.std.specs.Prelude.{◌≡◌, ℕ, true, List, Option, Some, None}
use Rattle.std.specs.Cmp.Lexicographic.{slice_cmp}
use Rattle.std.specs.Map.{lookup}
use Rattle.std.specs.Ordering.{is_eq, nat_cmp}
use Rattle.apex_base.specs.declared.records.Pick.{Pick}
use Rattle.apex_base.specs.declared.records.Place.{Place}
use Rattle.version_select.specs.declared.candidate.Candidate.{Candidate}
use Rattle.version_select.specs.Selecting.{offered, IsBetter, IsNamed, IsChoice}

abbrev pub Entries : Type 0
Entries = List (List ℕ × Option (ℕ × Place))

-- what stands at a name
abbrev pub kept_at : Entries → List ℕ → Option (Option (ℕ × Place))
kept_at entries name = lookup (λ key. is_eq (slice_cmp nat_cmp name key)) entries

-- nothing where no candidate has the name, and else the choice
abbrev pub IsKept : List Candidate → List ℕ → Option (Option (ℕ × Place)) → Type 0
IsKept candidates name None = IsNamed candidates name → ⊥
IsKept candidates name (Some chosen) = IsNamed candidates name × IsChoice candidates name chosen

-- for every name
abbrev pub KeepsChoices : List Candidate → Entries → Type 0
KeepsChoices candidates entries = (name : List ℕ) → IsKept candidates name (kept_at entries name)

-- a name that isn't there has no choice
abbrev pub flat : Option (Option (ℕ × Place)) → Option (ℕ × Place)
flat None = None
flat (Some chosen) = chosen

-- whether a candidate is usable and better than the choice so far
abbrev pub Improves : Candidate → Option (ℕ × Place) → Type 0
Improves c None = c.usable ≡ true
Improves c (Some best) = (c.usable ≡ true) × IsBetter (offered c) best

abbrev pub pick_of : List ℕ × Option (ℕ × Place) → Pick
pick_of e = record { name = e.0; chosen = e.1 }
