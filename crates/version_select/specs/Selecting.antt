-- What is chosen for each name among modules: docs/boot.md, "Selection"
-- (AOSP's apexd.cpp, SelectApexForActivation).
use Rattle.std.specs.Prelude.{◌≡◌, ◌≢◌, ◌⊎◌, ◌↔◌, ◌<◌, ℕ, true, false, List, map, Option, Some, None}
use Rattle.std.specs.Cmp.Lexicographic.{slice_cmp}
use Rattle.std.specs.List.{All, Contains}
use Rattle.std.specs.List.Sorted.{IsStrictlySortedBy}
use Rattle.std.specs.Ordering.{nat_cmp}
use Rattle.apex_base.specs.declared.records.Pick.{Pick}
use Rattle.apex_base.specs.declared.records.Place.{Place}
use Rattle.apex_base.specs.declared.records.Place.TheVariants.{Data}
use Rattle.version_select.specs.declared.candidate.Candidate.{Candidate}

-- the version and the place that a candidate offers
abbrev pub offered : Candidate → ℕ × Place
offered c = (c.version, c.place)

-- the greater version is better; of equal versions the one on data is
abbrev pub IsBetter : ℕ × Place → ℕ × Place → Type 0
IsBetter a b = (b.0 < a.0) ⊎ ((a.0 ≡ b.0) × (a.1 ≡ Data) × (b.1 ≢ Data))

-- some candidate has the name
abbrev pub IsNamed : List Candidate → List ℕ → Type 0
IsNamed candidates name = (c : Candidate) × Contains candidates c × (c.name ≡ name)

-- no candidate of the name is usable
abbrev pub NoneUsable : List Candidate → List ℕ → Type 0
NoneUsable candidates name = All (λ c. c.name ≡ name → c.usable ≡ false) candidates

-- a usable candidate of the name, such that no usable candidate of the name is better
pub record IsBest (candidates : List Candidate) (name : List ℕ) (c : Candidate) : Type 0 where
  pub among : Contains candidates c
  pub named : c.name ≡ name
  pub usable : c.usable ≡ true
  pub unbeaten : All (λ d. d.name ≡ name → d.usable ≡ true → IsBetter (offered d) (offered c) → ⊥) candidates

-- what is chosen for a name: what a best candidate offers, and None where none is usable
abbrev pub IsChoice : List Candidate → List ℕ → Option (ℕ × Place) → Type 0
IsChoice candidates name None = NoneUsable candidates name
IsChoice candidates name (Some chosen) =
    (c : Candidate) × IsBest candidates name c × (offered c ≡ chosen)

abbrev pub names_of : List Pick → List (List ℕ)
names_of picks = map (λ p. p.name) picks

-- the names of candidates, ascending and each once, with what is chosen for each
pub record ArePicks (candidates : List Candidate) (picks : List Pick) : Type 0 where
  pub ascending : IsStrictlySortedBy (slice_cmp nat_cmp) (names_of picks)
  pub names : (name : List ℕ) → Contains (names_of picks) name ↔ IsNamed candidates name
  pub chosen : All (λ p. IsChoice candidates p.name p.chosen) picks
