-- The packages of a submit: what they say, that no name stands twice, and that no unfinished session has one. Callers
-- want `IsPackageOf`, `packages_are`, `once_named`, `each_passes` and `not_overlapping`.
use Rattle.std.proofs.Common.{◌≡◌, ◌≢◌, ℕ, ◌+◌, Bool, true, false, cond, ◌&&◌, IsTrue, List, [], ◌∷◌}
use Rattle.std.proofs.Common.{length, find, Option, Some, None, Result, Ok, Err, sym, ap, subst, ◌∙◌, refl, inl, inr}
use Rattle.std.proofs.Common.{arith}
use Rattle.std.specs.List.{list_any}
use Rattle.std.specs.Str.{bytes_eq}
use Rattle.std.proofs.lemmas.Bool.{false≢true, and_from}
use Rattle.apex_base.specs.declared.fault.ModuleFault.{ModuleFault}
use Rattle.apex_base.specs.declared.records.Record.{Record}
use Rattle.apex_base.specs.declared.refusal.Refusal.{Refusal}
use Rattle.apex_base.specs.declared.refusal.Refusal.TheVariants.{TwiceNamed}
use Rattle.apex_base.specs.Held.{is_unfinished}
use Rattle.apex_base.specs.Members.{In, EachPair}
use Rattle.apex_base.specs.Modules.{FileMap}
use Rattle.apex_base.specs.Ranges.{IsVersion}
use Rattle.apex_base.specs.Results.{◌>>=◌}
use Rattle.apex_base.specs.Sessions.{names}
use Rattle.apex_base.specs.Text.{is_name}
use Rattle.apex_base.proofs.Finding.{finds}
use Rattle.apex_base.proofs.MemberLemmas.{in_any, in_each}
use Rattle.apex_manifest.specs.declared.manifest.Manifest.{Manifest}
use Rattle.apex_world.specs.declared.modules.Package.{Package}
use Rattle.apex_world.specs.Soundness.{checked}
use Rattle.apex_world.specs.Submit.{package_of}
use Rattle.apex_world.specs.Submit.{packages_from, twice_named, or_else, first_of, overlaps}
use Rattle.apex_world.specs.Submit.{overlap}
use Rattle.world_facts.proofs.facts.KeptLemmas.{eq_name}
use Rattle.world_laws.proofs.runs.SoundRanges.{then_ok, checked_ranges}

-- each says what its module does
pub record IsPackageOf (parts : List FileMap) (p : Package) : Type 0 where
  pub among : In p.content parts
  pub checks : checked p.content ≡ Ok (record { name = p.name; version = p.version })
  pub name : IsTrue (is_name p.name)
  pub version : IsVersion p.version

-- a module that is sound is a package
package_if : (k : ℕ) (m : FileMap) (p : Package) (o : Result Manifest ModuleFault) → checked m ≡ o
    → package_of k m o ≡ Ok p → IsPackageOf (m ∷ []) p
package_if k m p (Err fault) e f = absurd (cc)
package_if k m p (Ok manifest) e f =
    let same : ◌≡◌ {A = Package} (record { name = manifest.name; version = manifest.version; content = m }) p = cc in
    let (name, version) = checked_ranges m manifest e in
    subst (IsPackageOf (m ∷ [])) same (record { among = inl refl; checks = e; name = name; version = version })

-- of more parts
package_more : (m : FileMap) (ms : List FileMap) (p : Package) → ((x : FileMap) → In x ms → In x (m ∷ ms))
    → IsPackageOf ms p → IsPackageOf (m ∷ ms) p
package_more m ms p more a = record {
  among = more p.content a.among;
  checks = a.checks;
  name = a.name;
  version = a.version;
}

-- there are as many packages as modules, and each is one of a module
pub packages_are : (k : ℕ) (parts : List FileMap) (ps : List Package) → packages_from k parts ≡ Ok ps
    → (length ps ≡ length parts) × ((p : Package) → In p ps → IsPackageOf parts p)
packages_are k [] ps e =
    let same : [] ≡ ps = cc in
    subst (λ (ps : List Package). (length ps ≡ 0) × ((p : Package) → In p ps → IsPackageOf [] p)) same
    (refl, λ p h. absurd h)
packages_are k (m ∷ ms) ps e =
    let (p, a, e1) = then_ok (package_of k m (checked m)) (λ p. packages_from (k + 1) ms >>= λ qs. Ok (p ∷ qs)) ps e in
    let (qs, b, e2) = then_ok (packages_from (k + 1) ms) (λ qs. Ok (p ∷ qs)) ps e1 in
    let same : p ∷ qs ≡ ps = cc in
    let (count, each) = packages_are (k + 1) ms qs b in
    let first = package_if k m p (checked m) refl a in
    subst (λ (ps : List Package). (length ps ≡ length (m ∷ ms)) × ((q : Package) → In q ps → IsPackageOf (m ∷ ms) q))
    same (
      omega (arith, count),
      λ q h. elim h [
        | inl is ↦ subst (IsPackageOf (m ∷ ms)) is (record {
          among = elim first.among [
            | inl there ↦ inl there
            | inr none ↦ absurd none
          ];
          checks = first.checks;
          name = first.name;
          version = first.version;
        })
        | inr i ↦ package_more m ms q (λ x j. inr j) (each q i)
      ],
    )

-- no name stands twice
not_named : (earlier ps : List Package) → twice_named earlier ps ≡ None → (a b : Package) → In a earlier → In b ps
    → a.name ≢ b.name
not_named earlier [] e a b h i = absurd i
not_named earlier (p ∷ ps) e a b h i =
    let (free, rest) = twice_if (list_any (λ e. bytes_eq e.name p.name) earlier) p.name
    (twice_named (p ∷ earlier) ps) e in
    elim i [
      | inl same ↦ λ f. false≢true (sym free ∙ in_any (λ (e : Package). bytes_eq e.name p.name) a earlier h
          (ap (λ (n : List ℕ). bytes_eq a.name n) (ap (λ (p : Package). p.name) same ∙ sym f) ∙ eq_name a.name))
      | inr j ↦ not_named (p ∷ earlier) ps rest a b (inr h) j
    ]
  where
    twice_if : (b : Bool) (name : List ℕ) (rest : Option Refusal) → cond b (Some (TwiceNamed name)) rest ≡ None
        → (b ≡ false) × (rest ≡ None)
    twice_if true name rest e = absurd (cc)
    twice_if false name rest e = (refl, e)

-- the names of packages differ
pub once_named : (earlier ps : List Package) → twice_named earlier ps ≡ None
    → EachPair (λ (p q : Package). p.name ≢ q.name) ps
once_named earlier [] e = tt
once_named earlier (p ∷ ps) e =
    let rest = twice_rest (list_any (λ e. bytes_eq e.name p.name) earlier) p.name (twice_named (p ∷ earlier) ps) e in (
      in_each (λ (q : Package). p.name ≢ q.name) ps (λ q h. not_named (p ∷ earlier) ps rest p q (inl refl) h),
      once_named (p ∷ earlier) ps rest,
    )
  where
    twice_rest : (b : Bool) (name : List ℕ) (rest : Option Refusal) → cond b (Some (TwiceNamed name)) rest ≡ None
        → rest ≡ None
    twice_rest true name rest e = absurd (cc)
    twice_rest false name rest e = e

-- what isn't refused of the first that it holds of holds of none
first_none : (o p : Option Refusal) → or_else o p ≡ None → (o ≡ None) × (p ≡ None)
first_none None p e = (refl, e)
first_none (Some refusal) p e = absurd (cc)

-- what is reported of the first is true of none
pub each_passes : (judged : Package → Option Refusal) (ps : List Package) → first_of judged ps ≡ None → (p : Package)
    → In p ps → judged p ≡ None
each_passes judged [] e p h = absurd h
each_passes judged (q ∷ ps) e p h =
    let (first, rest) = first_none (judged q) (first_of judged ps) e in
    elim h [
      | inl same ↦ ap judged (sym same) ∙ first
      | inr i ↦ each_passes judged ps rest p i
    ]

-- a package that overlaps with nothing was not found
overlaps_if : (p : Package) (o : Option Record) → overlaps p o ≡ None → o ≡ None
overlaps_if p None e = refl
overlaps_if p (Some r) e = absurd (cc)

-- no unfinished session has a name of a package
pub not_overlapping : (ss : List Record) (p : Package) → overlap ss p ≡ None → (r : Record) → In r ss
    → is_unfinished r.state ≡ true → names p.name r ≡ true → ⊥
not_overlapping ss p e r h u n =
    let test : Record → Bool = λ r. is_unfinished r.state && names p.name r in
    let (x, found) = finds test ss (in_any test r ss h (and_from (is_unfinished r.state) (names p.name r) u n)) in
    let none : find test ss ≡ None = overlaps_if p (find test ss) e in
    absurd (cc (none, found))
