-- The parts and the modules of a new session. Callers want `parts_range`, `parts_length`, `parts_differ`, `parts_own`,
-- `parts_versions`, `named_back`, `part_there`, `submitted_there` and `modules_differ`.
use Rattle.std.proofs.Common.{◌≡◌, ◌≢◌, ℕ, suc, ◌+◌, ◌<◌, ◌≤◌, Bool, true, false, cond, eqb, ◌&&◌, IsTrue, List, []}
use Rattle.std.proofs.Common.{◌∷◌, ◌++◌}
use Rattle.std.proofs.Common.{length, find, Option, Some, None, sym, ap, subst, ◌∙◌, refl, inl, inr, arith}
use Rattle.std.specs.Prelude.{slice_get}
use Rattle.std.specs.List.{AllByRecursion}
use Rattle.std.specs.Option.{option_map}
use Rattle.std.proofs.lemmas.Bool.{and_from, and_left, and_right, eq-eqb, ne_eqb}
use Rattle.apex_base.specs.declared.numbers.SessionId.{SessionId}
use Rattle.apex_base.specs.declared.records.Part.{Part}
use Rattle.apex_base.specs.declared.records.Target.TheVariants as targets
use Rattle.apex_base.specs.Commit.{target_version}
use Rattle.apex_base.specs.Members.{In, EachPair}
use Rattle.apex_base.specs.Modules.{FileMap}
use Rattle.apex_base.specs.Ranges.{IsVersion}
use Rattle.apex_base.specs.Spelling.{IsId, IsPart}
use Rattle.apex_base.specs.Text.{is_name}
use Rattle.apex_base.proofs.MemberLemmas.{in_append, each_in, in_each}
use Rattle.apex_world.specs.declared.modules.Package.{Package}
use Rattle.apex_world.specs.declared.world.Submission.{Submission}
use Rattle.apex_world.specs.Lawful.{AreOwn}
use Rattle.apex_world.specs.Selection.{submitted_by}
use Rattle.apex_world.specs.Submit.{parts_from, submissions_from}

-- Its parts

-- they are in range
pub parts_range : (id : SessionId) (k : ℕ) (ps : List Package) → IsId id → k + length ps ≤ 256
    → ((p : Package) → In p ps → IsTrue (is_name p.name) × IsVersion p.version)
    → AllByRecursion IsPart (parts_from id k ps)
parts_range id k [] is few all = tt
parts_range id k (p ∷ ps) is few all =
    let (name, version) = all p (inl refl) in
    let count : length (p ∷ ps) ≡ suc (length ps) = refl in
    let low : k < 256 = omega (arith, few, count) in (
      record { name = name; version = version; target = (is, low, version) },
      parts_range id (k + 1) ps is (omega (arith, few, count)) (λ q h. all q (inr h)),
    )

-- there are as many as packages
pub parts_length : (id : SessionId) (k : ℕ) (ps : List Package) → length (parts_from id k ps) ≡ length ps
parts_length id k [] = refl
parts_length id k (p ∷ ps) = ap (λ n. suc n) (parts_length id (k + 1) ps)

-- a name of a part is that of a package
pub named_back : (id : SessionId) (k : ℕ) (ps : List Package) (q : Part) → In q (parts_from id k ps)
    → (p : Package) × In p ps × (p.name ≡ q.name)
named_back id k [] q h = absurd h
named_back id k (p ∷ ps) q (inl e) = (p, inl refl, ap (λ (q : Part). q.name) e)
named_back id k (p ∷ ps) q (inr h) = let (r, i, e) = named_back id (k + 1) ps q h in (r, inr i, e)

-- their names differ
pub parts_differ : (id : SessionId) (k : ℕ) (ps : List Package) → EachPair (λ (p q : Package). p.name ≢ q.name) ps
    → EachPair (λ (p q : Part). p.name ≢ q.name) (parts_from id k ps)
parts_differ id k [] d = tt
parts_differ id k (p ∷ ps) d = (
  in_each (λ (q : Part). p.name ≢ q.name) (parts_from id (k + 1) ps) (λ q h e.
      let (r, i, f) = named_back id (k + 1) ps q h in
      each_in (λ (q : Package). p.name ≢ q.name) ps d.0 r i (e ∙ sym f)),
  parts_differ id (k + 1) ps d.1,
)

-- their targets are their own modules
pub parts_own : (id : SessionId) (k : ℕ) (ps : List Package) → AreOwn id k (parts_from id k ps)
parts_own id k [] = tt
parts_own id k (p ∷ ps) = ((p.version, refl), parts_own id (k + 1) ps)

-- each has the version of its target
pub parts_versions : (id : SessionId) (k : ℕ) (ps : List Package) (q : Part) → In q (parts_from id k ps)
    → q.version ≡ target_version q.target
parts_versions id k [] q h = absurd h
parts_versions id k (p ∷ ps) q (inl e) = subst (λ (q : Part). q.version ≡ target_version q.target) e refl
parts_versions id k (p ∷ ps) q (inr h) = parts_versions id (k + 1) ps q h

-- Its modules

-- where a part stands, j places after part k, and which package it is of
pub record IsPlaced (id : SessionId) (k : ℕ) (ps : List Package) (q : Part) : Type 0 where
  pub place : ℕ
  pub number : ℕ
  pub given : Package
  pub among : In given ps
  pub counts : number ≡ k + place
  pub is : q ≡ record {
    name = given.name;
    version = Some given.version;
    target = targets.Module id number given.version;
  }
  pub there : slice_get (parts_from id k ps) place ≡ Some q
  pub submitted : submitted_by (submissions_from id k ps) id number ≡ Some given.content

-- the first module is found
pub first_found : (id : SessionId) (k : ℕ) (p : Package) (ps : List Package)
    → submitted_by (submissions_from id k (p ∷ ps)) id k ≡ Some p.content
first_found id k p ps =
    ap (λ b. option_map (λ (s : Submission). s.content)
    (cond b (Some (record { session = id; part = k; content = p.content }))
    (find (λ s. eqb s.session.0 id.0 && eqb s.part k) (submissions_from id (k + 1) ps))))
    (and_from (eqb id.0 id.0) (eqb k k) (eq-eqb id.0 id.0 refl) (eq-eqb k k refl))

-- a later module is found after the first
pub later_found : (id : SessionId) (k n : ℕ) (p : Package) (ps : List Package) → k ≢ n
    → submitted_by (submissions_from id k (p ∷ ps)) id n ≡ submitted_by (submissions_from id (k + 1) ps) id n
later_found id k n p ps d =
    ap (λ b. option_map (λ (s : Submission). s.content)
    (cond b (Some (record { session = id; part = k; content = p.content }))
    (find (λ s. eqb s.session.0 id.0 && eqb s.part n) (submissions_from id (k + 1) ps))))
    (and_right (eqb id.0 id.0) (eqb k n) (ne_eqb k n d))

-- each part has its place
pub placed : (id : SessionId) (k : ℕ) (ps : List Package) (q : Part) → In q (parts_from id k ps) → IsPlaced id k ps q
placed id k [] q h = absurd h
placed id k (p ∷ ps) q (inl e) = record {
  place = 0;
  number = k;
  given = p;
  among = inl refl;
  counts = omega arith;
  is = sym e;
  there = ap (λ (q : Part). Some q) e;
  submitted = first_found id k p ps;
}
placed id k (p ∷ ps) q (inr h) =
    let r = placed id (k + 1) ps q h in
    let counts = r.counts in
    record {
      place = suc r.place;
      number = r.number;
      given = r.given;
      among = inr r.among;
      counts = omega (arith, counts);
      is = r.is;
      there = r.there;
      submitted = later_found id k r.number p ps (λ e. omega (arith, counts, e)) ∙ r.submitted;
    }

-- where a module stands, and that a part stands there too
pub record IsSubmittedAt (id : SessionId) (k : ℕ) (ps : List Package) (s : Submission) : Type 0 where
  pub place : ℕ
  pub part : Part
  pub given : Package
  pub among : In given ps
  pub session : s.session ≡ id
  pub counts : s.part ≡ k + place
  pub content : s.content ≡ given.content
  pub there : slice_get (parts_from id k ps) place ≡ Some part

-- each module has its place
pub submitted_at : (id : SessionId) (k : ℕ) (ps : List Package) (s : Submission) → In s (submissions_from id k ps)
    → IsSubmittedAt id k ps s
submitted_at id k [] s h = absurd h
submitted_at id k (p ∷ ps) s (inl e) =
    let part : s.part ≡ k = ap (λ (s : Submission). s.part) (sym e) in
    record {
      place = 0;
      part = record { name = p.name; version = Some p.version; target = targets.Module id k p.version };
      given = p;
      among = inl refl;
      session = ap (λ (s : Submission). s.session) (sym e);
      counts = omega (arith, part);
      content = ap (λ (s : Submission). s.content) (sym e);
      there = refl;
    }
submitted_at id k (p ∷ ps) s (inr h) =
    let r = submitted_at id (k + 1) ps s h in
    let counts = r.counts in
    record {
      place = suc r.place;
      part = r.part;
      given = r.given;
      among = inr r.among;
      session = r.session;
      counts = omega (arith, counts);
      content = r.content;
      there = r.there;
    }

-- two modules are not of one part of one session
abbrev pub AreOthers : Submission → Submission → Type 0
AreOthers s t = s.session.0 ≡ t.session.0 → s.part ≢ t.part

-- no two are of one part
pub modules_differ : (id : SessionId) (k : ℕ) (ps : List Package) → EachPair AreOthers (submissions_from id k ps)
modules_differ id k [] = tt
modules_differ id k (p ∷ ps) = (
  in_each (AreOthers (record { session = id; part = k; content = p.content })) (submissions_from id (k + 1) ps)
      (λ s h e f.
      let counts = (submitted_at id (k + 1) ps s h).counts in absurd (omega (arith, counts, f))),
  modules_differ id (k + 1) ps,
)

-- Modules beside others

-- what holds of the pairs of two lists, and of each two of both, holds of the pairs of all
pub pairs_append : {X : Type 0} (P : X → X → Type 0) (xs ys : List X) → EachPair P xs → EachPair P ys
    → ((x y : X) → In x xs → In y ys → P x y) → EachPair P (xs ++ ys)
pairs_append P [] ys a b all = b
pairs_append P (x ∷ xs) ys a b all = (
  in_each (P x) (xs ++ ys) (λ y h. elim (in_append y xs ys h) [
    | inl i ↦ each_in (P x) xs a.0 y i
    | inr i ↦ all x y (inl refl) i
  ]),
  pairs_append P xs ys a.1 b (λ z y h i. all z y (inr h) i),
)

-- what is found first is found first in more
find_if : {X : Type 0} (b : Bool) (x y : X) (o p : Option X) → (o ≡ Some x → p ≡ Some x) → cond b (Some y) o ≡ Some x
    → cond b (Some y) p ≡ Some x
find_if true x y o p more e = e
find_if false x y o p more e = more e

-- what is found in front is found
find_front : {X : Type 0} (test : X → Bool) (x : X) (xs ys : List X) → find test xs ≡ Some x
    → find test (xs ++ ys) ≡ Some x
find_front test x [] ys e = absurd (cc)
find_front test x (y ∷ xs) ys e = find_if (test y) x y (find test xs) (find test (xs ++ ys)) (find_front test x xs ys) e

-- where nothing passes in front, what is found is behind
find_back : {X : Type 0} (test : X → Bool) (xs ys : List X) → ((x : X) → In x xs → test x ≡ false)
    → find test (xs ++ ys) ≡ find test ys
find_back test [] ys none = refl
find_back test (x ∷ xs) ys none =
    ap (λ b. cond b (Some x) (find test (xs ++ ys))) (none x (inl refl)) ∙ find_back test xs ys (λ y h. none y (inr h))

-- the content of what is found
some_content : (o p : Option Submission) (m : FileMap) → ((s : Submission) → o ≡ Some s → p ≡ Some s)
    → option_map (λ (s : Submission). s.content) o ≡ Some m → option_map (λ (s : Submission). s.content) p ≡ Some m
some_content None p m more e = absurd (cc)
some_content (Some s) p m more e = ap (option_map (λ (s : Submission). s.content)) (more s refl) ∙ e

-- what was submitted is still there
pub still_submitted : (ms ns : List Submission) (session : SessionId) (part : ℕ) (m : FileMap)
    → submitted_by ms session part ≡ Some m → submitted_by (ms ++ ns) session part ≡ Some m
still_submitted ms ns session part m e =
    let test : Submission → Bool = λ s. eqb s.session.0 session.0 && eqb s.part part in
    some_content (find test ms) (find test (ms ++ ns)) m (λ s f. find_front test s ms ns f) e

-- where a session had submitted nothing, its modules are the new ones
pub newly_submitted : (ms ns : List Submission) (session : SessionId) (part : ℕ)
    → ((s : Submission) → In s ms → s.session.0 ≢ session.0)
    → submitted_by (ms ++ ns) session part ≡ submitted_by ns session part
newly_submitted ms ns session part none =
    ap (option_map (λ (s : Submission). s.content))
    (find_back (λ s. eqb s.session.0 session.0 && eqb s.part part) ms ns (λ s h.
    and_left (eqb s.session.0 session.0) (eqb s.part part) (ne_eqb s.session.0 session.0 (none s h))))
