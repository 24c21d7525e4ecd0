-- What is known of a submit that nothing refuses. Callers want `admitted_is`, and what `IsAdmitted` says.
use Rattle.std.proofs.Common.{◌≡◌, ◌≢◌, ◌⊎◌, ◌≤◌, true, IsTrue, List, [], ◌∷◌}
use Rattle.std.proofs.Common.{length, Option, Some, None, Result, Ok, sym, subst, ◌∙◌, refl, inl, inr, arith}
use Rattle.apex_base.specs.declared.numbers.SessionId.{SessionId}
use Rattle.apex_base.specs.declared.records.Record.{Record}
use Rattle.apex_base.specs.declared.refusal.Refusal.{Refusal}
use Rattle.apex_base.specs.Held.{is_unfinished}
use Rattle.apex_base.specs.Members.{In, EachPair}
use Rattle.apex_base.specs.Modules.{FileMap}
use Rattle.apex_base.specs.Results.{◌>>=◌}
use Rattle.apex_base.specs.Sessions.{names}
use Rattle.apex_world.specs.declared.modules.Package.{Package}
use Rattle.apex_world.specs.Submit.{id_range, id_taken, is_count, wrong_count}
use Rattle.apex_base.specs.Commit.{is_caller_id}
use Rattle.apex_world.specs.Submit.{packages_from, twice_named, first_of, not_preinstalled, key_differs}
use Rattle.apex_world.specs.Submit.{overlap, downgrade, pass, admitted}
use Rattle.apex_world.specs.World.{World}
use Rattle.world_laws.proofs.runs.SoundRanges.{then_ok}
use Rattle.world_laws.proofs.runs.AdmittedIds.{all_callers, count_passes, counted_is}
use Rattle.world_laws.proofs.runs.AdmittedPackages.{IsPackageOf, packages_are, once_named, each_passes, not_overlapping}

-- where a step passes and the rest succeeds, nothing refuses
pub pass_ok : {B : Type 0} (o : Option Refusal) (f : Unit {0} → Result B Refusal) (y : B) → (pass o >>= f) ≡ Ok y
    → (o ≡ None) × (f tt ≡ Ok y)
pass_ok None f y e = (refl, e)
pass_ok (Some refusal) f y e = absurd (cc)

-- what its ids and packages are
pub record IsAdmitted (w : World) (id : SessionId) (children : List SessionId) (parts : List FileMap)
    (ps : List Package) : Type 0 where
  pub callers : (i : SessionId) → In i (id ∷ children) → IsTrue (is_caller_id i)
  pub free : id_taken w.sessions [] (id ∷ children) ≡ None
  pub count : ((children ≡ []) × (length ps ≡ 1)) ⊎ (length children ≡ length ps)
  pub few : length ps ≤ 16
  pub packages : (p : Package) → In p ps → IsPackageOf parts p
  pub once : EachPair (λ (p q : Package). p.name ≢ q.name) ps
  pub alone : (p : Package) (r : Record) → In p ps → In r w.sessions → is_unfinished r.state ≡ true
      → names p.name r ≡ true → ⊥

module _ (w : World) (id : SessionId) (children : List SessionId) (parts : List FileMap) where
  -- the steps of a submit, from the last to the first
  abbrev newer : List Package → Result (List Package) Refusal
  newer ps = pass (first_of (downgrade w.active w.image) ps) >>= λ x. Ok ps

  abbrev apart : List Package → Result (List Package) Refusal
  apart ps = pass (first_of (overlap w.sessions) ps) >>= λ x. newer ps

  abbrev signed : List Package → Result (List Package) Refusal
  signed ps = pass (first_of (key_differs w.image) ps) >>= λ x. apart ps

  abbrev known : List Package → Result (List Package) Refusal
  known ps = pass (first_of (not_preinstalled w.image) ps) >>= λ x. signed ps

  abbrev different : List Package → Result (List Package) Refusal
  different ps = pass (twice_named [] ps) >>= λ x. known ps

  abbrev packaged : Unit {0} → Result (List Package) Refusal
  packaged x = packages_from 1 parts >>= different

  abbrev counted : Unit {0} → Result (List Package) Refusal
  counted x = pass (wrong_count children parts) >>= packaged

  abbrev unused : Unit {0} → Result (List Package) Refusal
  unused x = pass (id_taken w.sessions [] (id ∷ children)) >>= counted

  -- a submit that is admitted has such ids and packages
  pub admitted_is : (ps : List Package) → admitted w id children parts ≡ Ok ps → IsAdmitted w id children parts ps
  admitted_is ps e =
      let (range, e1) = pass_ok (id_range (id ∷ children)) unused ps e in
      let (free, e2) = pass_ok (id_taken w.sessions [] (id ∷ children)) counted ps e1 in
      let (count, e3) = pass_ok (wrong_count children parts) packaged ps e2 in
      let (qs, packages, e4) = then_ok (packages_from 1 parts) different ps e3 in
      let (once, e5) = pass_ok (twice_named [] qs) (λ x. known qs) ps e4 in
      let (there, e6) = pass_ok (first_of (not_preinstalled w.image) qs) (λ x. signed qs) ps e5 in
      let (keys, e7) = pass_ok (first_of (key_differs w.image) qs) (λ x. apart qs) ps e6 in
      let (alone, e8) = pass_ok (first_of (overlap w.sessions) qs) (λ x. newer qs) ps e7 in
      let (up, e9) = pass_ok (first_of (downgrade w.active w.image) qs) (λ x. Ok qs) ps e8 in
      let same : qs ≡ ps = cc in
      let (most, are) = packages_are 1 parts qs packages in
      let (number, few) = counted_is children (length parts)
      (count_passes (is_count children (length parts)) _ count) in
      subst (IsAdmitted w id children parts) same (record {
        callers = all_callers (id ∷ children) range;
        free = free;
        count = elim number [
          | inl (none, one) ↦ inl (none, most ∙ one)
          | inr all ↦ inr (all ∙ sym most)
        ];
        few = omega (arith, few, most);
        packages = are;
        once = once_named [] qs once;
        alone = λ p r h i u n. not_overlapping w.sessions p (each_passes (overlap w.sessions) qs alone p h) r i u n;
      })
