-- The modules of a world with a new session: `modules_with`, and `new_printed`.
use Rattle.std.proofs.Common.{◌≡◌, ◌≢◌, ℕ, Bool, IsTrue, List}
use Rattle.std.proofs.Common.{Option, Some, sym, ap, subst, ◌∙◌, refl, inl, inr, arith, is_some}
use Rattle.std.specs.Prelude.{slice_get, option_and_then}
use Rattle.apex_base.specs.declared.numbers.SessionId.{SessionId}
use Rattle.apex_base.specs.declared.records.Part.{Part}
use Rattle.apex_base.specs.declared.records.Record.{Record}
use Rattle.apex_base.specs.declared.records.Target.TheVariants as targets
use Rattle.apex_base.specs.Held.{kept}
use Rattle.apex_base.specs.Members.{In}
use Rattle.apex_base.specs.Modules.{FileMap, IsModule}
use Rattle.apex_base.specs.Sessions.{session_of, with_session}
use Rattle.apex_base.specs.Text.{is_print}
use Rattle.apex_base.proofs.Finding.{is_there, some_then}
use Rattle.apex_base.proofs.MemberLemmas.{in_append}
use Rattle.apex_base.proofs.SessionLemmas.{with_any, of_found, of_with}
use Rattle.apex_world.specs.declared.calls.Image.{Image}
use Rattle.apex_world.specs.declared.modules.Package.{Package}
use Rattle.apex_world.specs.declared.world.Submission.{Submission}
use Rattle.apex_world.specs.Lawful.{Lawful, HaveModules, IsKept, part_at_place}
use Rattle.apex_world.specs.Running.{Running}
use Rattle.apex_world.specs.Submit.{parts_from, submissions_from, image_print, new_session, entered}
use Rattle.apex_world.specs.World.{World}
use Rattle.world_laws.proofs.runs.AdmittedLemmas.{IsAdmitted}
use Rattle.world_facts.proofs.facts.KeptLess.{IsFresh, Nothing, Before, New}
use Rattle.world_laws.proofs.runs.NewParts.{AreOthers, placed, submitted_at, modules_differ, pairs_append, still_submitted}
use Rattle.world_laws.proofs.runs.NewParts.{newly_submitted}
use Rattle.world_laws.proofs.runs.NewPast.{found_other, kept_with}
use Rattle.world_laws.proofs.runs.NewSession.{other_id}
use Rattle.world_laws.proofs.runs.RunningLemmas.{image_of}

module _ (w : World) (run : Running w) (id : SessionId) (children : List SessionId) (rollback : Bool)
    (parts : List FileMap) (ps : List Package) (is : IsAdmitted w id children parts ps)
    (modules : (m : FileMap) → In m parts → IsModule m) where
  abbrev law : Lawful w
  law = run.lawful

  abbrev ss : List Record
  ss = w.sessions

  abbrev print : List ℕ
  print = image_print w.image

  abbrev new : Record
  new = new_session id children rollback ps (image_print w.image)

  abbrev after : List Record
  after = with_session (new_session id children rollback ps (image_print w.image)) w.sessions

  abbrev given : List Submission
  given = submissions_from id 0 ps

  abbrev world : World
  world = entered w id children rollback ps

  -- the fingerprint of the image that runs is one
  pub new_printed : IsTrue (is_print print)
  new_printed = let (image, e, of) = image_of w run in
      subst (λ (o : Option Image). IsTrue (is_print (image_print o))) (sym e) of.print

  -- a part that is there is a session's
  place_session : (session : SessionId) (part : ℕ) (p : Part) → part_at_place ss session part ≡ Some p
      → (r : Record) × (session_of ss session ≡ Some r) × (slice_get r.parts part ≡ Some p)
  place_session session part p e = some_then (λ (r : Record). slice_get r.parts part) (session_of ss session) p e

  -- it stays there
  place_stays : (session : SessionId) (part : ℕ) (p : Part) → part_at_place ss session part ≡ Some p
      → part_at_place after session part ≡ Some p
  place_stays session part p e =
      let (r, f, g) = place_session session part p e in
      ap (option_and_then (λ (r : Record). slice_get r.parts part))
      (found_other w law id children rollback parts ps print is new_printed session r f) ∙ g

  -- each part of the new session stands in its place
  new_place : (part : ℕ) → part_at_place after id part ≡ slice_get (parts_from id 0 ps) part
  new_place part = ap (option_and_then (λ (r : Record). slice_get r.parts part)) (of_with new ss id refl)

  -- the session had submitted nothing
  none_before : (s : Submission) → In s w.modules → s.session.0 ≢ id.0
  none_before s h e =
      let (p, f) = is_there (part_at_place ss s.session s.part) (law.modules.owned s h) in
      let (r, g, k) = place_session s.session s.part p f in
      let (i, same) = of_found ss s.session r g in
      other_id w law id children rollback parts ps print is new_printed r i (same ∙ e)

  -- a module of the new session is there and says what its part says
  kept_new : (session : SessionId) (part version : ℕ) (q : Part) → In q (parts_from id 0 ps)
      → targets.Module session part version ≡ q.target → IsKept world session part version
  kept_new session part version q h e =
      let at = placed id 0 ps q h in
      let counts = at.counts in
      let same : targets.Module session part version ≡ targets.Module id at.number at.given.version =
      e ∙ ap (λ (q : Part). q.target) at.is in
      let one : session ≡ id = cc in
      let number : part ≡ at.number = cc in
      let level : version ≡ at.given.version = cc in
      let place : at.number ≡ at.place = omega (arith, counts) in
      let a = is.packages at.given at.among in
      let kept : IsKept world id at.number at.given.version = record {
        content = at.given.content;
        name = at.given.name;
        there = newly_submitted w.modules given id at.number none_before ∙ at.submitted;
        checks = a.checks;
        says = new_place at.number ∙ ap (slice_get (parts_from id 0 ps)) place ∙ at.there
            ∙ ap (λ (q : Part). Some q) at.is;
      } in
      subst (λ (s : SessionId). IsKept world s part version) (sym one)
      (subst (λ (n : ℕ). IsKept world id n version) (sym number)
      (subst (λ (v : ℕ). IsKept world id at.number v) (sym level) kept))

  -- a module that was kept is there
  kept_old : (session : SessionId) (part version : ℕ) → In (targets.Module session part version) (kept ss)
      → IsKept world session part version
  kept_old session part version h =
      let k = law.modules.kept session part version h in
      record {
        content = k.content;
        name = k.name;
        there = still_submitted w.modules given session part k.content k.there;
        checks = k.checks;
        says = place_stays session part _ k.says;
      }

  -- no other session is new
  fresh_is : (s : Record) → In s after → IsFresh ss s → s ≡ new
  fresh_is s h fresh =
      elim (with_any new ss s h) [
        | inl e ↦ e
        | inr i ↦ absurd (fresh.unused s i refl)
      ]

  -- the modules are as they have to be
  pub modules_with : HaveModules world
  modules_with = record {
    kept = λ session part version h.
        elim (kept_with w law id children rollback parts ps print is new_printed
        (targets.Module session part version) h) [
          | Nothing e ↦ absurd (cc e)
          | Before i ↦ kept_old session part version i
          | New s q i fresh j e ↦ kept_new session part version q
              (subst (λ (s : Record). In q s.parts) (fresh_is s i fresh) j) e
        ];
    distinct = pairs_append AreOthers w.modules given law.modules.distinct (modules_differ id 0 ps) (λ s t h i e.
        absurd (none_before s h (e ∙ ap (λ (x : SessionId). x.0) (submitted_at id 0 ps t i).session)));
    owned = λ s h. elim (in_append s w.modules given h) [
      | inl i ↦
          let (p, e) = is_there (part_at_place ss s.session s.part) (law.modules.owned s i) in
          ap (λ (o : Option Part). is_some o) (place_stays s.session s.part p e)
      | inr i ↦
          let at = submitted_at id 0 ps s i in
          let counts = at.counts in
          let place : s.part ≡ at.place = omega (arith, counts) in
          ap (λ (o : Option Part). is_some o)
          (ap (λ (x : SessionId). part_at_place after x s.part) at.session ∙ new_place s.part
          ∙ ap (slice_get (parts_from id 0 ps)) place ∙ at.there)
    ];
  }
