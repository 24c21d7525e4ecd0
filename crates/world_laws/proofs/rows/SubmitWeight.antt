-- What a submit adds to the weight and the units of a world. Callers want `submit_weight` and `submit_units`.
use Rattle.std.proofs.Common.{◌≡◌, ◌≢◌, ℕ, ◌+◌, Bool, true, false, cond, ◌&&◌, List, [], ◌∷◌, None, sym, ap}
use Rattle.std.proofs.Common.{◌∙◌, refl, inl, inr, arith}
use Rattle.std.specs.Prelude.{nat_lt}
use Rattle.std.specs.List.{sum_by}
use Rattle.std.proofs.lemmas.List.Sums.{sum_by-cons, sum_by-append}
use Rattle.apex_base.specs.declared.numbers.SessionId.{SessionId}
use Rattle.apex_base.specs.declared.records.Part.{Part}
use Rattle.apex_base.specs.declared.records.Record.{Record}
use Rattle.apex_base.specs.declared.records.Target.{Target}
use Rattle.apex_base.specs.declared.records.Target.TheVariants as targets
use Rattle.apex_base.specs.Held.{is_standing, is_success, kept, is_target}
use Rattle.apex_base.specs.Members.{In}
use Rattle.apex_base.specs.Modules.{module_weight}
use Rattle.apex_base.specs.Sessions.{with_session}
use Rattle.apex_base.proofs.SessionLemmas.{with_others}
use Rattle.apex_world.specs.declared.modules.Package.{Package}
use Rattle.apex_world.specs.declared.world.Submission.{Submission}
use Rattle.apex_world.specs.Lawful.{Lawful}
use Rattle.apex_world.specs.Limits.{kind_units, target_weight, units, weight}
use Rattle.apex_world.specs.Submit.{id_taken, parts_from, submissions_from, kind_of, image_print, new_session, entered}
use Rattle.apex_world.specs.World.{World}
use Rattle.world_laws.proofs.alike.AlikeAfter.{target_in, in_target}
use Rattle.world_laws.proofs.runs.CommitKept.{sum_with}
use Rattle.world_laws.proofs.alike.EnteredSessions.{unused}
use Rattle.world_facts.proofs.facts.KeptLemmas.{Own, Holds, Backs, kept_back, keeps}
use Rattle.world_laws.proofs.runs.SessionBeside.{latest_with}
use Rattle.world_laws.proofs.rows.SubmitRows.{none_before, new_kept, was_target}

-- sums of the same are the same
sum_same : {X : Type 0} (g h : X → ℕ) (xs : List X) → ((x : X) → In x xs → g x ≡ h x) → sum_by g xs ≡ sum_by h xs
sum_same g h [] same = refl
sum_same g h (x ∷ xs) same =
    let here = same x (inl refl) in
    let rest = sum_same g h xs (λ y i. same y (inr i)) in
    omega (arith, here, rest, sum_by-cons g x xs, sum_by-cons h x xs)

-- new modules that are all kept weigh what their packages weigh
given_weight : (ts : List Target) (id : SessionId) (k : ℕ) (ps : List Package)
    → ((q : Part) → In q (parts_from id k ps) → In q.target ts)
    → sum_by (target_weight ts) (submissions_from id k ps) ≡ sum_by (λ (p : Package). module_weight p.content) ps
given_weight ts id k [] all = refl
given_weight ts id k (p ∷ ps) all =
    let s : Submission = record { session = id; part = k; content = p.content } in
    let first : target_weight ts s ≡ module_weight p.content =
    ap (λ (b : Bool). cond b (module_weight p.content) 0) (in_target ts id k p.version (all _ (inl refl))) in
    let rest = given_weight ts id (k + 1) ps (λ q h. all q (inr h)) in
    omega (
      arith,
      first,
      rest,
      sum_by-cons (target_weight ts) s (submissions_from id (k + 1) ps),
      sum_by-cons (λ (p : Package). module_weight p.content) p ps,
    )

-- tests that say the same
tests_same : (b c : Bool) → (b ≡ true → c ≡ true) → (c ≡ true → b ≡ true) → b ≡ c
tests_same true c f g = sym (f refl)
tests_same false true f g = g refl
tests_same false false f g = refl

module _ (w : World) (law : Lawful w) (id : SessionId) (children : List SessionId) (rollback : Bool)
    (ps : List Package) (free : id_taken w.sessions [] (id ∷ children) ≡ None) where
  abbrev new : Record
  new = new_session id children rollback ps (image_print w.image)

  abbrev after : List Record
  after = with_session (new_session id children rollback ps (image_print w.image)) w.sessions

  abbrev given : List Submission
  given = submissions_from id 0 ps

  apart : (r : Record) → In r w.sessions → r.id.0 ≢ id.0
  apart = unused w law id children rollback ps free

  -- what was kept still is
  still_kept : (t : Target) → In t (kept w.sessions) → In t (kept after)
  still_kept t h =
      let (r, p, i, j, way) = kept_back w.sessions t h in
      let there = with_others new w.sessions r i (apart r i) in
      elim way [
        | Own u e ↦ keeps after r p t there j (Own u e)
        | Holds s e ↦ keeps after r p t there j (Holds s (e
            ∙ sym (latest_with (λ s. is_standing s.state) p.name new refl w.sessions apart)))
        | Backs b e ↦ keeps after r p t there j (Backs b (e
            ∙ sym (latest_with (λ s. is_success s.state && nat_lt s.activation r.activation) p.name new refl w.sessions
            apart)))
      ]

  still_target : (session : SessionId) (part : ℕ) → is_target (kept w.sessions) session part ≡ true
      → is_target (kept after) session part ≡ true
  still_target session part e =
      let (version, h) = target_in (kept w.sessions) session part e in
      in_target (kept after) session part version (still_kept (targets.Module session part version) h)

  same_weight : (s : Submission) → In s w.modules → target_weight (kept after) s ≡ target_weight (kept w.sessions) s
  same_weight s h =
      ap (λ (b : Bool). cond b (module_weight s.content) 0)
      (tests_same (is_target (kept after) s.session s.part) (is_target (kept w.sessions) s.session s.part)
      (was_target w law id children rollback ps free s.session s.part
      (λ e. none_before w law id children rollback ps free s h (sym e)))
      (still_target s.session s.part))

  -- its weight is that of its modules
  pub submit_weight : weight (entered w id children rollback ps)
      ≡ weight w + sum_by (λ (p : Package). module_weight p.content) ps
  submit_weight =
      let old = sum_same (target_weight (kept after)) (target_weight (kept w.sessions)) w.modules same_weight in
      let more = given_weight (kept after) id 0 ps (new_kept w law id children rollback ps free) in
      omega (arith, old, more, sum_by-append (target_weight (kept after)) w.modules given)

  -- its units are those of its kind
  pub submit_units : units (entered w id children rollback ps) ≡ units w + kind_units (kind_of rollback)
  submit_units =
      let more = sum_with (λ r. kind_units r.kind) new w.sessions apart in
      omega (arith, more)
