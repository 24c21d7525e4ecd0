-- Modules are lawful if and only if all that are kept can be taken from the scale's weight: `modules_decided`.
use Rattle.std.proofs.Common.{◌≡◌, ℕ, ◌-◌, Bool, true, List, Option, Some, Ok, is_some, sym, ap, subst, ◌∙◌, refl, arith}
use Rattle.std.proofs.Common.{Decides}
use Rattle.std.proofs.lemmas.Bool.{and_from, eq-eqb}
use Rattle.apex_base.specs.declared.numbers.Scale.{Scale}
use Rattle.apex_base.specs.declared.numbers.SessionId.{SessionId}
use Rattle.apex_base.specs.declared.records.Part.{Part}
use Rattle.apex_base.specs.declared.records.Record.{Record}
use Rattle.apex_base.specs.declared.records.Target.{Target}
use Rattle.apex_base.specs.declared.records.Target.TheVariants as targets
use Rattle.apex_base.specs.Held.{kept, is_module, is_target}
use Rattle.apex_base.specs.Keys.{RowMap}
use Rattle.apex_base.specs.Members.{In}
use Rattle.apex_base.specs.Modules.{IsModule}
use Rattle.apex_base.specs.Numbers.{scale_file_weight}
use Rattle.apex_base.proofs.Finding.{is_there}
use Rattle.apex_base.proofs.MemberLemmas.{any_in, in_any}
use Rattle.apex_world.specs.declared.world.Submission.{Submission}
use Rattle.apex_world.specs.Lawful.{HaveModules, IsKept, part_at_place}
use Rattle.apex_world.specs.Limits.{weight}
use Rattle.apex_world.specs.Opened.{opened, opened_files, opened_sessions}
use Rattle.apex_world.specs.Soundness.{checked}
use Rattle.apex_world.specs.World.{World}
use Rattle.world_facts.proofs.facts.HeldModules.{this_module}
use Rattle.world_facts.proofs.facts.ModulesOpened.{got_in, mods, module_of, is_opened, mods_back, mods_there, content_of}
use Rattle.world_facts.proofs.facts.WorldRows.{submission_of}
use Rattle.session_check.specs.LawfulSessions.{AreLawfulSessions}
use Rattle.world_check.specs.LawfulParts.{HasLawfulModules}
use Rattle.world_check.specs.RightModules.{less_sessions}
use Rattle.world_check.proofs.ModulesTaken.{AllRight, sessions_taken, sessions_take}
use Rattle.world_check.proofs.OpenedParts.{own_there, part_found, distinct_modules}
use Rattle.world_check.proofs.Owners.{owned, kept_owned, place_of}

some_is : {A : Type 0} (x y : A) → Some x ≡ Some y → x ≡ y
some_is x y e = cc

-- parts at one place have one name and one version
abbrev part_of : SessionId → ℕ → List ℕ → ℕ → Part
part_of session part name version =
    record { name = name; version = Some version; target = targets.Module session part version }

same_place : (session : SessionId) (part : ℕ) (a b : List ℕ) (u v : ℕ)
    → Some (part_of session part a u) ≡ Some (part_of session part b v) → (a ≡ b) × (u ≡ v)
same_place session part a b u v e =
    let one : part_of session part a u ≡ part_of session part b v = some_is _ _ e in
    (ap (λ (p : Part). p.name) one, some_is u v (ap (λ (p : Part). p.version) one))

module _ (n : ℕ) (m : RowMap) (scale : Scale) (law : AreLawfulSessions n (opened_sessions m)) where
  abbrev ss : List Record
  ss = opened_sessions m

  abbrev w : World
  w = opened m scale

  -- a target that is kept is one whose part is
  is_kept_part : (session : SessionId) (part version : ℕ) → In (targets.Module session part version) (kept ss)
      → is_target (kept ss) session part ≡ true
  is_kept_part session part version h =
      in_any (is_module session part) (targets.Module session part version) (kept ss) h
      (and_from _ _ (eq-eqb session.0 session.0 refl) (eq-eqb part part refl))

  module _ (right : AllRight m ss ss) where
    right_at : (s : Submission) → In s (mods m ss) → IsModule s.content
    right_at s h = let (r, p, i, j, k) = mods_back m ss s h in (right r i p j s k).0

    kept_is : (session : SessionId) (part version : ℕ) → In (targets.Module session part version) (kept ss)
        → IsKept w session part version
    kept_is session part version h =
        let (name, o) = kept_owned n ss law session part version h in
        let is_kept = is_kept_part session part version h in
        let there = own_there m ss name session part version o is_kept in
        let says = (right o.owner o.among o.own (got_in o.owner.parts part o.own o.there) (module_of m ss session part)
        there).1 version o.target in
        record {
          content = opened_files m session part;
          name = name;
          there = part_found m ss name session part version o is_kept;
          checks = says ∙ ap (λ (a : List ℕ). Ok (record { name = a; version = version })) o.named;
          says = place_of n ss law name session part version o;
        }

    owned_at : (s : Submission) → In s (mods m ss) → is_some (part_at_place ss s.session s.part) ≡ true
    owned_at s h =
        let (r, p, i, j, k) = mods_back m ss s h in
        let o = is_opened m ss r.id p.target s k in
        let own = owned n ss law r p i j s.session s.part o.version o.target in
        ap (λ (q : Option Part). is_some q) (place_of n ss law p.name s.session s.part o.version own)

    have_modules : HaveModules w
    have_modules = record { kept = kept_is; distinct = distinct_modules m ss n law; owned = owned_at }

  module _ (l : HasLawfulModules w) where
    all_right : AllRight m ss ss
    all_right r i p j s k = (
      l.ranges s (mods_there m ss r p s i j k),
      λ version is.
          let o = is_opened m ss r.id p.target s k in
          let own = owned n ss law r p i j s.session s.part version is in
          let (t, h, g) = any_in (is_module s.session s.part) (kept ss) o.kept in
          let (v, e) = this_module s.session s.part t g in
          let is_kept = l.modules.kept s.session s.part v (subst (λ (t : Target). In t (kept ss)) e h) in
          let (x, a, b, c, d) = submission_of (mods m ss) s.session s.part is_kept.content is_kept.there in
          let content : is_kept.content ≡ s.content =
          sym d ∙ content_of m ss x a ∙ ap (λ (id : SessionId). opened_files m id x.part) b
          ∙ ap (λ (k : ℕ). opened_files m s.session k) c ∙ sym o.content in
          let same = sym (place_of n ss law p.name s.session s.part version own) ∙ is_kept.says in
          let (name, one) = same_place s.session s.part p.name is_kept.name version v same in
          ap checked (sym content) ∙ is_kept.checks
          ∙ ap (λ (a : List ℕ). Ok (record { name = a; version = v })) (sym name)
          ∙ ap (λ (u : ℕ). Ok (record { name = p.name; version = u })) (sym one),
    )

  pub modules_decided : Decides (is_some (less_sessions m (is_target (kept ss)) (scale_file_weight scale) ss))
      (HasLawfulModules w)
  modules_decided = (
    λ e. let (rest, f) = is_there _ e in
        let (right, weighs) = sessions_taken m ss (scale_file_weight scale) ss rest f in
        record { ranges = right_at right; modules = have_modules right; weight = omega (arith, weighs) },
    λ l. let most = l.weight in
        ap (λ (o : Option ℕ). is_some o) (sessions_take m ss (scale_file_weight scale) ss
        (scale_file_weight scale - weight w) (all_right l, omega (arith, most))),
  )

-- and so does the answer that was found with another word for what is kept
pub answer_decides : (n : ℕ) (m : RowMap) (scale : Scale) (ss : List Record) → AreLawfulSessions n ss
    → ss ≡ opened_sessions m → (is_kept : SessionId → ℕ → Bool)
    → ((session : SessionId) (part : ℕ) → is_kept session part ≡ is_target (kept ss) session part)
    → (limit : ℕ) → limit ≡ scale_file_weight scale → (b : Bool) → b ≡ is_some (less_sessions m is_kept limit ss)
    → Decides b (HasLawfulModules (opened m scale))
answer_decides n m scale ss law are is_kept same limit most b e =
    let kept_same : is_kept ≡ is_target (kept ss) = λ i session part. same session part i in
    let is : b ≡ is_some (less_sessions m (is_target (kept (opened_sessions m))) (scale_file_weight scale)
    (opened_sessions m)) =
    e ∙ ap (λ (k : SessionId → ℕ → Bool). is_some (less_sessions m k limit ss)) kept_same
    ∙ ap (λ (l : ℕ). is_some (less_sessions m (is_target (kept ss)) l ss)) most
    ∙ ap (λ (rs : List Record). is_some (less_sessions m (is_target (kept rs)) (scale_file_weight scale) rs)) are in
    subst (λ (b : Bool). Decides b (HasLawfulModules (opened m scale))) (sym is)
    (modules_decided n m scale (subst (AreLawfulSessions n) are law))
