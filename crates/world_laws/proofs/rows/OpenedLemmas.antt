-- The world that the rows of a lawful world open to is lawful, and has these rows. Callers want `opened_lawful` and
-- `opened_rows`.
use Rattle.std.proofs.Common.{◌≡◌, ℕ, Bool, true, false, eqb, List, Option, Some, None}
use Rattle.std.proofs.Common.{sym, ap, subst, ◌∙◌, refl, inl, inr, arith}
use Rattle.std.specs.Prelude.{not}
use Rattle.std.proofs.lemmas.Bool.{and_parts, and_from, eq-eqb}
use Rattle.std.proofs.lemmas.List.FromFn.{length-map-range_with_len}
use Rattle.apex_base.specs.declared.numbers.SessionId.{SessionId}
use Rattle.apex_base.specs.declared.records.Record.{Record}
use Rattle.apex_base.specs.declared.records.Target.TheVariants as targets
use Rattle.apex_base.specs.Held.{kept, is_module, is_target, is_undoable}
use Rattle.apex_base.specs.Members.{In}
use Rattle.apex_base.specs.Modules.{IsModule}
use Rattle.apex_base.specs.Sessions.{names}
use Rattle.apex_base.specs.Tables.{value_of}
use Rattle.apex_base.specs.Windows.{last_five}
use Rattle.apex_base.proofs.MemberLemmas.{in_any}
use Rattle.apex_world.specs.declared.world.Submission.{Submission}
use Rattle.apex_world.specs.Bounds.{HasLittleData}
use Rattle.apex_world.specs.Lawful.{Lawful, IsTable, HaveActivations, IsKept, never_activated}
use Rattle.apex_world.specs.Opened.{opened_modules, opened_eras, opened_contents, opened_boots, opened_watches, opened}
use Rattle.apex_world.specs.Rows.{rows}
use Rattle.apex_world.specs.Selection.{submitted_by}
use Rattle.world_laws.specs.StoredAlike.{KeepsPast, AreStoredAlike}
use Rattle.apex_world.specs.World.{World, Contents, Watches, boots, era, empty_world}
use Rattle.world_laws.proofs.alike.OpenedBoots.{boots_same, late_millis, short_five}
use Rattle.world_laws.proofs.runs.OpenedEras.{opened_at, era_back, era_there, era_table, era_little, eras_each, era_again}
use Rattle.world_laws.proofs.alike.OpenedModules.{mods, mods_back, modules_kept, modules_owned, modules_distinct}
use Rattle.world_laws.proofs.alike.OpenedModules.{weight_again}
use Rattle.world_facts.proofs.facts.OpenedSessions.{same_opened}
use Rattle.world_facts.proofs.facts.OpenedTables.{contents_again, watches_again}
use Rattle.world_facts.proofs.facts.RowWeightLemmas.{own_files}
use Rattle.world_laws.proofs.alike.StoredAlikeLemmas.{rows_agree}
use Rattle.world_facts.proofs.facts.WorldRows.{submission_of}
use Rattle.world_facts.proofs.facts.StateFacts.{undoable_activated}

same_option : {X : Type 0} (o p : Option X) → ((v : X) → o ≡ Some v → p ≡ Some v)
    → ((v : X) → p ≡ Some v → o ≡ Some v) → o ≡ p
same_option None None f g = refl
same_option None (Some v) f g = g v refl
same_option (Some v) p f g = sym (f v refl)

not_zero : (n : ℕ) → not (eqb n 0) ≡ true → n ≡ 0 → ⊥
not_zero n e z = absurd (cc (e, eq-eqb n 0 z))

not_never : (b : Bool) → (b ≡ true → ⊥) → b ≡ false
not_never true d = absurd (d refl)
not_never false d = refl

-- a session that keeps something was activated
keeps_activated : (ss : List Record) (r : Record) → KeepsPast ss r
    → (never_activated r.state ≡ true → r.activation ≡ 0) → never_activated r.state ≡ false
keeps_activated ss r (inl k) none =
    not_never (never_activated r.state) (λ e. not_zero r.activation
    (and_parts _ (not (eqb r.activation 0)) (and_parts _ _ k).0).1 (none e))
keeps_activated ss r (inr k) none = undoable_activated r.state (and_parts _ (is_undoable r.state) k).1

module _ (w : World) (law : Lawful w) where
  -- a world of these sessions, data, boots and watches, with the rows' modules and eras
  abbrev world_of : List Record → Contents → ℕ × List ℕ → Watches → World
  world_of ss contents past watches = record (empty_world w.scale) {
    sessions = ss;
    modules = opened_modules (rows w) ss;
    contents = contents;
    eras = opened_eras (rows w) ss past.0;
    moments = past.1;
    watches = watches;
  }

  -- the world that the rows open to
  abbrev again : World
  again = world_of w.sessions w.contents (boots w, last_five w.moments) w.watches

  opened_is : opened (rows w) w.scale ≡ again
  opened_is =
      ap (λ ss. world_of ss (opened_contents (rows w)) (opened_boots (rows w)) (opened_watches (rows w)))
      (same_opened w law)
      ∙ ap (λ contents. world_of w.sessions contents (opened_boots (rows w)) (opened_watches (rows w)))
      (contents_again w law)
      ∙ ap (λ past. world_of w.sessions w.contents past (opened_watches (rows w))) (boots_same w law)
      ∙ ap (λ watches. world_of w.sessions w.contents (boots w, last_five w.moments) watches) (watches_again w law)

  boots_again : boots again ≡ boots w
  boots_again = length-map-range_with_len (opened_at w law) 1 (boots w)

  -- It is lawful

  is_module_again : (s : Submission) → In s (mods w law) → IsModule s.content
  is_module_again s h =
      let (r, p, i, j, o) = mods_back w law s h in
      let there : submitted_by w.modules s.session s.part ≡ Some s.content =
      sym (modules_kept w law s.session s.part o.kept) ∙ own_files (mods w law) s (modules_distinct w law) h in
      let (t, k, es, ep, ec) = submission_of w.modules s.session s.part s.content there in
      subst IsModule ec (law.ranges.modules t k)

  kept_again : (session : SessionId) (part version : ℕ) → In (targets.Module session part version) (kept w.sessions)
      → IsKept again session part version
  kept_again session part version h =
      let k = law.modules.kept session part version h in
      let is : is_target (kept w.sessions) session part ≡ true =
      in_any (is_module session part) (targets.Module session part version) (kept w.sessions) h
      (and_from _ _ (eq-eqb session.0 session.0 refl) (eq-eqb part part refl)) in
      record {
        content = k.content;
        name = k.name;
        there = modules_kept w law session part is
            ∙ k.there;
        checks = k.checks;
        says = k.says;
      }

  again_lawful : Lawful again
  again_lawful = record {
    ranges = record {
      sessions = law.ranges.sessions;
      modules = is_module_again;
      contents = law.ranges.contents;
      eras = eras_each w law (λ c. IsTable c) (boots w) (era_table w law);
      moments = late_millis w law;
      watches = law.ranges.watches;
      ends = law.ranges.ends;
      boots = let l = law.ranges.boots in omega (arith, l, boots_again);
      clock = omega arith;
      image = tt;
      observers = omega arith;
    };
    ids = law.ids;
    parts = law.parts;
    alone = law.alone;
    activations = subst (λ (n : ℕ). HaveActivations n w.sessions) (sym boots_again) law.activations;
    causes = law.causes;
    rollbacks = law.rollbacks;
    undone = law.undone;
    modules = record { kept = kept_again; distinct = modules_distinct w law; owned = modules_owned w law };
    bounds = record {
      units = law.bounds.units;
      weight = let l = law.bounds.weight in omega (arith, l, weight_again w law);
      contents = law.bounds.contents;
      eras = eras_each w law (HasLittleData w.scale) (boots w) (era_little w law);
      undoable = law.bounds.undoable;
      available = law.bounds.available;
      waiting = law.bounds.waiting;
      watches = law.bounds.watches;
    };
    begun = λ e. ap last_five (law.begun (sym boots_again ∙ e));
  }

  -- It has the same rows

  past_again : (r : Record) (name key : List ℕ) → In r w.sessions → KeepsPast w.sessions r → names name r ≡ true
      → value_of (era again.eras r.activation) name key ≡ value_of (era w.eras r.activation) name key
  past_again r name key h k n =
      let each = law.activations.each r h in
      ap (λ (c : Contents). value_of c name key)
      (era_again w law r.activation (boots w) (each.some (keeps_activated w.sessions r k (each.none))) each.most)
      ∙ same_option (value_of (opened_at w law r.activation) name key) (value_of (era w.eras r.activation) name key)
      (λ v f. era_back w law r.activation name key v f) (λ v f. era_there w law r name key v h k n f)

  again_stored : AreStoredAlike again w
  again_stored = record {
    sessions = refl;
    modules = modules_kept w law;
    contents = refl;
    past = past_again;
    boots = boots_again;
    moments = short_five w.moments;
    watches = refl;
  }

  again_rows : rows again ≡ rows w
  again_rows = rows_agree again w again_stored again_lawful law

  pub opened_lawful : Lawful (opened (rows w) w.scale)
  opened_lawful = subst Lawful (sym opened_is) again_lawful

  pub opened_rows : rows (opened (rows w) w.scale) ≡ rows w
  opened_rows = ap rows opened_is ∙ again_rows
