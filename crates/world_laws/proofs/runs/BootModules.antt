-- A boot keeps no module that wasn't kept before. Callers want `modules_after` and `weight_after`.
use Rattle.std.proofs.Common.{◌≡◌, ◌⊎◌, ℕ, ◌≤◌, Bool, true, false, cond, List, Option, Some, None, sym, ap, subst, ◌∙◌}
use Rattle.std.proofs.Common.{refl, inl, inr, arith, is_some}
use Rattle.std.specs.Prelude.{slice_get, option_and_then}
use Rattle.std.specs.Option.{option_map}
use Rattle.std.proofs.lemmas.Bool.{false≢true, or_right}
use Rattle.std.proofs.lemmas.List.Sums.{sum_by-le-sum_by}
use Rattle.apex_base.specs.declared.numbers.SessionId.{SessionId}
use Rattle.apex_base.specs.declared.records.Part.{Part}
use Rattle.apex_base.specs.declared.records.Record.{Record}
use Rattle.apex_base.specs.declared.records.Target.{Target}
use Rattle.apex_base.specs.declared.records.Target.TheVariants as targets
use Rattle.apex_base.specs.Held.{kept, is_available, is_module, is_success, is_target, is_undoable}
use Rattle.apex_base.specs.Members.{In}
use Rattle.apex_base.specs.Modules.{module_weight}
use Rattle.apex_base.specs.Sessions.{session_of}
use Rattle.apex_base.proofs.MemberLemmas.{in_map, in_map_back, any_in, in_any}
use Rattle.apex_world.specs.declared.calls.BootOrder.{BootOrder}
use Rattle.apex_world.specs.declared.world.Submission.{Submission}
use Rattle.apex_world.specs.Boot.{started}
use Rattle.world_facts.specs.Follows.{IsKeptAs}
use Rattle.apex_world.specs.Lawful.{Lawful, IsKept, HaveModules, part_at_place}
use Rattle.apex_world.specs.Limits.{target_weight, weight_of}
use Rattle.apex_world.specs.Selection.{Mounts}
use Rattle.apex_world.specs.World.{World}
use Rattle.world_laws.proofs.runs.BootLaws.{number, turn, after, cause_for, keeps, way, ids_after, activations_after}
use Rattle.world_laws.proofs.meaning.BootRollbacks.{settles}
use Rattle.world_laws.proofs.runs.BootTurned.{turned_unfinished, turned_success, turned_standing}
use Rattle.apex_base.proofs.SessionLemmas.{of_map}
use Rattle.world_facts.proofs.facts.KeptLemmas.{AreOrdered, ordered, stands_activated}
use Rattle.world_facts.proofs.facts.KeptLess.{Goes, IsFresh, Carries, Comes, Nothing, Before, New, kept_less}

-- Sessions that come from others, none of which is new

module _ (ss ss' : List Record) (comes : (t : Target) → In t (kept ss')
    → (t ≡ targets.Preinstalled) ⊎ In t (kept ss)) where
  module_comes : (session : SessionId) (part : ℕ) (t : Target) → is_module session part t ≡ true
      → (t ≡ targets.Preinstalled) ⊎ In t (kept ss) → is_target (kept ss) session part ≡ true
  module_comes session part t e (inl f) = absurd (false≢true (ap (is_module session part) (sym f) ∙ e))
  module_comes session part t e (inr h) = in_any (is_module session part) t (kept ss) h e

  target_comes : (session : SessionId) (part : ℕ) → is_target (kept ss') session part ≡ true
      → is_target (kept ss) session part ≡ true
  target_comes session part e =
      let (t, h, f) = any_in (is_module session part) (kept ss') e in
      module_comes session part t f (comes t h)

  less_if : (b c : Bool) (n : ℕ) → (c ≡ true → b ≡ true) → cond c n 0 ≤ cond b n 0
  less_if true true n f = omega arith
  less_if true false n f = omega arith
  less_if false true n f = absurd (false≢true (f refl))
  less_if false false n f = omega arith

  -- modules that are kept weigh no more
  pub weight_less : (ms : List Submission) → weight_of ss' ms ≤ weight_of ss ms
  weight_less ms = sum_by-le-sum_by (target_weight (kept ss')) (target_weight (kept ss)) ms
      (λ s. less_if (is_target (kept ss) s.session s.part) (is_target (kept ss') s.session s.part)
      (module_weight s.content) (target_comes s.session s.part))

-- Boots

module _ (w : World) (law : Lawful w) (order : BootOrder) (mounts : Mounts) where
  abbrev step : Record → Record
  step = turn w law order mounts

  abbrev steps : List Record
  steps = after w law order mounts

  keep : (r : Record) → IsKeptAs r (step r)
  keep r = keeps w law order mounts r

  goes : (r : Record) → In r w.sessions → Goes r (step r)
  goes r h =
      let c = cause_for w law order mounts r in
      let n = number w law order mounts in
      let t = way w law order mounts r in
      let stay : is_success r.state ≡ true → ((step r).state ≡ r.state) × ((step r).activation ≡ r.activation) = λ e.
      turned_success c n r (step r) e t in
      let was : is_available (step r).rollback ≡ true → is_available r.rollback ≡ true =
      (settles mounts w.modules order n r).available in
      record {
        parts = (keep r).parts;
        unfinished = λ e. turned_unfinished c n r (step r) e t;
        stays = λ e. (ap is_success (stay e).0 ∙ e, (stay e).1);
        came = λ e. turned_standing c n r (step r) e t;
        available = λ e. (
          or_right (is_undoable r.state) (is_available r.rollback) (was e),
          (stay ((law.rollbacks.each r h).available (was e))).1,
        );
      }

  carries : Carries w.sessions steps
  carries = record {
    back = λ s h. let (r, i, e) = in_map_back step s w.sessions h in inl (r, i, subst (Goes r) e (goes r i));
    forth = λ r h. (step r, in_map step r w.sessions h, goes r h);
  }

  ordered_after : AreOrdered steps
  ordered_after = record {
    ascend = (ids_after w law order mounts).ascend;
    peers = (activations_after w law order mounts).peers;
    active = λ r h s z.
        let l = ((activations_after w law order mounts).each r h).some (stands_activated r.state s) in
        omega (arith, l, z);
  }

  -- no session after a boot is new
  none_fresh : (s : Record) → In s steps → IsFresh w.sessions s → ⊥
  none_fresh s h fresh =
      let (r, i, e) = in_map_back step s w.sessions h in
      fresh.unused r i (ap (λ (id : SessionId). id.0) (sym (keep r).id) ∙ ap (λ (s : Record). s.id.0) e)

  comes_from : (t : Target) → Comes w.sessions steps t → (t ≡ targets.Preinstalled) ⊎ In t (kept w.sessions)
  comes_from t (Nothing e) = inl e
  comes_from t (Before h) = inr h
  comes_from t (New s p h fresh i e) = absurd (none_fresh s h fresh)

  -- what is kept was kept, where it is a module
  pub kept_before : (t : Target) → In t (kept steps) → (t ≡ targets.Preinstalled) ⊎ In t (kept w.sessions)
  kept_before t h = comes_from t (kept_less w.sessions steps (ordered w law) ordered_after carries t h)

  part_of_map : (o : Option Record) (part : ℕ) → option_and_then (λ r. slice_get r.parts part) (option_map step o)
      ≡ option_and_then (λ r. slice_get r.parts part) o
  part_of_map None part = refl
  part_of_map (Some r) part = ap (λ (ps : List Part). slice_get ps part) (keep r).parts

  place_same : (session : SessionId) (part : ℕ)
      → part_at_place steps session part ≡ part_at_place w.sessions session part
  place_same session part =
      ap (option_and_then (λ r. slice_get r.parts part)) (of_map step w.sessions session (λ r. (keep r).id))
      ∙ part_of_map (session_of w.sessions session) part

  module_in : (session : SessionId) (part version : ℕ)
      → (targets.Module session part version ≡ targets.Preinstalled)
      ⊎ In (targets.Module session part version) (kept w.sessions)
      → In (targets.Module session part version) (kept w.sessions)
  module_in session part version (inl e) = absurd (cc)
  module_in session part version (inr h) = h

  kept_after : (session : SessionId) (part version : ℕ) → In (targets.Module session part version) (kept steps)
      → IsKept (started w order mounts) session part version
  kept_after session part version h =
      let k = law.modules.kept session part version (module_in session part version
      (kept_before (targets.Module session part version) h)) in record {
        content = k.content;
        name = k.name;
        there = k.there;
        checks = k.checks;
        says = place_same session part ∙ k.says;
      }

  -- each module that is kept is there
  pub modules_after : HaveModules (started w order mounts)
  modules_after = record {
    kept = kept_after;
    distinct = law.modules.distinct;
    owned = λ s h. ap is_some (place_same s.session s.part) ∙ law.modules.owned s h;
  }

  -- and they weigh no more than before
  pub weight_after : weight_of steps w.modules ≤ weight_of w.sessions w.modules
  weight_after = weight_less w.sessions steps kept_before w.modules
