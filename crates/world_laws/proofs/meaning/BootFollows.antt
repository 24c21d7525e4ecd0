-- What a boot leaves of sessions: `boot_follows`.
use Rattle.std.proofs.Common.{◌≡◌, ◌≢◌, Bool, true, false, cond, List, ◌∷◌, length, map, Some, None, sym, ap, subst}
use Rattle.std.proofs.Common.{◌∙◌}
use Rattle.apex_base.specs.declared.numbers.SessionId.{SessionId}
use Rattle.apex_base.specs.declared.records.Record.{Record}
use Rattle.apex_base.specs.Held.{is_available}
use Rattle.apex_base.specs.Members.{In, EachPair}
use Rattle.apex_base.specs.Rollbacks.{is_eligible}
use Rattle.apex_base.specs.Sessions.{has_id}
use Rattle.apex_base.specs.Windows.{is_looping}
use Rattle.apex_base.proofs.MemberLemmas.{in_map_back}
use Rattle.apex_base.proofs.SessionLemmas.{ascend_map}
use Rattle.apex_world.specs.declared.calls.BootOrder.{BootOrder}
use Rattle.apex_world.specs.Boot.{become, counted, started, after_loop, boot_world, loop_trigger}
use Rattle.world_facts.specs.Follows.{IsKeptAs, Becomes, Leads, Follows}
use Rattle.apex_world.specs.Lawful.{ids_of, HaveIds, HaveRollbackSessions}
use Rattle.apex_world.specs.Selection.{Mounts}
use Rattle.apex_world.specs.Trigger.{eligible}
use Rattle.apex_world.specs.World.{World}
use Rattle.world_laws.proofs.meaning.BootRollbacks.{settles}
use Rattle.world_laws.proofs.meaning.BootStays.{Boots, become_boots, boots_becomes, boots_then, Waits}
use Rattle.world_laws.proofs.meaning.CallStays.{trigger_follows_new, among_eligible}
use Rattle.world_laws.proofs.meaning.CommitStays.{ascend_filter}
use Rattle.world_facts.proofs.facts.LeadsLemmas.{same_ids, leads_map, leads_then, leads_as}
use Rattle.world_facts.proofs.facts.NewIds.{AreNew, rollback_new}
use Rattle.apex_base.specs.Commit.{rollback_id, undoes}

-- Ids after a step of each session by itself

ids_kept : (r s : Record) → IsKeptAs r s → ids_of s ≡ ids_of r
ids_kept r s k = ap (λ (x : SessionId). x ∷ s.children) k.id ∙ ap (λ (cs : List SessionId). r.id ∷ cs) k.children

module _ (ss : List Record) (f : Record → Record) (keeps : (r : Record) → IsKeptAs r (f r)) where
  pub ids_map : HaveIds ss → HaveIds (map f ss)
  ids_map law = record {
    ascend = ascend_map f ss (λ r. (keeps r).id) law.ascend;
    distinct = λ s h. let (r, i, e) = in_map_back f s ss h in
        subst (λ (s : Record). EachPair (λ (a b : SessionId). a.0 ≢ b.0) (ids_of s)) e (subst (EachPair
        (λ (a b : SessionId). a.0 ≢ b.0)) (sym (ids_kept r (f r) (keeps r))) (law.distinct r i));
    apart = λ s t id h i d u v. let (q, j, e) = in_map_back f s ss h in let (r, k, g) = in_map_back f t ss i in
        law.apart q r id j k
        (λ same. d (ap (λ (x : Record). x.id.0) (sym e) ∙ ap (λ (x : SessionId). x.0) (keeps q).id ∙ same
        ∙ ap (λ (x : SessionId). x.0) (sym (keeps r).id) ∙ ap (λ (x : Record). x.id.0) g))
        (sym (same_ids id q (f q) (keeps q)) ∙ ap (has_id id) e ∙ u)
        (sym (same_ids id r (f r) (keeps r)) ∙ ap (has_id id) g ∙ v);
    callers = λ s id h e u. let (r, i, g) = in_map_back f s ss h in
        law.callers r id i (ap undoes (sym (keeps r).kind) ∙ ap (λ (x : Record). undoes x.kind) g ∙ e)
        (subst (In id) (ids_kept r (f r) (keeps r)) (subst (λ (s : Record). In id (ids_of s)) (sym g) u));
  }

  pub new_map : (r : Record) → AreNew ss r → AreNew (map f ss) (f r)
  new_map r fresh s id h u =
      let (q, i, e) = in_map_back f s ss h in
      ap (has_id id) (sym e) ∙ same_ids id q (f q) (keeps q)
      ∙ fresh q id i (subst (λ (xs : List SessionId). In id (map rollback_id xs)) (ids_kept r (f r) (keeps r)) u)

-- Boots

module _ (w : World) (ids : HaveIds w.sessions) (undone : HaveRollbackSessions w.sessions) (order : BootOrder)
    (mounts : Mounts) where
  abbrev turn : Record → Record
  turn = become mounts w.modules order (length (counted w).eras)

  abbrev mid : List Record
  mid = map turn w.sessions

  turn_boots : (r : Record) → Boots r (turn r)
  turn_boots r = become_boots mounts w.modules order (length (counted w).eras) r

  turned : Leads Boots w.sessions mid
  turned = leads_map Boots turn w.sessions ids.ascend (λ r. (turn_boots r).kept.id) (λ r h. turn_boots r)

  pub mid_new : (x : Record) → In x (eligible mid) → AreNew mid x
  mid_new x h =
      let (i, e) = among_eligible mid x h in
      let (r, j, f) = in_map_back turn x w.sessions i in
      let was = (settles mounts w.modules order (length (counted w).eras) r).available (ap
      (λ (x : Record). is_available x.rollback) f ∙ e) in
      subst (AreNew mid) f (new_map w.sessions turn
      (λ r. (turn_boots r).kept) r (rollback_new w.sessions ids undone r j was))

  looped : Leads Waits mid (loop_trigger order mid).sessions
  looped = trigger_follows_new mid (ids_map w.sessions turn
      (λ r. (turn_boots r).kept) ids) (eligible mid) (ascend_filter (is_eligible mid) mid turned.ascend)
      (λ x h. (among_eligible mid x h).0) mid_new order.image.print order.observers

  loop_if : (b : Bool) → Follows w.sessions (after_loop (started w order mounts) (cond b (Some
      (loop_trigger order mid)) None)).sessions
  loop_if true = leads_then Boots Waits Becomes (λ r s b. b.kept)
      (λ r s b. b.kept) boots_then w.sessions mid (loop_trigger order mid).sessions turned looped
  loop_if false = leads_as Boots Becomes w.sessions mid boots_becomes turned

  -- what a boot leaves of sessions
  pub boot_follows : Follows w.sessions (boot_world w order mounts).sessions
  boot_follows = loop_if (is_looping order.time (started w order mounts).moments)
