-- What a call makes of one session, and a running world with it. Callers want `turn_from`, `turn_self`, `turn_put`,
-- `rollback_as` and `placed_running`.
use Rattle.std.proofs.Common.{◌≡◌, ◌≢◌, ◌⊎◌, Bool, true, false, cond, eqb, ◌||◌, List, map, le_refl}
use Rattle.std.proofs.Common.{sym, ap, subst, ◌∙◌, refl, inl, inr, is_some, map-id}
use Rattle.std.proofs.lemmas.Bool.{and_parts, and_from, or_cases, or_left, or_right, eqb-true, eqb-false}
use Rattle.apex_base.specs.declared.numbers.SessionId.{SessionId}
use Rattle.apex_base.specs.declared.records.Record.{Record}
use Rattle.apex_base.specs.Commit.{rolls_back, undoes}
use Rattle.apex_base.specs.Held.{is_unfinished, is_undoable, is_available, is_success, is_staged}
use Rattle.apex_base.specs.Members.{In}
use Rattle.apex_base.specs.Ranges.{IsMillis}
use Rattle.apex_base.specs.Rollbacks.{is_enabling, is_committed}
use Rattle.apex_base.specs.Sessions.{with_session}
use Rattle.apex_world.specs.Bounds.{can_be_rolled_back, is_ready_rollback}
use Rattle.world_facts.specs.Follows.{IsKeptAs}
use Rattle.apex_world.specs.Lawful.{Lawful, HasRollback, AllPeers, NotBothAvailable, is_verified}
use Rattle.apex_world.specs.Running.{Running, is_activated}
use Rattle.apex_world.specs.World.{World}
use Rattle.world_facts.proofs.facts.LeadsLemmas as leads
use Rattle.world_facts.proofs.facts.OpenedSessions.{one_session}
use Rattle.world_laws.proofs.runs.SessionMaps.{put_for, same_put, with_as_map}
use Rattle.world_laws.proofs.runs.TurnedLemmas.{peers_from}
use Rattle.world_laws.proofs.runs.TurnedRuns.{turned_running}
use Rattle.world_laws.proofs.runs.TurnedSessions.{Turns}
use Rattle.world_laws.proofs.runs.MoveStates.{IsMove, no_move, activated_undoable, undoing}

module _ (w : World) (law : Lawful w) where
  -- a rollback session is not verified
  has_begun : (r : Record) → In r w.sessions → undoes r.kind ≡ true → is_verified r.state ≡ false
  has_begun r h e = let (id, k) = undoing r.kind e in let (x, found, back) = law.undone.back r id h k in back.begun

  -- a session turns where its state moves and its rollback is one that it may have
  pub turn_from : (r s : Record) → In r w.sessions → IsKeptAs r s → s.cause ≡ r.cause → s.activation ≡ r.activation
      → IsMillis s.moment → IsMove r.state s.state → HasRollback s → is_committed s.rollback ≡ is_committed r.rollback
      → (is_available s.rollback ≡ true → (is_activated r.state ≡ true) ⊎ (is_available r.rollback ≡ true)) → Turns r s
  turn_from r s h kept cause activation moment m rollback committed available =
      let ready : is_ready_rollback s ≡ true → is_ready_rollback r ≡ true = λ e.
      let (k, t) = and_parts (undoes s.kind) (is_staged s.state) e in
      let undone : undoes r.kind ≡ true = ap undoes (sym kept.kind) ∙ k in
      and_from (undoes r.kind) (is_staged r.state) undone (m.staged t (has_begun r h undone)) in
      record {
        kept = kept;
        cause = cause;
        activation = activation;
        moment = moment;
        unfinished = m.unfinished;
        undoable = m.undoable;
        standing = m.standing;
        success = m.success;
        never = m.never;
        failed = m.failed;
        begun = m.begun;
        rollback = rollback;
        committed = committed;
        available = λ e. elim (available e) [
          | inl a ↦ or_left (is_undoable r.state) (is_available r.rollback) (activated_undoable r.state a)
          | inr a ↦ or_right (is_undoable r.state) (is_available r.rollback) a
        ];
        ready = ready;
        imaged = λ e. elim (or_cases (is_activated s.state) (can_be_rolled_back s || is_ready_rollback s) e) [
          | inl a ↦ or_left (is_activated r.state) (can_be_rolled_back r || is_ready_rollback r) (m.activated a)
          | inr o ↦ elim (or_cases (can_be_rolled_back s) (is_ready_rollback s) o) [
            | inl a ↦ elim (available a) [
              | inl b ↦ or_left (is_activated r.state) (can_be_rolled_back r || is_ready_rollback r) b
              | inr b ↦ or_right (is_activated r.state) (can_be_rolled_back r || is_ready_rollback r)
                  (or_left (can_be_rolled_back r) (is_ready_rollback r) b)
            ]
            | inr t ↦ or_right (is_activated r.state) (can_be_rolled_back r || is_ready_rollback r)
                (or_right (can_be_rolled_back r) (is_ready_rollback r) (ready t))
          ]
        ];
      }

  -- a session that stays turns
  pub turn_self : (r : Record) → In r w.sessions → Turns r r
  turn_self r h = turn_from r r h (leads.same r) refl refl (law.ranges.sessions r h).moment (no_move r.state)
      (law.rollbacks.each r h) refl (λ e. inr e)

  -- the session in its place turns, and each other one as it does by itself
  put_if : (b : Bool) (r s : Record) (f : Record → Record) (q : Record) → eqb q.id.0 s.id.0 ≡ b → In r w.sessions
      → s.id ≡ r.id → Turns r s → In q w.sessions → (q.id.0 ≢ r.id.0 → Turns q (f q)) → Turns q (cond b s (f q))
  put_if true r s f q e h same t i other =
      let one : r ≡ q = one_session w.sessions r q law.ids.ascend h i
      (ap (λ (id : SessionId). id.0) (sym same) ∙ sym (eqb-true q.id.0 s.id.0 e)) in
      subst (λ (q : Record). Turns q s) one t
  put_if false r s f q e h same t i other =
      other (λ d. eqb-false q.id.0 s.id.0 e (d ∙ ap (λ (id : SessionId). id.0) (sym same)))

  -- one session turns, and each other one turns by itself
  pub turn_put : (r s : Record) (f : Record → Record) → In r w.sessions → s.id ≡ r.id → Turns r s
      → ((q : Record) → In q w.sessions → q.id.0 ≢ r.id.0 → Turns q (f q)) → (q : Record) → In q w.sessions
      → Turns q (put_for s f q)
  turn_put r s f h same t other q i = put_if (eqb q.id.0 s.id.0) r s f q refl h same t i (other q i)

-- a session has a rollback as it had it
pub rollback_as : (r s : Record) → HasRollback r → s.kind ≡ r.kind → s.moment ≡ r.moment
    → is_some s.rollback ≡ is_some r.rollback
    → (is_enabling s.rollback ≡ true → (is_enabling r.rollback ≡ true)
    × (is_unfinished r.state ≡ true → is_unfinished s.state ≡ true))
    → (is_available s.rollback ≡ true → is_available r.rollback ≡ true)
    → is_committed s.rollback ≡ is_committed r.rollback → (is_success r.state ≡ true → is_success s.state ≡ true)
    → HasRollback s
rollback_as r s h kind moment some enabling available committed success = record {
  kind = some ∙ h.kind ∙ ap rolls_back (sym kind);
  enabling = λ e. let (a, b) = enabling e in b (h.enabling a);
  available = λ e. success (h.available (available e));
  committed = λ e. success (h.committed (sym committed ∙ e));
  none = λ e. moment ∙ h.none (sym some ∙ e);
  not_yet = λ e. moment ∙ h.not_yet (enabling e).0;
}

module _ (w : World) (run : Running w) (r s : Record) (h : In r w.sessions) (same : s.id ≡ r.id) (turn : Turns r s)
    (available : is_available s.rollback ≡ true → is_available r.rollback ≡ true) where
  abbrev g : Record → Record
  g = put_for s (λ q. q)

  -- each keeps its id
  ids : (q : Record) → (g q).id ≡ q.id
  ids = same_put s (λ q. q) (λ q. refl)

  -- each turns
  turns : (q : Record) → In q w.sessions → Turns q (g q)
  turns = turn_put w run.lawful r s (λ q. q) h same turn (λ q i d. turn_self w run.lawful q i)

  -- what is available was available
  back_if : (b : Bool) (q : Record) → eqb q.id.0 s.id.0 ≡ b → In q w.sessions
      → is_available (cond b s q).rollback ≡ true → is_available q.rollback ≡ true
  back_if true q e i a =
      let one : r ≡ q = one_session w.sessions r q run.lawful.ids.ascend h i
      (ap (λ (id : SessionId). id.0) (sym same) ∙ sym (eqb-true q.id.0 s.id.0 e)) in
      ap (λ (q : Record). is_available q.rollback) (sym one) ∙ available a
  back_if false q e i a = a

  -- no two rollbacks of a name are available
  apart : AllPeers NotBothAvailable (map g w.sessions)
  apart = peers_from w run.lawful g ids turns NotBothAvailable (λ p q name i j d n m a b.
      run.lawful.rollbacks.peers p q name i j d n m (back_if (eqb p.id.0 s.id.0) p refl i a)
      (back_if (eqb q.id.0 s.id.0) q refl j b))

  -- the sessions with one in its place are what each becomes
  as_map : with_session s w.sessions ≡ map g w.sessions
  as_map = ap (with_session s) (sym (map-id w.sessions))
      ∙ with_as_map s r (λ q. q) w.sessions (λ q. refl) run.lawful.ids.ascend h
      (ap (λ (id : SessionId). id.0) (sym same))

  -- one session turns
  pub placed_running : Running (record w { sessions = with_session s w.sessions; clock = w.clock })
  placed_running = subst (λ (ss : List Record). Running (record w { sessions = ss; clock = w.clock })) (sym as_map)
      (turned_running w run g ids turns apart w.clock (le_refl w.clock) run.lawful.ranges.clock)
