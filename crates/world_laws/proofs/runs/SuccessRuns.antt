-- Worlds run on after Success. Callers want `success_running`.
use Rattle.std.proofs.Common.{◌≡◌, ◌≢◌, ℕ, ◌≤◌, max, Bool, true, false, cond, eqb, List, map, Option, Some, None, sym}
use Rattle.std.proofs.Common.{ap, subst, ◌∙◌, refl, inl, inr, arith}
use Rattle.std.proofs.lemmas.Bool.{false≢true, cases_eq, ne_eqb}
use Rattle.apex_base.specs.declared.moves.Move.TheVariants as step_of
use Rattle.apex_base.specs.declared.numbers.SessionId.{SessionId}
use Rattle.apex_base.specs.declared.records.Record.{Record}
use Rattle.apex_base.specs.declared.records.RollbackState.TheVariants.{Available}
use Rattle.apex_base.specs.declared.records.State.{State}
use Rattle.apex_base.specs.declared.records.State.TheVariants as state
use Rattle.apex_base.specs.Held.{is_available, is_success}
use Rattle.apex_base.specs.Members.{In}
use Rattle.apex_base.specs.Moves.{moved}
use Rattle.apex_base.specs.Ranges.{IsMillis}
use Rattle.apex_base.specs.Rollbacks.{is_enabling, no_longer}
use Rattle.apex_base.specs.Sessions.{names, shares, session_of}
use Rattle.apex_base.proofs.SessionLemmas.{of_found}
use Rattle.apex_world.specs.Advance.{succeeding, outdated_by, after_success, success_to, success_found, success}
use Rattle.apex_world.specs.Lawful.{AllPeers, NotBothAvailable}
use Rattle.apex_world.specs.Running.{Running, is_activated}
use Rattle.apex_world.specs.World.{World}
use Rattle.world_laws.proofs.runs.MoveStates.{IsMove, no_move}
use Rattle.world_laws.proofs.runs.MovedSessions.{turn_from, turn_put, rollback_as}
use Rattle.world_facts.proofs.facts.OpenedSessions.{one_session}
use Rattle.world_laws.proofs.runs.SessionMaps.{put_for, same_put, with_as_map}
use Rattle.world_laws.proofs.runs.RunningLemmas.{with_watches}
use Rattle.world_laws.proofs.runs.TurnedLemmas.{peers_from}
use Rattle.world_laws.proofs.runs.TurnedRuns.{turned_running}
use Rattle.world_laws.proofs.runs.TurnedSessions.{Turns}
use Rattle.world_laws.proofs.runs.OutdatedRollbacks.{is_succeeding, longer_enabling, longer_available}
use Rattle.world_laws.proofs.runs.OutdatedRollbacks.{enabling_some, outdated_id, outdated_available}
use Rattle.world_laws.proofs.runs.OutdatedRollbacks.{succeeding_id, sharing}
use Rattle.world_facts.proofs.facts.LeadsLemmas.{changed}
use Rattle.world_facts.proofs.facts.StateFacts.{success_from}
use Rattle.world_laws.proofs.meaning.RollbackStates.{settles_no_longer}

module _ (w : World) (run : Running w) (clock : ℕ) (later : w.clock ≤ clock) (millis : IsMillis clock) (x : Record)
    (h : In x w.sessions) (active : x.state ≡ state.Activated) where
  -- each other session turns
  outdated_turn : (b : Bool) (r : Record) → In r w.sessions
      → Turns r (cond b (record r { rollback = no_longer r.rollback }) r)
  outdated_turn false r i =
      turn_from w run.lawful r r i (changed r) refl refl (run.lawful.ranges.sessions r i).moment
      (no_move r.state) (run.lawful.rollbacks.each r i) refl (λ e. inr e)
  outdated_turn true r i =
      let s : Record = record r { rollback = no_longer r.rollback } in
      let none : is_available s.rollback ≡ true → ⊥ = λ e. false≢true (sym (longer_available r.rollback) ∙ e) in
      turn_from w run.lawful r s i (changed r) refl refl
      (run.lawful.ranges.sessions r i).moment (no_move r.state)
      (rollback_as r s (run.lawful.rollbacks.each r i) refl refl (settles_no_longer r.rollback).some
      (λ e. (sym (longer_enabling r.rollback) ∙ e, λ u. u)) (λ e. absurd (none e)) (settles_no_longer r.rollback).committed
      (λ e. e))
      (settles_no_longer r.rollback).committed (λ e. absurd (none e))

  -- the session that succeeds is activated
  is_now : is_activated x.state ≡ true
  is_now = ap is_activated active

  -- its state moves
  move : IsMove x.state state.Success
  move = subst (λ (s : State). IsMove s state.Success) (sym active) is_succeeding

  -- it turns
  succeeding_turn : (b : Bool) → is_enabling x.rollback ≡ b
      → Turns x (cond b (record x { state = state.Success; rollback = Some Available; moment = clock })
      (record x { state = state.Success }))
  succeeding_turn false e =
      let s : Record = record x { state = state.Success } in
      turn_from w run.lawful x s h (changed x) refl refl
      (run.lawful.ranges.sessions x h).moment move
      (rollback_as x s (run.lawful.rollbacks.each x h) refl refl refl (λ f. absurd (false≢true (sym e ∙ f))) (λ f. f)
      refl
      (λ f. refl)) refl (λ f. inr f)
  succeeding_turn true e =
      let (some, not_yet) = enabling_some x.rollback e in
      let s : Record = record x { state = state.Success; rollback = Some Available; moment = clock } in
      turn_from w run.lawful x s h (changed x) refl
      refl millis move (record {
        kind = sym some ∙ (run.lawful.rollbacks.each x h).kind;
        enabling = λ f. absurd (false≢true f);
        available = λ f. refl;
        committed = λ f. absurd (false≢true f);
        none = λ f. absurd (false≢true (sym f));
        not_yet = λ f. absurd (false≢true f);
      }) (sym not_yet) (λ f. inl is_now)

  abbrev y : Record
  y = succeeding clock x

  abbrev g : Record → Record
  g = put_for (succeeding clock x) (outdated_by x)

  -- it keeps its id
  y_id : y.id ≡ x.id
  y_id = succeeding_id (is_enabling x.rollback) clock x

  -- and the number of its id
  y_number : y.id.0 ≡ x.id.0
  y_number = ap (λ (id : SessionId). id.0) y_id

  -- each other session keeps its id
  others_id : (r : Record) → (outdated_by x r).id ≡ r.id
  others_id r = outdated_id (shares r x) r

  -- each session keeps its id
  ids : (r : Record) → (g r).id ≡ r.id
  ids = same_put y (outdated_by x) others_id

  -- each session turns
  turns : (r : Record) → In r w.sessions → Turns r (g r)
  turns = turn_put w run.lawful x y (outdated_by x) h y_id (succeeding_turn (is_enabling x.rollback) refl)
      (λ q i d. outdated_turn (shares q x) q i)

  -- another session is available only if it was, and shares no name
  other_available : (q : Record) → q.id.0 ≢ x.id.0 → is_available (g q).rollback ≡ true
      → (shares q x ≡ false) × (is_available q.rollback ≡ true)
  other_available q d a =
      let e : eqb q.id.0 y.id.0 ≡ false = ne_eqb q.id.0 y.id.0 (λ f. d (f ∙ y_number)) in
      outdated_available (shares q x) q
      (ap (λ b. is_available (cond b y (outdated_by x q)).rollback) (sym e) ∙ a)

  -- so none that shares a name with the one that succeeds
  none_beside : (q : Record) (name : List ℕ) → q.id.0 ≢ x.id.0 → names name x ≡ true → names name q ≡ true
      → is_available (g q).rollback ≡ true → ⊥
  none_beside q name d n m a = false≢true (sym (other_available q d a).0 ∙ sharing q x name m n)

  -- a session of its id has its names
  named_as : (p : Record) (name : List ℕ) → In p w.sessions → p.id.0 ≡ x.id.0 → names name p ≡ true
      → names name x ≡ true
  named_as p name i e n = ap (names name) (sym (one_session w.sessions p x run.lawful.ids.ascend i h e)) ∙ n

  -- no two rollbacks of a name are available
  apart : AllPeers NotBothAvailable (map g w.sessions)
  apart = peers_from w run.lawful g ids turns NotBothAvailable (λ p q name i j d n m a b.
      elim (cases_eq p.id.0 x.id.0) [
        | inl e ↦ none_beside q name (λ f. d (e ∙ sym f)) (named_as p name i e n) m b
        | inr f ↦ elim (cases_eq q.id.0 x.id.0) [
          | inl e ↦ none_beside p name f (named_as q name j e m) n a
          | inr k ↦ run.lawful.rollbacks.peers p q name i j d n m (other_available p f a).1 (other_available q k b).1
        ]
      ])

  -- the sessions after are what each becomes
  as_map : after_success clock x w.sessions ≡ map g w.sessions
  as_map = with_as_map y x (outdated_by x) w.sessions others_id run.lawful.ids.ascend h (sym y_number)

  -- the world with them runs
  marked_running : Running (record w { sessions = after_success clock x w.sessions; clock = clock })
  marked_running = subst (λ (ss : List Record). Running (record w { sessions = ss; clock = clock })) (sym as_map)
      (turned_running w run g ids turns apart clock later millis)

-- The call

-- a running world at a later moment
pub later_running : (w : World) → Running w → (clock : ℕ) → w.clock ≤ clock → IsMillis clock
    → Running (record w { clock = clock })
later_running w run clock later millis =
    with_watches w run w.watches clock run.lawful.ranges.watches run.lawful.ranges.ends run.watches run.observers later
    millis

module _ (w : World) (run : Running w) (clock : ℕ) (later : w.clock ≤ clock) (millis : IsMillis clock) where
  -- a session that has succeeded already, or one that succeeds
  marked_by : (b : Bool) (r : Record) → In r w.sessions → (b ≡ false → r.state ≡ state.Activated)
      → Running (record w { sessions = cond b w.sessions (after_success clock r w.sessions); clock = clock })
  marked_by true r h e = later_running w run clock later millis
  marked_by false r h e = marked_running w run clock later millis r h (e refl)

  -- Success of a session, where its state allows it or not
  success_by : (r : Record) (o : Option State) → In r w.sessions → moved r.state step_of.Success ≡ o
      → Running (success_to w clock r o).world
  success_by r None h e = run
  success_by r (Some t) h e = marked_by (is_success r.state) r h (λ f. success_from r.state t e f)

  -- Success of an id, where a session has it or not
  success_at : (id : SessionId) (o : Option Record) → session_of w.sessions id ≡ o
      → Running (success_found w clock id o).world
  success_at id None e = run
  success_at id (Some r) e = success_by r (moved r.state step_of.Success) (of_found w.sessions id r e).0 refl

-- the call Success
pub success_running : (w : World) → Running w → (time : ℕ) → IsMillis time → (id : SessionId)
    → Running (success w time id).world
success_running w run time millis id =
    let l = run.lawful.ranges.clock in
    success_at w run (max w.clock time) (omega arith) (omega (arith, l, millis)) id (session_of w.sessions id) refl
