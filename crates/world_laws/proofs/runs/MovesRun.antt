-- Worlds run on after Ready and Abort. Callers want `ready_running` and `abort_running`.
use Rattle.std.proofs.Common.{◌≡◌, true, Option, Some, None}
use Rattle.std.proofs.Common.{refl, inr, is_some}
use Rattle.apex_base.specs.declared.moves.Move.TheVariants as step_of
use Rattle.apex_base.specs.declared.numbers.SessionId.{SessionId}
use Rattle.apex_base.specs.declared.records.Record.{Record}
use Rattle.apex_base.specs.declared.records.RollbackState.{RollbackState}
use Rattle.apex_base.specs.declared.records.RollbackState.TheVariants.{Enabling, Available, Committed, Deleted}
use Rattle.apex_base.specs.declared.records.State.{State}
use Rattle.apex_base.specs.Held.{is_available}
use Rattle.apex_base.specs.Members.{In}
use Rattle.apex_base.specs.Moves.{moved}
use Rattle.apex_base.specs.Rollbacks.{is_enabling, is_committed}
use Rattle.apex_base.specs.Sessions.{session_of}
use Rattle.apex_base.proofs.SessionLemmas.{of_found}
use Rattle.apex_world.specs.Advance.{rollback_after, move_to, move_found, ready, abort}
use Rattle.apex_world.specs.Running.{Running}
use Rattle.apex_world.specs.World.{World}
use Rattle.world_laws.proofs.runs.TurnedSessions.{Turns}
use Rattle.world_laws.proofs.runs.MoveStates.{ready_move, abort_move}
use Rattle.world_laws.proofs.runs.MovedSessions.{turn_from, rollback_as, placed_running}
use Rattle.world_facts.proofs.facts.LeadsLemmas.{changed}

-- an abort gives nobody a rollback, and takes none away
abort_some : (o : Option RollbackState) → is_some (rollback_after step_of.Abort o) ≡ is_some o
abort_some None = refl
abort_some (Some Enabling) = refl
abort_some (Some Available) = refl
abort_some (Some Committed) = refl
abort_some (Some Deleted) = refl

-- after an abort no rollback is being enabled
abort_enabling : (o : Option RollbackState) → is_enabling (rollback_after step_of.Abort o) ≡ true → ⊥
abort_enabling None e = cc
abort_enabling (Some Enabling) e = cc
abort_enabling (Some Available) e = cc
abort_enabling (Some Committed) e = cc
abort_enabling (Some Deleted) e = cc

-- what is available after an abort was available
abort_available : (o : Option RollbackState) → is_available (rollback_after step_of.Abort o) ≡ true
    → is_available o ≡ true
abort_available None e = absurd (cc)
abort_available (Some Enabling) e = absurd (cc)
abort_available (Some Available) e = refl
abort_available (Some Committed) e = absurd (cc)
abort_available (Some Deleted) e = absurd (cc)

-- what is committed after an abort was committed
abort_committed : (o : Option RollbackState) → is_committed (rollback_after step_of.Abort o) ≡ is_committed o
abort_committed None = refl
abort_committed (Some Enabling) = refl
abort_committed (Some Available) = refl
abort_committed (Some Committed) = refl
abort_committed (Some Deleted) = refl

module _ (w : World) (run : Running w) where
  -- a session that is made ready turns
  ready_turn : (r : Record) (t : State) → In r w.sessions → moved r.state step_of.Ready ≡ Some t
      → Turns r (record r { state = t; rollback = r.rollback })
  ready_turn r t h e =
      let (m, u) = ready_move r.state t e in
      let s : Record = record r { state = t; rollback = r.rollback } in
      turn_from w run.lawful r s h (changed r) refl refl (run.lawful.ranges.sessions r h).moment m
      (rollback_as r s (run.lawful.rollbacks.each r h) refl refl refl (λ e. (e, u)) (λ e. e) refl m.success) refl
      (λ e. inr e)

  -- a session that is aborted turns
  abort_turn : (r : Record) (t : State) → In r w.sessions → moved r.state step_of.Abort ≡ Some t
      → Turns r (record r { state = t; rollback = rollback_after step_of.Abort r.rollback })
  abort_turn r t h e =
      let m = abort_move r.state t e in
      let s : Record = record r { state = t; rollback = rollback_after step_of.Abort r.rollback } in
      turn_from w run.lawful r s h (changed r) refl refl
      (run.lawful.ranges.sessions r h).moment m
      (rollback_as r s (run.lawful.rollbacks.each r h) refl refl (abort_some r.rollback)
      (λ e. absurd (abort_enabling r.rollback e)) (abort_available r.rollback) (abort_committed r.rollback) m.success)
      (abort_committed r.rollback) (λ e. inr (abort_available r.rollback e))

  -- Ready of a session, where its state allows it or not
  ready_to : (r : Record) (o : Option State) → In r w.sessions → moved r.state step_of.Ready ≡ o
      → Running (move_to w w.clock r step_of.Ready o).world
  ready_to r None h e = run
  ready_to r (Some t) h e =
      placed_running w run r (record r { state = t; rollback = r.rollback }) h refl (ready_turn r t h e) (λ a. a)

  -- Ready of an id, where a session has it or not
  ready_found : (id : SessionId) (o : Option Record) → session_of w.sessions id ≡ o
      → Running (move_found w w.clock id step_of.Ready o).world
  ready_found id None e = run
  ready_found id (Some r) e = ready_to r (moved r.state step_of.Ready) (of_found w.sessions id r e).0 refl

  -- the call Ready
  pub ready_running : (id : SessionId) → Running (ready w id).world
  ready_running id = ready_found id (session_of w.sessions id) refl

  -- Abort of a session, where its state allows it or not
  abort_to : (r : Record) (o : Option State) → In r w.sessions → moved r.state step_of.Abort ≡ o
      → Running (move_to w w.clock r step_of.Abort o).world
  abort_to r None h e = run
  abort_to r (Some t) h e =
      placed_running w run r (record r { state = t; rollback = rollback_after step_of.Abort r.rollback }) h refl
      (abort_turn r t h e) (abort_available r.rollback)

  -- Abort of an id, where a session has it or not
  abort_found : (id : SessionId) (o : Option Record) → session_of w.sessions id ≡ o
      → Running (move_found w w.clock id step_of.Abort o).world
  abort_found id None e = run
  abort_found id (Some r) e = abort_to r (moved r.state step_of.Abort) (of_found w.sessions id r e).0 refl

  -- the call Abort
  pub abort_running : (id : SessionId) → Running (abort w id).world
  abort_running id = abort_found id (session_of w.sessions id) refl
