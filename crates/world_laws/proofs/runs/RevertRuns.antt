-- Worlds run on after Revert. Callers want `revert_running`.
use Rattle.std.proofs.Common.{◌≡◌, Bool, true, false, cond, map, Option, Some, None, le_refl, is_some, sym}
use Rattle.std.proofs.Common.{ap, subst, ◌∙◌, refl, inr}
use Rattle.std.specs.List.{list_any}
use Rattle.apex_base.specs.declared.moves.Move.TheVariants as step_of
use Rattle.apex_base.specs.declared.records.Record.{Record}
use Rattle.apex_base.specs.declared.records.State.{State}
use Rattle.apex_base.specs.declared.records.State.TheVariants as state
use Rattle.apex_base.specs.declared.refusal.Refusal.TheVariants.{NothingToRevert}
use Rattle.apex_base.specs.Held.{is_unfinished, is_available}
use Rattle.apex_base.specs.Members.{In}
use Rattle.apex_base.specs.Moves.{moved}
use Rattle.apex_world.specs.Advance.{in_state, reverting, revert}
use Rattle.apex_world.specs.Lawful.{AllPeers, NotBothAvailable}
use Rattle.apex_world.specs.Running.{Running}
use Rattle.apex_world.specs.Stepped.{refused, done}
use Rattle.apex_world.specs.World.{World}
use Rattle.world_laws.proofs.runs.MoveStates.{IsMove, no_move, is_reverting}
use Rattle.world_facts.proofs.facts.LeadsLemmas.{changed}
use Rattle.world_laws.proofs.runs.MovedSessions.{turn_from, rollback_as}
use Rattle.world_laws.proofs.runs.TurnedLemmas.{peers_from}
use Rattle.world_laws.proofs.runs.TurnedRuns.{turned_running}
use Rattle.world_laws.proofs.runs.TurnedSessions.{Turns}

-- the state that a revert leads to
abbrev state_after : State → Option State → State
state_after s None = s
state_after s (Some t) = t

-- a session in another state is the same otherwise
in_state_as : (o : Option State) (r : Record) → in_state o r ≡ record r { state = state_after r.state o }
in_state_as None r = refl
in_state_as (Some t) r = refl

-- a revert leads from a state to such a state, which is unfinished if it was
revert_move : (s : State) → IsMove s (state_after s (moved s step_of.Revert))
    × (is_unfinished s ≡ true → is_unfinished (state_after s (moved s step_of.Revert)) ≡ true)
revert_move state.Verified = (no_move state.Verified, λ e. e)
revert_move state.Staged = (no_move state.Staged, λ e. e)
revert_move state.Activated = (is_reverting, λ e. e)
revert_move state.ActivationFailed = (no_move state.ActivationFailed, λ e. e)
revert_move state.Success = (no_move state.Success, λ e. e)
revert_move state.RevertInProgress = (no_move state.RevertInProgress, λ e. e)
revert_move state.Reverted = (no_move state.Reverted, λ e. e)
revert_move state.Aborted = (no_move state.Aborted, λ e. e)

-- it keeps its id
in_state_id : (o : Option State) (r : Record) → (in_state o r).id ≡ r.id
in_state_id None r = refl
in_state_id (Some t) r = refl

-- each session keeps its id
same_id : (r : Record) → (reverting r).id ≡ r.id
same_id r = in_state_id (moved r.state step_of.Revert) r

-- it keeps its rollback
in_state_rollback : (o : Option State) (r : Record) → (in_state o r).rollback ≡ r.rollback
in_state_rollback None r = refl
in_state_rollback (Some t) r = refl

module _ (w : World) (run : Running w) where
  -- each session turns
  revert_turn : (r : Record) → In r w.sessions → Turns r (reverting r)
  revert_turn r h =
      let t = state_after r.state (moved r.state step_of.Revert) in
      let s : Record = record r { state = t } in
      let (m, u) = revert_move r.state in
      subst (Turns r) (sym (in_state_as (moved r.state step_of.Revert) r))
      (turn_from w run.lawful r s h (changed r) refl refl (run.lawful.ranges.sessions r h).moment m
      (rollback_as r s (run.lawful.rollbacks.each r h) refl refl refl (λ e. (e, u)) (λ e. e) refl m.success) refl
      (λ e. inr e))

  -- what is available was available
  available_back : (r : Record) → is_available (reverting r).rollback ≡ true → is_available r.rollback ≡ true
  available_back r e = ap is_available (sym (in_state_rollback (moved r.state step_of.Revert) r)) ∙ e

  -- no two rollbacks of a name are available
  apart : AllPeers NotBothAvailable (map reverting w.sessions)
  apart = peers_from w run.lawful reverting same_id revert_turn NotBothAvailable (λ p q name i j d n m a b.
      run.lawful.rollbacks.peers p q name i j d n m (available_back p a) (available_back q b))

  -- there is something to revert, or not
  revert_by : (b : Bool) → Running (cond b (done (record w { sessions = map reverting w.sessions }))
      (refused w NothingToRevert)).world
  revert_by true = turned_running w run reverting same_id revert_turn apart w.clock (le_refl w.clock)
      run.lawful.ranges.clock
  revert_by false = run

  -- the call Revert
  pub revert_running : Running (revert w).world
  revert_running = revert_by (list_any (λ r. is_some (moved r.state step_of.Revert)) w.sessions)
