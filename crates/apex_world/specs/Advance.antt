-- The calls that move sessions, and the one that asks for a state: docs/calls.md.
use Rattle.std.specs.Prelude.{ℕ, max, is_some, List, map, Option, Some, None, find, if◌then◌else◌, ◌≡◌, refl, codes, [], ◌∷◌}
use Rattle.std.specs.List.{list_any}
use Rattle.apex_base.specs.declared.numbers.SessionId.{SessionId}
use Rattle.apex_base.specs.declared.records.Record.{Record}
use Rattle.apex_base.specs.declared.records.RollbackState.{RollbackState}
use Rattle.apex_base.specs.declared.records.RollbackState.TheVariants.{Enabling, Available, Deleted}
use Rattle.apex_base.specs.declared.records.State.{State}
use Rattle.apex_base.specs.declared.records.State.TheVariants as state
use Rattle.apex_base.specs.declared.moves.Move.{Move}
use Rattle.apex_base.specs.declared.moves.Move.TheVariants as step_of
use Rattle.apex_base.specs.declared.refusal.Refusal.TheVariants.{NoSession, BadState, NothingToRevert}
use Rattle.apex_base.specs.Held.{is_success}
pub use Rattle.apex_base.specs.Moves.{moved, rollback_after}
use Rattle.apex_base.specs.Rollbacks.{is_enabling, no_longer}
use Rattle.apex_base.specs.Sessions.{has_id, shares, session_of, with_session}
use Rattle.apex_world.specs.declared.calls.Reply.TheVariants as reply
use Rattle.apex_world.specs.Stepped.{Stepped, refused, done}
use Rattle.apex_world.specs.World.{World, empty_world}
use Rattle.apex_base.specs.declared.records.Kind.TheVariants.{WithRollback}
use Rattle.apex_base.specs.declared.records.Target.TheVariants.{Preinstalled}
use Rattle.apex_base.specs.declared.numbers.Scale.TheVariants.{Small}

-- Ready and Abort

-- a session moves from its state, if the move may begin there; the clock is raised
abbrev pub move_to : World → ℕ → Record → Move → Option State → Stepped
move_to w clock r m None = refused w (BadState r.state)
move_to w clock r m (Some s) = done (record w { sessions = with_session (record r { state = s; rollback = rollback_after m r.rollback }) w.sessions; clock = clock })

abbrev pub move_found : World → ℕ → SessionId → Move → Option Record → Stepped
move_found w clock id m None = refused w (NoSession id)
move_found w clock id m (Some r) = move_to w clock r m (moved r.state m)

abbrev pub move_session : World → ℕ → SessionId → Move → Stepped
move_session w clock id m = move_found w clock id m (session_of w.sessions id)

abbrev pub ready : World → SessionId → Stepped
ready w id = move_session w w.clock id step_of.Ready

abbrev pub abort : World → SessionId → Stepped
abort w id = move_session w w.clock id step_of.Abort

-- Success

-- a session that succeeds; its rollback is available from now on
abbrev pub succeeding : ℕ → Record → Record
succeeding clock r = if is_enabling r.rollback then record r { state = state.Success; rollback = Some Available; moment = clock } else record r { state = state.Success }

-- and an available rollback of one of its names can no longer be committed
abbrev pub outdated_by : Record → Record → Record
outdated_by x r = if shares r x then record r { rollback = no_longer r.rollback } else r

abbrev pub after_success : ℕ → Record → List Record → List Record
after_success clock x sessions = with_session (succeeding clock x) (map (outdated_by x) sessions)

-- a session that has succeeded already stays as it is
abbrev pub success_to : World → ℕ → Record → Option State → Stepped
success_to w clock r None = refused w (BadState r.state)
success_to w clock r (Some s) = done (record w { sessions = if is_success r.state then w.sessions else after_success clock r w.sessions; clock = clock })

abbrev pub success_found : World → ℕ → SessionId → Option Record → Stepped
success_found w clock id None = refused w (NoSession id)
success_found w clock id (Some r) = success_to w clock r (moved r.state step_of.Success)

abbrev pub success : World → ℕ → SessionId → Stepped
success w time id = success_found w (max w.clock time) id (session_of w.sessions id)

-- Revert

abbrev pub in_state : Option State → Record → Record
in_state None r = r
in_state (Some s) r = record r { state = s }

-- an activated session is to be reverted by the next boot
abbrev pub reverting : Record → Record
reverting r = in_state (moved r.state step_of.Revert) r

abbrev pub revert : World → Stepped
revert w = if list_any (λ r. is_some (moved r.state step_of.Revert)) w.sessions then done (record w { sessions = map reverting w.sessions }) else refused w NothingToRevert

-- State

abbrev pub told : World → SessionId → Option Record → Stepped
told w id None = refused w (NoSession id)
told w id (Some r) = record { world = w; reply = reply.State r.state r.rollback }

-- an id stands for its session, and a child's id for its parent
abbrev pub state_of : World → SessionId → Stepped
state_of w id = told w id (find (has_id id) w.sessions)

-- Worked values: session 1 of `a` succeeds at 2000 and can be rolled back from then on; session 2 of `a` can't be any
-- more. A SUCCESS session stays as it is. Before the first boot there is nothing to revert

abbrev pub example : ℕ → State → Option RollbackState → Record
example n s rollback = record {
  id = record { 0 = n };
  children = [];
  kind = WithRollback;
  parts = record { name = codes "a"; version = None; target = Preinstalled } ∷ [];
  print = codes "P";
  state = s;
  cause = None;
  activation = n;
  rollback = rollback;
  moment = 0;
}

abbrev pub examples : World
examples = record (empty_world Small) { sessions = example 1 state.Activated (Some Enabling) ∷ example 2 state.Success (Some Available) ∷ []; clock = 1000 }

pub rollbacks_after : map (λ r. r.rollback) (success examples 2000 (record { 0 = 1 })).world.sessions ≡ Some Available ∷ Some Deleted ∷ []
rollbacks_after = refl

pub moments_after : map (λ r. r.moment) (success examples 2000 (record { 0 = 1 })).world.sessions ≡ 2000 ∷ 0 ∷ []
moments_after = refl

pub stays_success : (success examples 2000 (record { 0 = 2 })).world ≡ record examples { clock = 2000 }
stays_success = refl

pub nothing_yet : (revert (empty_world Small)).reply ≡ reply.Refused NothingToRevert
nothing_yet = refl
