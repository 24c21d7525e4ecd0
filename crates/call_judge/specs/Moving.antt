-- The session that a call moves: docs/calls.md.
use Rattle.std.specs.Prelude.{◌≡◌, ◌<◌, ℕ, List, length, slice_get, slice_set, Some}
use Rattle.apex_base.specs.declared.moves.Move.{Move}
use Rattle.apex_base.specs.declared.numbers.SessionId.{SessionId}
use Rattle.apex_base.specs.declared.records.Record.{Record}
use Rattle.apex_base.specs.declared.records.State.{State}
use Rattle.apex_base.specs.Moves.{moved}
use Rattle.apex_base.specs.Sessions.{session_of, with_session}

-- a session in another state
abbrev pub in_state : Record → State → Record
in_state r b = record r { state = b; rollback = r.rollback }

-- the session of an id, where it stands, and the state that a move leads it to
pub record Moves (sessions : List Record) (id : SessionId) (by : Move) (place : ℕ) (next : State) : Type 0 where
  pub session : Record
  pub low : place < length sessions
  pub here : slice_get sessions place ≡ Some session
  pub found : session_of sessions id ≡ Some session
  pub goes : moved session.state by ≡ Some next
  pub put : (s : Record) → s.id ≡ id → with_session s sessions ≡ slice_set sessions place s
