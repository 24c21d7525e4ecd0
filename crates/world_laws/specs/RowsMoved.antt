-- Which rows a call changes that moves one session: docs/rows.md, "After a call". All others stay.
use Rattle.std.specs.Prelude.{◌≡◌, ℕ, ◌==◌, ◌&&◌, ◌||◌, Bool, true, false, not, max, List, map, Option, Some, None}
use Rattle.std.specs.Prelude.{if◌then◌else◌}
use Rattle.std.specs.List.{list_any}
use Rattle.std.specs.Option.{option_map}
use Rattle.apex_base.specs.declared.moves.Move.TheVariants as step_of
use Rattle.apex_base.specs.declared.numbers.SessionId.{SessionId}
use Rattle.apex_base.specs.declared.records.Kind.{Kind}
use Rattle.apex_base.specs.declared.records.Kind.TheVariants.{RollbackOf}
use Rattle.apex_base.specs.declared.records.Record.{Record}
use Rattle.apex_base.specs.declared.records.RollbackState.TheVariants.{Deleted}
use Rattle.apex_base.specs.declared.records.State.TheVariants as state
use Rattle.apex_base.specs.Commit.{is_waiting}
use Rattle.apex_base.specs.Held.{is_available, before, kept, is_target}
use Rattle.apex_base.specs.Keys.{Key, RecordOf, BackupOf, FileOf, SnapshotOf, PreRestoreOf}
use Rattle.apex_base.specs.Moves.{rollback_after}
use Rattle.apex_base.specs.Sessions.{names, shares, session_of, with_session}
use Rattle.apex_base.specs.Spelling.{record_text}
use Rattle.apex_world.specs.Advance.{succeeding, after_success, ready, abort, success}
use Rattle.apex_world.specs.Lawful.{Lawful}
use Rattle.apex_world.specs.Rows.{row_at}
use Rattle.world_laws.specs.RowsAfter.{passes}
use Rattle.apex_world.specs.World.{World}

-- Ready, of a session that is VERIFIED: its record

abbrev pub ready_row : World → Record → Key → Option (List ℕ)
ready_row w r (RecordOf id) =
    if id.0 == r.id.0 then Some (record_text (record r { state = state.Staged }))
    else row_at w (RecordOf id)
ready_row w r k = row_at w k

abbrev pub ReadyChangesRows : Type 0
ReadyChangesRows =
    (w : World) → Lawful w → (id : SessionId) (r : Record) → session_of w.sessions id ≡ Some r
    → r.state ≡ state.Verified → (k : Key) → row_at (ready w id).world k ≡ ready_row w r k

-- Abort: its record, the files of its targets that are kept no more, and what the names of the session that it was to
-- take back had before that

abbrev pub aborted : Record → Record
aborted r = record r { state = state.Aborted; rollback = rollback_after step_of.Abort r.rollback }

abbrev pub has_target : Record → SessionId → ℕ → Bool
has_target r session part = is_target (map (λ p. p.target) r.parts) session part

abbrev pub takes_back : Kind → SessionId → Bool
takes_back (RollbackOf x) id = x.0 == id.0
takes_back _ id = false

-- a file goes where one gave it up and nobody keeps it
abbrev pub freed : Bool → List Record → SessionId → ℕ → Option (List ℕ) → Option (List ℕ)
freed given_up sessions session part row =
    if given_up && not (is_target (kept sessions) session part) then None else row

abbrev pub abort_row : World → Record → Key → Option (List ℕ)
abort_row w r (RecordOf id) = if id.0 == r.id.0 then Some (record_text (aborted r)) else row_at w (RecordOf id)
abort_row w r (FileOf session part path) =
    freed (has_target r session part) (with_session (aborted r) w.sessions) session part
    (row_at w (FileOf session part path))
abort_row w r (SnapshotOf id name key) = if takes_back r.kind id then None else row_at w (SnapshotOf id name key)
abort_row w r k = row_at w k

abbrev pub AbortChangesRows : Type 0
AbortChangesRows =
    (w : World) → Lawful w → (id : SessionId) (r : Record) → session_of w.sessions id ≡ Some r
    → is_waiting r.state ≡ true → (k : Key) → row_at (abort w id).world k ≡ abort_row w r k

-- Success, of a session that is ACTIVATED: its record, and those of the sessions whose rollback it outdates; what its
-- names held before; the files that it and they could have gone back to, where they are kept no more; what names had
-- before sessions that are outdated, and before itself, if it takes one back

-- the success of r outdates the rollback of s
abbrev pub outdates : Record → Record → Bool
outdates r s = shares s r && is_available s.rollback

-- a file of what the names of x held before it
abbrev pub goes_back_to : List Record → Record → SessionId → ℕ → Bool
goes_back_to sessions x session part = is_target (map (λ p. before sessions x p.name) x.parts) session part

abbrev pub gives_up_file : List Record → Record → SessionId → ℕ → Bool
gives_up_file sessions r session part =
    goes_back_to sessions r session part
    || list_any (λ s. outdates r s && goes_back_to sessions s session part) sessions

abbrev pub outdated_text : Record → List ℕ
outdated_text s = record_text (record s { rollback = Some Deleted })

abbrev pub success_row : World → ℕ → Record → Key → Option (List ℕ)
success_row w clock r (RecordOf id) =
    if id.0 == r.id.0 then Some (record_text (succeeding clock r))
    else (if passes (outdates r) (session_of w.sessions id) then option_map outdated_text (session_of w.sessions id)
    else row_at w (RecordOf id))
success_row w clock r (BackupOf name) = if names name r then None else row_at w (BackupOf name)
success_row w clock r (FileOf session part path) =
    freed (gives_up_file w.sessions r session part) (after_success clock r w.sessions) session part
    (row_at w (FileOf session part path))
success_row w clock r (SnapshotOf id name key) =
    if passes (outdates r) (session_of w.sessions id) then None else row_at w (SnapshotOf id name key)
success_row w clock r (PreRestoreOf id name key) = if id.0 == r.id.0 then None else row_at w (PreRestoreOf id name key)
success_row w clock r k = row_at w k

abbrev pub SuccessChangesRows : Type 0
SuccessChangesRows =
    (w : World) → Lawful w → (time : ℕ) (id : SessionId) (r : Record) → session_of w.sessions id ≡ Some r
    → r.state ≡ state.Activated → (k : Key) → row_at (success w time id).world k ≡ success_row w (max w.clock time) r k
