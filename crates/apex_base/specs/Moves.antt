-- The moves between a session's states: docs/sessions.md, "Moves" (AOSP's apexd_session.cpp and StagingManager).
use Rattle.std.specs.Prelude.{ℕ, Option, Some, None}
use Rattle.apex_base.specs.declared.records.RollbackState.{RollbackState}
use Rattle.apex_base.specs.declared.records.RollbackState.TheVariants.{Enabling, Deleted}
use Rattle.apex_base.specs.declared.records.State.{State}
use Rattle.apex_base.specs.declared.records.State.TheVariants as state
use Rattle.apex_base.specs.declared.moves.Move.{Move}
use Rattle.apex_base.specs.declared.moves.Move.TheVariants as by

-- the number of a state on a device
abbrev pub state_number : State → ℕ
state_number state.Verified = 1
state_number state.Staged = 2
state_number state.Activated = 3
state_number state.ActivationFailed = 4
state_number state.Success = 5
state_number state.RevertInProgress = 6
state_number state.Reverted = 7
state_number state.Aborted = 8

-- the state that a move leads to, if it can begin in this state
abbrev pub moved : State → Move → Option State
moved state.Verified by.Ready = Some state.Staged
moved state.Staged by.Ready = Some state.Staged
moved state.Verified by.Abort = Some state.Aborted
moved state.Staged by.Abort = Some state.Aborted
moved state.Activated by.Success = Some state.Success
moved state.Success by.Success = Some state.Success
moved state.Activated by.Revert = Some state.RevertInProgress
moved state.Staged by.Activate = Some state.Activated
moved state.Verified by.Fail = Some state.ActivationFailed
moved state.Staged by.Fail = Some state.ActivationFailed
moved state.Activated by.Undo = Some state.Reverted
moved state.RevertInProgress by.Undo = Some state.Reverted
moved _ _ = None

-- the state of a session's rollback after the move: an abort gives up one that isn't available yet
abbrev pub rollback_after : Move → Option RollbackState → Option RollbackState
rollback_after by.Abort (Some Enabling) = Some Deleted
rollback_after _ rollback = rollback
