-- Calls whose modules are checked: docs/calls.md.
use Rattle.apex_world.specs.declared.calls.Call.{Call}
use Rattle.apex_world.specs.declared.calls.Call.TheVariants as calls
use Rattle.call_judge.specs.declared.prepared.OtherCall.{OtherCall}
use Rattle.call_judge.specs.declared.prepared.OtherCall.TheVariants as other
use Rattle.call_judge.specs.declared.prepared.CheckedCall.{CheckedCall}
use Rattle.call_judge.specs.declared.prepared.CheckedCall.TheVariants.{Submit, Ready, Abort, Success, StateOf, Other}

-- a call without modules
abbrev pub other_call : OtherCall → Call
other_call other.Revert = calls.Revert
other_call (other.Commit id) = calls.Commit id
other_call (other.Put name key value) = calls.Put name key value
other_call (other.Drop name key) = calls.Drop name key
other_call (other.Get name key) = calls.Get name key
other_call (other.Watch time observer duration names) = calls.Watch time observer duration names
other_call (other.Report time name reason) = calls.Report time name reason

-- the call that is kept so
abbrev pub call_of : CheckedCall → Call
call_of (Submit s) = calls.Submit s.id s.children s.rollback s.parts
call_of (Ready id) = calls.Ready id
call_of (Abort id) = calls.Abort id
call_of (Success time id) = calls.Success time id
call_of (StateOf id) = calls.StateOf id
call_of (Other call) = other_call call
