-- Borrowed calls.
use Rattle.apex_world.specs.declared.calls.Call.{Call}
use Rattle.apex_world.specs.declared.calls.Call.TheVariants as calls
use Rattle.apex_world.specs.declared.calls.CallRef.{CallRef}
use Rattle.apex_world.specs.declared.calls.CallRef.TheVariants as at

-- the call that is borrowed
abbrev pub call_at : CallRef → Call
call_at (at.Submit id children rollback parts) = calls.Submit id children.now rollback parts.now
call_at (at.Ready id) = calls.Ready id
call_at (at.Abort id) = calls.Abort id
call_at (at.Success time id) = calls.Success time id
call_at at.Revert = calls.Revert
call_at (at.Commit id) = calls.Commit id
call_at (at.Put name key value) = calls.Put name.now key.now value.now
call_at (at.Drop name key) = calls.Drop name.now key.now
call_at (at.Get name key) = calls.Get name.now key.now
call_at (at.StateOf id) = calls.StateOf id
call_at (at.Watch time observer duration names) = calls.Watch time observer.now duration names.now
call_at (at.Report time name reason) = calls.Report time name.now reason
