-- What a call does: docs/calls.md.
use Rattle.std.specs.Prelude.{Bool, List}
use Rattle.apex_base.specs.declared.numbers.SessionId.{SessionId}
use Rattle.apex_base.specs.Modules.{FileMap}
use Rattle.apex_world.specs.declared.calls.Call.{Call}
use Rattle.apex_world.specs.declared.calls.Call.TheVariants as calls
use Rattle.apex_world.specs.Data.{put, drop, get}
use Rattle.apex_world.specs.Report.{commit, report}
use Rattle.apex_world.specs.Submit.{submitted}
use Rattle.apex_world.specs.Watching.{watch}
use Rattle.apex_world.specs.World.{World}
pub use Rattle.apex_world.specs.Advance.{move_to, move_found, move_session, ready, abort, success, revert, told, state_of}
pub use Rattle.apex_world.specs.Stepped.{Stepped, refused, done, replied}

abbrev pub submit : World → SessionId → List SessionId → Bool → List FileMap → Stepped
submit w id children rollback parts = replied w (submitted w id children rollback parts)

-- the world after a call, and its reply
abbrev pub step : World → Call → Stepped
step w (calls.Submit id children rollback parts) = submit w id children rollback parts
step w (calls.Ready id) = ready w id
step w (calls.Abort id) = abort w id
step w (calls.Success time id) = success w time id
step w calls.Revert = revert w
step w (calls.Commit id) = commit w id
step w (calls.Put name key value) = put w name key value
step w (calls.Drop name key) = drop w name key
step w (calls.Get name key) = get w name key
step w (calls.StateOf id) = state_of w id
step w (calls.Watch time observer duration names) = watch w time observer duration names
step w (calls.Report time name why) = report w time name why
