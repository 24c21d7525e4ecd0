-- Each call keeps a running world running: `calls_run`.
use Rattle.apex_world.specs.declared.calls.Call.{Call}
use Rattle.apex_world.specs.declared.calls.Call.TheVariants as calls
use Rattle.world_laws.specs.Invariance.{IsCall}
use Rattle.apex_world.specs.Running.{Running}
use Rattle.apex_world.specs.Step.{step, told}
use Rattle.apex_world.specs.Stepped.{answered}
use Rattle.apex_world.specs.World.{World}
use Rattle.std.proofs.Common.{List, ℕ, Option, Some, None, Result, Ok, Err, find}
use Rattle.apex_base.specs.declared.numbers.SessionId.{SessionId}
use Rattle.apex_base.specs.declared.records.Record.{Record}
use Rattle.apex_base.specs.declared.refusal.Refusal.{Refusal}
use Rattle.apex_base.specs.Results.{◌>>=◌}
use Rattle.apex_base.specs.Sessions.{has_id}
use Rattle.apex_world.specs.declared.calls.Reply.TheVariants as reply
use Rattle.apex_world.specs.Data.{value_at}
use Rattle.world_laws.proofs.runs.CommitCall.{commit_running}
use Rattle.world_laws.proofs.runs.DataRuns.{put_running, drop_running}
use Rattle.world_laws.proofs.runs.MovesRun.{ready_running, abort_running}
use Rattle.world_laws.proofs.runs.ReportRuns.{report_running}
use Rattle.world_laws.proofs.runs.RevertRuns.{revert_running}
use Rattle.world_laws.proofs.runs.SubmitRuns.{submit_running}
use Rattle.world_laws.proofs.runs.SuccessRuns.{success_running}
use Rattle.world_laws.proofs.runs.WatchRuns.{watch_running}

-- calls that only answer leave the world

-- State leaves the world
told_running : (w : World) → Running w → (id : SessionId) (o : Option Record) → Running (told w id o).world
told_running w run id None = run
told_running w run id (Some r) = run

-- Get leaves the world
get_running : (w : World) → Running w → (o : Result (List ℕ) Refusal)
    → Running (answered w (o >>= λ value. Ok (record { world = w; reply = reply.Value value }))).world
get_running w run (Ok value) = run
get_running w run (Err refusal) = run

-- each call keeps a running world running
pub calls_run : (w : World) → Running w → (call : Call) → IsCall call → Running (step w call).world
calls_run w run (calls.Submit id children rollback parts) h = submit_running w run id children rollback parts h
calls_run w run (calls.Ready id) h = ready_running w run id
calls_run w run (calls.Abort id) h = abort_running w run id
calls_run w run (calls.Success time id) h = success_running w run time h id
calls_run w run calls.Revert h = revert_running w run
calls_run w run (calls.Commit id) h = commit_running w run id
calls_run w run (calls.Put name key value) h = put_running w run name key value h.0 h.1
calls_run w run (calls.Drop name key) h = drop_running w run name key
calls_run w run (calls.Get name key) h = get_running w run (value_at w name key)
calls_run w run (calls.StateOf id) h = told_running w run id (find (has_id id) w.sessions)
calls_run w run (calls.Watch time observer duration names) h =
    watch_running w run time observer duration names h.0 h.1 h.2 h.3
calls_run w run (calls.Report time name why) h = report_running w run time h.0 name h.1 why
