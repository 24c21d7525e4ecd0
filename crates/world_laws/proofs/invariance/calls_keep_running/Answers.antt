use Rattle.world_laws.proofs.runs.CallsRun.{calls_run}
use Rattle.world_laws.proofs.invariance.calls_keep_running.Goals as goal

pub returns : goal.returns
returns c = calls_run
