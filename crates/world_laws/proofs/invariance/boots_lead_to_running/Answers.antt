use Rattle.world_laws.proofs.runs.BootLoops.{boots_running}
use Rattle.world_laws.proofs.invariance.boots_lead_to_running.Goals as goal

pub returns : goal.returns
returns c = boots_running
