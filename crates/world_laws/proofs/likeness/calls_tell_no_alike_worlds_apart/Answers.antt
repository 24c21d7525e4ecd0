use Rattle.world_laws.proofs.runs.CallsRun.{calls_run}
use Rattle.world_laws.proofs.alike.LikenessLaws.{calls_alike}
use Rattle.world_laws.proofs.likeness.calls_tell_no_alike_worlds_apart.Goals as goal

pub returns : goal.returns
returns c = calls_alike calls_run
