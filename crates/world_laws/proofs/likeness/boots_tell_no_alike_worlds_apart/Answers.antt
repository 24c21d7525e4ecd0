use Rattle.world_laws.proofs.runs.BootLoops.{boots_running}
use Rattle.world_laws.proofs.alike.LikenessLaws.{boots_alike}
use Rattle.world_laws.proofs.likeness.boots_tell_no_alike_worlds_apart.Goals as goal

pub returns : goal.returns
returns c = boots_alike boots_running
