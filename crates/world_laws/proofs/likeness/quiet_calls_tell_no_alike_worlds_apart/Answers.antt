use Rattle.world_laws.proofs.alike.AlikeLemmas.{quiet_alike}
use Rattle.world_laws.proofs.likeness.quiet_calls_tell_no_alike_worlds_apart.Goals as goal

pub returns : goal.returns
returns c = quiet_alike
