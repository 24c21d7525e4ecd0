use Rattle.world_laws.proofs.meaning.RefusedLemmas.{refused_same}
use Rattle.world_laws.proofs.refusals.refusals_change_nothing.Goals as goal

pub returns : goal.returns
returns c = refused_same
