use Rattle.world_laws.proofs.meaning.RollbackDataLemmas.{rollback_data}
use Rattle.world_laws.proofs.rollback_data.rollbacks_bring_back_data.Goals as goal

pub returns : goal.returns
returns c = rollback_data
