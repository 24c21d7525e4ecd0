use Rattle.world_laws.proofs.alike.StoredAlikeLemmas.{rows_agree, stored_alike}
use Rattle.world_laws.proofs.row_laws.same_rows_store_the_same.Goals as goal

pub returns-clause-stored : goal.returns-clause-stored
returns-clause-stored c = stored_alike

pub returns-clause-rows : goal.returns-clause-rows
returns-clause-rows c = λ w v law law' a. rows_agree w v a law law'
