use Rattle.world_laws.proofs.rows.DataWeightLemmas.{data_rows_weigh}
use Rattle.world_laws.proofs.row_laws.data_rows_weigh_the_data.Goals as goal

pub returns : goal.returns
returns c = λ w law name. data_rows_weigh name w law
