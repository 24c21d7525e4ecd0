use Rattle.world_laws.proofs.rows.OpenedLemmas.{opened_lawful, opened_rows}
use Rattle.world_laws.proofs.row_laws.rows_open_to_their_world.Goals as goal

pub returns-clause-lawful : goal.returns-clause-lawful
returns-clause-lawful c = opened_lawful

pub returns-clause-rows : goal.returns-clause-rows
returns-clause-rows c = opened_rows
