use Rattle.world_facts.proofs.facts.RowWeightLemmas.{file_rows_weigh}
use Rattle.world_facts.proofs.row_laws.file_rows_weigh_the_modules.Goals as goal

pub returns : goal.returns
returns c = file_rows_weigh
