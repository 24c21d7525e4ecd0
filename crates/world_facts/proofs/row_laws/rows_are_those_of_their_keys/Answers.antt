use Rattle.apex_base.proofs.RowMaps.{rows_found}
use Rattle.world_facts.proofs.facts.WorldRows.{world_keys, world_row}
use Rattle.apex_world.specs.Rows.{row_at, row_keys}
use Rattle.world_facts.proofs.row_laws.rows_are_those_of_their_keys.Goals as goal

pub returns-clause-values : goal.returns-clause-values
returns-clause-values c = world_row

pub returns-clause-keys : goal.returns-clause-keys
returns-clause-keys c = λ w law. rows_found (row_keys w) (row_at w) (world_keys w law)
