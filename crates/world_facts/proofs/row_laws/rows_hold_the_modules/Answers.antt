use Rattle.world_facts.proofs.facts.HeldModules.{rows_hold_module}
use Rattle.world_facts.proofs.row_laws.rows_hold_the_modules.Goals as goal

pub returns : goal.returns
returns c = rows_hold_module
