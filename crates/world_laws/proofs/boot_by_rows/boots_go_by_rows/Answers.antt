use Rattle.world_laws.proofs.rows.QuietBoots.{boots_by_rows}
use Rattle.world_laws.proofs.boot_by_rows.boots_go_by_rows.Goals as goal

pub returns : goal.returns
returns c = boots_by_rows
