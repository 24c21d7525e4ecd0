use Rattle.world_laws.proofs.rows.BootedRows.{booted_rows}
use Rattle.world_laws.proofs.rows_booted.boots_settle_rows.Goals as goal

pub returns : goal.returns
returns c = booted_rows
