use Rattle.world_laws.proofs.rows.ReadyRows.{ready_rows}
use Rattle.world_laws.proofs.rows_moved.ready_changes_rows.Goals as goal

pub returns : goal.returns
returns c = ready_rows
