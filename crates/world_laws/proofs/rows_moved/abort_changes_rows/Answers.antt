use Rattle.world_laws.proofs.rows.AbortRows.{abort_rows}
use Rattle.world_laws.proofs.rows_moved.abort_changes_rows.Goals as goal

pub returns : goal.returns
returns c = abort_rows
