use Rattle.world_laws.proofs.rows.SuccessRows.{success_rows}
use Rattle.world_laws.proofs.rows_moved.success_changes_rows.Goals as goal

pub returns : goal.returns
returns c = success_rows
