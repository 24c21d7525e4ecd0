use Rattle.std.proofs.Common.{length}
use Rattle.session_check.proofs.undone.+are_rollback_ids.Given as goal

abbrev pub decreases-are_rollback_ids : goal.decreases-are_rollback_ids
decreases-are_rollback_ids l = length l.ids.now
