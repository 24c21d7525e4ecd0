use Rattle.std.proofs.Common.{length}
use Rattle.session_check.proofs.undone.+are_before.Given as goal

abbrev pub decreases-are_before : goal.decreases-are_before
decreases-are_before l = length l.parts.now
