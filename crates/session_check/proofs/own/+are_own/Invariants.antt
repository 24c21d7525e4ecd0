use Rattle.std.proofs.Common.{length}
use Rattle.session_check.proofs.own.+are_own.Given as goal

abbrev pub decreases-are_own : goal.decreases-are_own
decreases-are_own l = length l.parts.now
