use Rattle.std.proofs.Common.{length}
use Rattle.boot_recover.proofs.windows.+push_moments.Given as goal

abbrev pub decreases-push_moments : goal.decreases-push_moments
decreases-push_moments l = length l.moments.now
