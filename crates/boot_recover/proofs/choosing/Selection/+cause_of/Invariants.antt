use Rattle.std.proofs.Common.{length}
use Rattle.boot_recover.proofs.choosing.Selection.+cause_of.Given as goal

abbrev pub decreases-cause_of : goal.decreases-cause_of
decreases-cause_of g l = length l.parts.now
