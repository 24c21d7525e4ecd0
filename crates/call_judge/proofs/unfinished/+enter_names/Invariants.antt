use Rattle.std.proofs.Common.{length}
use Rattle.call_judge.proofs.unfinished.+enter_names.Given as goal

abbrev pub decreases-enter_names : goal.decreases-enter_names
decreases-enter_names l = length l.parts.now
