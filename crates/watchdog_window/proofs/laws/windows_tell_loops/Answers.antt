use Rattle.watchdog_window.proofs.Fives.{loops_told}
use Rattle.watchdog_window.proofs.laws.windows_tell_loops.Goals as goal

pub returns : goal.returns
returns c = loops_told
