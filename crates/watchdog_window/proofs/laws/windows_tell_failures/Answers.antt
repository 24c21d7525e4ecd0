use Rattle.watchdog_window.proofs.Fives.{failures_told}
use Rattle.watchdog_window.proofs.laws.windows_tell_failures.Goals as goal

pub returns : goal.returns
returns c = failures_told
