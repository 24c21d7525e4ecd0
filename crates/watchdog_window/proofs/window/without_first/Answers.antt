use Rattle.watchdog_window.proofs.Slices.{without_parts}
use Rattle.watchdog_window.proofs.window.without_first.Goals as goal

pub returns : goal.returns
returns c =
    without_parts c.args.count c.min-first.result c.min-second.result c.args.front.now c.args.back.now c.min-first.ensures
    c.min-second.ensures
