use Rattle.std.proofs.Common.{sym, subst}
use Rattle.row_check.specs.SettledTags.{Tells}
use Rattle.row_check.proofs.SessionCounts.{sessions_told}
use Rattle.row_check.proofs.sessions.are_right_sessions.Goals as goal

pub returns : goal.returns
returns c =
    subst (Tells c.args.rows.now 2) (sym c.are_enough.ensures.enough)
    (sessions_told c.args.rows.now c.args.sessions.now c.are_enough.ensures.fits c.requires)
