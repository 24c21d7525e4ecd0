use Rattle.std.proofs.Common.{◌≡◌, ◌∙◌}
use Rattle.std.specs.FinMap as fin
use Rattle.std.proofs.lemmas.Result.{IfOk-weaker}
use Rattle.row_key.specs.RowBytes.{FitRows}
use Rattle.row_check.specs.RowSessions.{sessions_in}
use Rattle.row_check.proofs.SessionLists.{sessions_same}
use Rattle.row_check.proofs.sessions.opened_sessions.Goals as goal

pub returns : goal.returns
returns c =
    IfOk-weaker c.sessions_in.result (λ found. (found.items ≡ sessions_in (fin.entries c.args.rows.now))
    × FitRows (fin.entries c.args.rows.now)) _ (λ found f. f.0 ∙ sessions_same c.args.rows.now f.1)
    c.sessions_in.ensures
