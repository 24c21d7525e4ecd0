use Rattle.std.proofs.Common.{◌≡◌, drop}
use Rattle.row_check.specs.RightKept.{have_kept}
use Rattle.row_check.proofs.kept.have_kept.Given as goal

-- all have it where the rest do
abbrev pub invariant-loop-r : goal.invariant-loop-r
invariant-loop-r l =
    have_kept l.opening.sessions.now l.opening.values.now l.opening.tag l.opening.rows.now
    (drop l.r-index l.opening.sessions.now)
    ≡ have_kept l.opening.sessions.now l.opening.values.now l.opening.tag l.opening.rows.now l.opening.sessions.now
