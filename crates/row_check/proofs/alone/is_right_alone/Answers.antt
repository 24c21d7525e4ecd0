use Rattle.std.proofs.Common.{◌≡◌, true, false}
use Rattle.std.specs.FinMap as fin
use Rattle.std.proofs.lemmas.Result.{IfOk-weaker}
use Rattle.row_check.specs.RightRows.{are_right_at, WrongRow}
use Rattle.row_key.specs.RowBytes.{FitRows}
use Rattle.row_check.proofs.AloneRows.{agrees, differs}
use Rattle.row_check.proofs.alone.is_right_alone.Goals as goal

pub returns-clause-right : goal.returns-clause-right
returns-clause-right c =
    IfOk-weaker c.are_right_at.result (λ right. right ≡ true
    → FitRows (fin.entries c.args.rows.now) × (are_right_at c.args.tag (fin.entries c.args.rows.now) ≡ true)) _
    (λ right f e scale. agrees c.args.rows.now scale c.args.tag c.requires (f e).0 (f e).1) c.are_right_at.ensures.right

pub returns-clause-wrong : goal.returns-clause-wrong
returns-clause-wrong c =
    IfOk-weaker c.are_right_at.result (λ right. right ≡ false → WrongRow c.args.tag (fin.entries c.args.rows.now)) _
    (λ right f e scale. differs c.args.rows.now scale c.args.tag c.requires (f e)) c.are_right_at.ensures.wrong
