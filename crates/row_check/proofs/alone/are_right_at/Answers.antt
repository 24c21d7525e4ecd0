use Rattle.std.proofs.Common.{◌≡◌, false, ◌∷◌}
use Rattle.std.specs.FinMap as fin
use Rattle.row_map.specs.Rows.{shown}
use Rattle.row_check.specs.RightRows.{is_right_at, WrongRow}
use Rattle.row_key.specs.RowBytes.{FitRow}
use Rattle.row_check.proofs.AloneRows.{head_wrong}
use Rattle.row_check.proofs.alone.are_right_at.Goals as goal

pub returns-then-not-branch-clause-wrong : goal.returns-then-not-branch-clause-wrong
returns-then-not-branch-clause-wrong c =
    let key = c.in-Some.key.now.items in
    let value = c.in-Some.value.now in
    let step : c.loop-key.key-iterator ≡ (c.in-Some.key.now, value) ∷ c.next.new.self = c.in-Some.ensures.steps in
    let fit : FitRow (key, value) =
    rw (← c.as_slice.ensures.value, ← c.as_slice-in-loop-key.ensures) c.in_ok-is_right_at.ensures.fits in
    let wrong : false ≡ is_right_at c.args.tag key value =
    rw (← c.as_slice.ensures.value, ← c.as_slice-in-loop-key.ensures)
    (cc (c.in_ok-is_right_at.ensures.right, c.if-not-branch.true)) in
    let back : WrongRow c.args.tag ((key, value) ∷ shown c.next.new.self)
    → WrongRow c.args.tag (fin.entries c.args.rows.now) = rw step at c.loop-key.invariant.2 in
    λ e. back (head_wrong c.args.tag (key, value) (shown c.next.new.self) fit wrong)
