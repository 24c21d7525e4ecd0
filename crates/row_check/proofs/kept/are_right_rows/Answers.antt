use Rattle.std.proofs.Common.{◌≡◌, false, ◌∷◌, refl, inl, sym, subst}
use Rattle.std.specs.FinMap as fin
use Rattle.row_map.specs.Rows.{shown}
use Rattle.row_check.specs.RightKept.{is_right_row, WrongRow}
use Rattle.row_key.specs.RowBytes.{FitBytes}
use Rattle.row_check.proofs.kept.are_right_rows.Goals as goal

pub returns-then-not-branch-clause-wrong : goal.returns-then-not-branch-clause-wrong
returns-then-not-branch-clause-wrong c =
    let opening = c.args.opening.now in
    let key = c.in-Some.key.now.items in
    let value = c.in-Some.value.now in
    let step : c.loop-key.key-iterator ≡ (c.in-Some.key.now, value) ∷ c.next.new.self = c.in-Some.ensures.steps in
    let wrong : false ≡ is_right_row opening.sessions.now opening.values.now opening.tag key value =
    rw (← c.as_slice.ensures.value, ← c.as_slice-in-loop-key.ensures) (cc (c.in_ok-is_right_row.ensures.right, c.if-not-branch.true)) in
    let fits : FitBytes key = subst FitBytes c.as_slice.ensures.value c.is_right_row.ensures.fits in
    let back : WrongRow opening.sessions.now opening.values.now opening.tag ((key, value) ∷ shown c.next.new.self)
    → WrongRow opening.sessions.now opening.values.now opening.tag (fin.entries opening.rows.now) =
    rw step at c.loop-key.invariant.wrong in
    λ e. back (record { row = (key, value); member = inl refl; fits = fits; wrong = sym wrong })
