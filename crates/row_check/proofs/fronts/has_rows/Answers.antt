use Rattle.std.proofs.Common.{◌≡◌, ◌≢◌, [], List, ℕ, Bool, true, false, sym, ap, subst, ◌∙◌}
use Rattle.std.specs.FinMap as fin
use Rattle.row_map.specs.Rows.{shown}
use Rattle.row_check.specs.RowFronts.{rest_after, rows_after}
use Rattle.row_check.proofs.RowsWalked.{Left, starts, ends, first_tells}
use Rattle.row_check.proofs.fronts.has_rows.Goals as goal

-- the first row from the front on tells
told : (c : goal.After-drop-start)
    → (c.is_some.result ≡ true → rows_after c.args.front.now (fin.entries c.args.rows.now) ≢ [])
    × (c.is_some.result ≡ false → rows_after c.args.front.now (fin.entries c.args.rows.now) ≡ [])
told c =
    let front = c.args.front.now in
    let all = fin.entries c.args.rows.now in
    let row : List ℕ × List ℕ = (c.in-Some.key.now.items, c.in-Some.field-0-1.now) in
    let left : Left front all [] (shown c.range.result) =
    starts front c.args.rows.now c.by_key.result.now.entries c.range.result c.in_ok-start.start c.by_key.ensures
    (c.in_ok-start.ensures.items_if_clones_equal (λ x y e. e)) (c.range.ensures.between tt) in
    subst (λ (b : Bool). (b ≡ true → rows_after front all ≢ []) × (b ≡ false → rows_after front all ≡ []))
    (sym c.is_some.ensures)
    (first_tells front all row (shown c.next.new.self) c.rest_after.result
    (subst (λ es. Left front all [] (shown es)) c.in-Some.ensures.steps left)
    (c.rest_after.ensures ∙ ap (rest_after front) c.as_slice.ensures.value))

pub returns-in-Some-clause-some : goal.returns-in-Some-clause-some
returns-in-Some-clause-some c = (told c).0

pub returns-in-Some-clause-none : goal.returns-in-Some-clause-none
returns-in-Some-clause-none c = (told c).1

pub returns-clause-none : goal.returns-clause-none
returns-clause-none c = λ e.
    let front = c.args.front.now in
    let all = fin.entries c.args.rows.now in
    let left : Left front all [] (shown c.range.result) =
    starts front c.args.rows.now c.by_key.result.now.entries c.range.result c.in_ok-start.start c.by_key.ensures
    (c.in_ok-start.ensures.items_if_clones_equal (λ x y e. e)) (c.range.ensures.between tt) in
    sym (ends front all [] (subst (λ es. Left front all [] (shown es)) c.in-None.ensures.steps.0 left))
