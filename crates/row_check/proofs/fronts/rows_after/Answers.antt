use Rattle.std.proofs.Common.{◌≡◌, ◌∷◌, ◌++◌, [], List, ℕ, map, Some, None, sym, ap, subst, ◌∙◌}
use Rattle.std.specs.FinMap as fin
use Rattle.row_map.specs.Rows.{shown}
use Rattle.row_check.specs.declared.fronts.RowAfter.{RowAfter}
use Rattle.row_check.specs.RowFronts.{rest_after}
use Rattle.std.specs.Option.{option_map}
use Rattle.row_check.proofs.RowsWalked.{Left, starts, takes, ends, stops, map_more}
use Rattle.row_check.proofs.fronts.rows_after.Goals.{in-None, in-Some+in_default}
use Rattle.row_check.proofs.fronts.rows_after.Goals as goal

abbrev view : List RowAfter → List (List ℕ × List ℕ)
view rows = map (λ row. (row.key.now, row.value.now)) rows

pub loop-key-init : goal.loop-key-init
loop-key-init c =
    let all = fin.entries c.args.rows.now in
    subst (λ found. Left c.args.front.now all found (shown c.into_iter-key-iterator.result))
    (ap view (sym c.new-found.ensures.items))
    (subst (λ es. Left c.args.front.now all [] (shown es))
    (sym c.into_iter-key-iterator.ensures.into_iter_gives)
    (starts c.args.front.now c.args.rows.now c.by_key.result.now.entries c.range-key-items.result
    c.in_ok-start.start c.by_key.ensures (c.in_ok-start.ensures.items_if_clones_equal (λ x y e. e))
    (c.range-key-items.ensures.between tt)))

pub loop-key-preserved : goal.loop-key-preserved
loop-key-preserved c =
    let front = c.args.front.now in
    let all = fin.entries c.args.rows.now in
    let row : List ℕ × List ℕ = (c.in-Some.key.now.items, c.in-Some.value.now) in
    let l : Left front all (view c.loop-key.found.items) (row ∷ shown c.next.new.self) =
    subst (λ es. Left front all (view c.loop-key.found.items) (shown es)) c.in-Some.ensures.steps
    c.loop-key.invariant in
    let its : rest_after front row.0 ≡ Some c.in-Some-rest_after.key.now =
    ap (rest_after front) (sym c.as_slice.ensures.value) ∙ sym c.in-Some-rest_after.ensures in
    takes front all (view c.loop-key.found.items) row (shown c.next.new.self) l c.in-Some-rest_after.key.now
    (view c.push.new.self.items) its
    (ap view c.in_ok-push.ensures.items ∙ map_more (λ (row : RowAfter). (row.key.now, row.value.now)) c.loop-key.found.items _
    ∙ ap (λ (v : List ℕ). view c.loop-key.found.items ++ (c.in-Some-rest_after.key.now, v) ∷ []) c.as_slice-value.ensures)

pub returns : goal.returns
returns c =
    let front = c.args.front.now in
    let all = fin.entries c.args.rows.now in
    let found = view c.loop-key.found.items in
    elim c.match-next.branch [
      | in-None b ↦ ends front all found
          (subst (λ es. Left front all found (shown es)) b.in-None.ensures.steps.0 c.loop-key.invariant)
      | in-Some+in_default b ↦
          let row : List ℕ × List ℕ = (b.in-Some.key.now.items, b.in-Some.value.now) in
          let none : rest_after front row.0 ≡ None =
          ap (rest_after front) (sym b.as_slice.ensures.value) ∙ sym b.rest_after.ensures ∙ ap (option_map (λ rest. rest.now)) b.in_default.is in
          stops front all found row (shown c.next.new.self)
          (subst (λ es. Left front all found (shown es)) b.in-Some.ensures.steps c.loop-key.invariant) none
    ]
