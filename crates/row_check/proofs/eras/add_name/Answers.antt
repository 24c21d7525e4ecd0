use Rattle.std.proofs.Common.{◌≡◌, [], ℕ, List, map, ◌<◌, ◌^◌, sym, ap, ◌∙◌, rules}
use Rattle.std.proofs.lemmas.List.{drop_all}
use Rattle.std.specs.FinMap as fin
use Rattle.std.specs.Option.{option_or}
use Rattle.row_check.specs.declared.fronts.RowAfter.{RowAfter}
use Rattle.row_check.specs.KeptRows.{era_key}
use Rattle.row_key.specs.Kept.{kept_text}
use Rattle.row_check.specs.RowFronts.{rows_after}
use Rattle.row_check.proofs.EraParts.{first_at, last_or, name_adds}
use Rattle.row_check.proofs.eras.add_name.Goals as goal

abbrev view : List RowAfter → List (List ℕ × List ℕ)
view rows = map (λ row. (row.key.now, row.value.now)) rows

pub returns : goal.returns
returns c = λ boot name key low.
    let m = c.args.source.now.rows.now in
    let tag = c.args.source.now.tag in
    let r = c.args.r.now in
    let own = c.args.name.now in
    let rows = c.as_slice-row-items.result.now in
    let front = c.in_ok-front.front.items in
    let q = era_key boot name key in
    let old = fin.get c.args.values.now q in
    let found : view rows ≡ rows_after (kept_text tag r.id own []) (fin.entries m) =
    ap view c.as_slice-row-items.ensures.value ∙ c.in_ok-rows_after.ensures
    ∙ ap (λ f. rows_after f (fin.entries m)) (c.as_slice.ensures.value ∙ c.in_ok-kept.ensures) in
    let low' : r.activation < 2 ^ 32 = search rules in
    last_or (fin.get c.loop-row.values q) _
    (ap (λ rows. option_or (fin.get c.loop-row.values q) (first_at front (view rows) q))
    (sym (drop_all c.loop-row.row-index rows c.loop-row-test.false)) ∙ c.loop-row.invariant q)
    ∙ ap (option_or old) (ap (λ rows. first_at front rows q) found
    ∙ ap (λ front. first_at front (rows_after (kept_text tag r.id own []) (fin.entries m)) q) c.in_ok-front.ensures
    ∙ name_adds m tag r.id r.activation own low' boot name key low)
