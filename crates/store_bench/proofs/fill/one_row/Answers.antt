use Rattle.std.proofs.Common.{◌∷◌, [], ◌++◌, List, Some, ap, ◌∙◌, rules}
use Rattle.row_codec.specs.declared.batch.Row.{Row}
use Rattle.row_codec.specs.Batch.{IsRow}
use Rattle.row_store.proofs.Batches.{one_row}
use Rattle.store_bench.proofs.fill.one_row.Goals as goal

pub returns : goal.returns
returns c =
    let r : Row = record { key = c.of-key.result; value = Some c.of.result } in
    let is_row : IsRow r = search rules in
    one_row r is_row c.push.new.self.items (c.in_ok-push.ensures.items
    ∙ ap (λ (l : List Row). l ++ r ∷ []) c.new-rows.ensures.items)
