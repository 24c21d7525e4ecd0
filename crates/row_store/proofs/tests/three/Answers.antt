use Rattle.std.proofs.Common.{◌∷◌, [], ◌++◌, List, ap, ◌∙◌}
use Rattle.row_codec.specs.declared.batch.Row.{Row}
use Rattle.row_store.proofs.Batches.{three_rows}
use Rattle.row_store.proofs.tests.three.Goals as goal

pub returns : goal.returns
returns c =
    three_rows c.in_ok-row.field-0 c.in_ok-row-2.field-0 c.in_ok-row-3.field-0 _ _ _
    c.in_ok-row.ensures.key c.in_ok-row-2.ensures.key c.in_ok-row-3.ensures.key
    c.in_ok-row.ensures.row c.in_ok-row-2.ensures.row c.in_ok-row-3.ensures.row c.push-3.new.self.items
    (c.in_ok-push-3.ensures.items ∙ ap (λ (l : List Row). l ++ c.in_ok-row-3.field-0 ∷ [])
    (c.in_ok-push-2.ensures.items ∙ ap (λ (l : List Row). l ++ c.in_ok-row-2.field-0 ∷ [])
    (c.in_ok-push.ensures.items ∙ ap (λ (l : List Row). l ++ c.in_ok-row.field-0 ∷ []) c.new-rows.ensures.items)))
