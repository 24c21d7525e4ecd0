use Rattle.std.proofs.Common.{◌∷◌, ◌++◌, [], sym, ap, ◌∙◌, length, subst}
use Rattle.call_turn.specs.Rule.{Kept, opener}
use Rattle.atomic_table.specs.Table.{opening}
use Rattle.call_turn.proofs.Ends.{opens}
use Rattle.call_turn.proofs.shared.Turn.open.Goals as goal

pub new-requires : goal.new-requires
new-requires g c =
    let history = g.O.OneThread.history in
    let start_of = g.O.OneThread.start in
    let o = c.of.result.value in
    let items = c.push_reserved.ensures.items ∙ (ap (λ l. l ++ c.args.object ∷ []) c.in-Ok-with_capacity.ensures.items ∙ ap (λ x. x ∷ []) (sym c.of.ensures)) in
    subst (λ xs. Kept history start_of c.args.lanes o (opening (0 ∷ 0 ∷ c.entries-entries.result ∷ []) xs (opener c.args.lanes (start_of o)))) (sym items)
    (opens history start_of c.args.lanes o c.entries-entries.result c.requires.0 (c.entries-entries.ensures ∙ ap (λ x. length (history x)) (sym c.of.ensures)))
