use Rattle.std.proofs.Common.{Some, ap, sym, ◌∙◌, rules}
use Rattle.std.specs.FinMap as fin
use Rattle.row_map.specs.Rows.{RowMap, rows_of}
use Rattle.row_map.proofs.Entries.{get_seen, updated}
use Rattle.row_map.proofs.Maps.{same_rows, at_insert}
use Rattle.row_map.proofs.rows.Rows.put.Goals as goal

pub returns-in_err-insert-clause-absent : goal.returns-in_err-insert-clause-absent
returns-in_err-insert-clause-absent c =
    let none = ap (λ (m : RowMap). fin.get m c.args.key.items) (sym c.self.view_is)
    ∙ get_seen c.self.inside.map.entries c.args.key.items ∙ c.in_err-insert.ensures.absent in
    search (rules, none)

pub returns-clause-put : goal.returns-clause-put
returns-clause-put c =
    let u = c.in_ok-insert.ensures.updates in
    same_rows _ _ (λ q. updated c.self.inside.map.entries c.insert.new.self.entries c.args.key.items
    (Some c.args.value) u.1 u.3 q
    ∙ sym (at_insert (rows_of c.self.inside.map.entries) c.args.key.items c.args.value q))
    ∙ ap (λ (m : RowMap). fin.insert m c.args.key.items c.args.value) c.self.view_is
