use Rattle.std.proofs.Common.{None, ap, sym, ◌∙◌}
use Rattle.std.specs.FinMap as fin
use Rattle.row_map.specs.Rows.{RowMap, rows_of}
use Rattle.row_map.proofs.Entries.{updated}
use Rattle.row_map.proofs.Maps.{same_rows, at_remove}
use Rattle.row_map.proofs.rows.Rows.remove.Goals as goal

pub returns : goal.returns
returns c =
    let u = c.remove.ensures.updates in
    same_rows _ _ (λ q. updated c.self.inside.map.entries c.remove.new.self.entries c.args.key.now None u.1 u.3 q
    ∙ sym (at_remove (rows_of c.self.inside.map.entries) c.args.key.now q))
    ∙ ap (λ (m : RowMap). fin.remove m c.args.key.now) c.self.view_is
