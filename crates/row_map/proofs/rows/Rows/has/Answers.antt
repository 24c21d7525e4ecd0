use Rattle.std.proofs.Common.{ap, sym, ◌∙◌}
use Rattle.std.specs.Option.{is_some}
use Rattle.std.specs.FinMap as fin
use Rattle.row_map.specs.Rows.{RowMap}
use Rattle.row_map.proofs.Entries.{get_seen}
use Rattle.row_map.proofs.rows.Rows.has.Goals as goal

pub returns : goal.returns
returns c =
    c.contains_key.ensures ∙ ap is_some (sym (get_seen c.self.inside.map.entries c.args.key.now))
    ∙ ap (λ (m : RowMap). is_some (fin.get m c.args.key.now)) c.self.view_is
