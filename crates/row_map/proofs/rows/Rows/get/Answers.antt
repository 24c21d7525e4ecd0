use Rattle.std.proofs.Common.{Some, ap, sym, ◌∙◌}
use Rattle.std.specs.FinMap as fin
use Rattle.row_map.specs.Rows.{RowMap}
use Rattle.row_map.proofs.Entries.{get_seen}
use Rattle.row_map.proofs.rows.Rows.get.Goals as goal

pub returns-in-Some : goal.returns-in-Some
returns-in-Some c =
    ap Some c.as_slice.ensures ∙ c.in-Some.ensures.value ∙ sym (get_seen c.self.inside.map.entries c.args.key.now)
    ∙ ap (λ (m : RowMap). fin.get m c.args.key.now) c.self.view_is

pub returns-in-None : goal.returns-in-None
returns-in-None c =
    c.in-None.ensures.value ∙ sym (get_seen c.self.inside.map.entries c.args.key.now)
    ∙ ap (λ (m : RowMap). fin.get m c.args.key.now) c.self.view_is
