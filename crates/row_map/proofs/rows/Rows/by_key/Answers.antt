use Rattle.std.proofs.Common.{ap, sym, ◌∙◌}
use Rattle.std.specs.FinMap as fin
use Rattle.apex_base.proofs.Maps.{entries_of}
use Rattle.row_map.specs.Rows.{shown}
use Rattle.row_map.proofs.Entries.{ascending}
use Rattle.row_map.proofs.rows.Rows.by_key.Goals as goal

pub returns : goal.returns
returns c =
    ap fin.entries (sym c.self.view_is)
    ∙ entries_of (shown c.self.inside.map.entries) (ascending c.self.inside.map.entries c.len.ensures.ordered)
