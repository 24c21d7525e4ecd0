use Rattle.std.proofs.Common.{rules, subst}
use Rattle.row_check.specs.WrongTags.{IsWrongTag}
use Rattle.row_check.proofs.WholeRows.{whole_rows}
use Rattle.row_check.proofs.opened.open_rows.Goals as goal

pub returns-in-None-clause-right : goal.returns-in-None-clause-right
returns-in-None-clause-right c =
    λ scale. whole_rows c.args.rows.now scale c.requires.keyed
    ((subst (IsWrongTag c.args.rows.now) c.in-None.is (search rules)) scale)
