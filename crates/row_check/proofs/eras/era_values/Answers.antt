use Rattle.row_check.proofs.EraParts.{are_eras}
use Rattle.row_check.proofs.eras.era_values.Goals as goal

pub returns-clause-eras : goal.returns-clause-eras
returns-clause-eras c =
    are_eras c.args.rows.now c.args.sessions.now c.args.boots c.new-values.result c.add_all.new.values
    c.add_all-2.new.values c.new-values.ensures c.in_ok-add_all.ensures c.in_ok-add_all-2.ensures
