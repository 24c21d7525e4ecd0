use Rattle.row_store.proofs.Once.{one_held, not_both, one_place}
use Rattle.row_store.proofs.laws.rows_are_one.Goals as goal

pub returns-clause-one : goal.returns-clause-one
returns-clause-one c = one_held c.records_are_one.ensures

pub returns-clause-not_bad : goal.returns-clause-not_bad
returns-clause-not_bad c = not_both c.records_are_one.ensures

pub returns-clause-one_bad : goal.returns-clause-one_bad
returns-clause-one_bad c = one_place c.records_are_one.ensures
