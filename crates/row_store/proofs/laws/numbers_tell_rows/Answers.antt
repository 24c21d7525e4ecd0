use Rattle.row_store.proofs.Once.{told_new, told_old}
use Rattle.row_store.proofs.laws.numbers_tell_rows.Goals as goal

pub returns-clause-new : goal.returns-clause-new
returns-clause-new c = told_new c.rows_are_one.ensures.one

pub returns-clause-old : goal.returns-clause-old
returns-clause-old c = told_old c.rows_are_one.ensures.one
