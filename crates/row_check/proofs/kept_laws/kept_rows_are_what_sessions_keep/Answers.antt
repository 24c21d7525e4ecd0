use Rattle.row_check.proofs.KeptKeys.{kept_agrees, unkeyed_differs, kept_differs}
use Rattle.row_check.proofs.kept_laws.kept_rows_are_what_sessions_keep.Goals as goal

pub returns-clause-right : goal.returns-clause-right
returns-clause-right c = kept_agrees

pub returns-clause-no_key : goal.returns-clause-no_key
returns-clause-no_key c = unkeyed_differs

pub returns-clause-other : goal.returns-clause-other
returns-clause-other c = kept_differs
