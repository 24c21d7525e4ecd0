use Rattle.row_check.proofs.NameRows.{active_agrees, active_differs, backup_agrees, backup_differs}
use Rattle.row_check.proofs.laws.names_have_what_sessions_give.Goals as goal

pub returns-clause-active : goal.returns-clause-active
returns-clause-active c = active_agrees

pub returns-clause-not_active : goal.returns-clause-not_active
returns-clause-not_active c = active_differs

pub returns-clause-backup : goal.returns-clause-backup
returns-clause-backup c = backup_agrees

pub returns-clause-not_backup : goal.returns-clause-not_backup
returns-clause-not_backup c = backup_differs
