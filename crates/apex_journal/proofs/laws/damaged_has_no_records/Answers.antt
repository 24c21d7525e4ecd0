use Rattle.apex_journal.proofs.Once.{opens_undamaged}
use Rattle.apex_journal.proofs.laws.damaged_has_no_records.Goals as goal

pub returns : goal.returns
returns c = opens_undamaged
