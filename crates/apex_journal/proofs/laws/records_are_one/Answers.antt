use Rattle.apex_journal.proofs.Once.{opens_once}
use Rattle.apex_journal.proofs.laws.records_are_one.Goals as goal

pub returns : goal.returns
returns c = opens_once
