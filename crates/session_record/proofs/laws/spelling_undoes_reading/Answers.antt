use Rattle.session_record.proofs.TookRecords.{read_is_spelled}
use Rattle.session_record.proofs.laws.spelling_undoes_reading.Goals as goal

pub returns : goal.returns
returns c = read_is_spelled
