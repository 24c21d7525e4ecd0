use Rattle.row_codec.proofs.Batches.{batch_takes}
use Rattle.row_codec.proofs.laws.spelling_undoes_reading.Goals as goal

pub returns : goal.returns
returns c = batch_takes
