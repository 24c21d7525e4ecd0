use Rattle.row_codec.proofs.Batches.{batch_again}
use Rattle.row_codec.proofs.laws.reading_undoes_spelling.Goals as goal

pub returns : goal.returns
returns c = batch_again
