use Rattle.row_codec.proofs.Batches.{same_batch}
use Rattle.row_codec.proofs.laws.no_bytes_spell_two_batches.Goals as goal

pub returns : goal.returns
returns c = same_batch
