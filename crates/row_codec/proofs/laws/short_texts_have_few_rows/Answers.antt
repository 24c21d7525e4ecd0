use Rattle.row_codec.proofs.Batches.{few_rows}
use Rattle.row_codec.proofs.laws.short_texts_have_few_rows.Goals as goal

pub returns : goal.returns
returns c = few_rows
