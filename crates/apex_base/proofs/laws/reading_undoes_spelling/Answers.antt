use Rattle.apex_base.proofs.SpellingLemmas.{record_again}
use Rattle.apex_base.proofs.laws.reading_undoes_spelling.Goals as goal

pub returns : goal.returns
returns c = record_again
