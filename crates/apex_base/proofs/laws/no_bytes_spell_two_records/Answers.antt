use Rattle.apex_base.proofs.SpellingLemmas.{same_record}
use Rattle.apex_base.proofs.laws.no_bytes_spell_two_records.Goals as goal

pub returns : goal.returns
returns c = same_record
