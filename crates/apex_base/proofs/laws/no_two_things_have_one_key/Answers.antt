use Rattle.apex_base.proofs.KeyLemmas.{same_key}
use Rattle.apex_base.proofs.laws.no_two_things_have_one_key.Goals as goal

pub returns : goal.returns
returns c = same_key
