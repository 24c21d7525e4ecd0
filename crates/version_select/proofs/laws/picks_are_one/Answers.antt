use Rattle.version_select.proofs.OneList.{one_list}
use Rattle.version_select.proofs.laws.picks_are_one.Goals as goal

pub returns : goal.returns
returns c = one_list
