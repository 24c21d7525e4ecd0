use Rattle.std.proofs.Common.{rules}
use Rattle.std.specs.FinMap.{gets}
use Rattle.device_script.proofs.labels.Labels.get.Goals as goal

pub returns : goal.returns
returns c = grind (gets, rules)
