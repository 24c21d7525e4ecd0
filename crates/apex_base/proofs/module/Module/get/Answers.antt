use Rattle.std.proofs.Common.{rules}
use Rattle.std.specs.FinMap.{gets}
use Rattle.apex_base.proofs.module.Module.get.Goals as goal

pub returns : goal.returns
returns c = grind (gets, rules)
