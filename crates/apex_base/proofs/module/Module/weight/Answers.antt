use Rattle.std.proofs.Common.{◌≤◌, arith, rules}
use Rattle.apex_base.specs.Modules.{module_weight}
use Rattle.apex_base.proofs.Maps.{weight_below}
use Rattle.apex_base.proofs.module.Module.weight.Goals as goal

pub overflow_add-weight-in-loop-content : goal.overflow_add-weight-in-loop-content
overflow_add-weight-in-loop-content c =
    let most : module_weight c.args.self.now ≤ 67125248 =
    rw c.files-content-items.ensures.files at (weight_below _ c.files-content-items.ensures.holds) in
    grind (arith, rules, c.loop-content.invariant, most)

pub returns-clause-small : goal.returns-clause-small
returns-clause-small c =
    let most : module_weight c.args.self.now ≤ 67125248 =
    rw c.files-content-items.ensures.files at (weight_below _ c.files-content-items.ensures.holds) in
    grind (arith, rules, c.loop-content.invariant, most)
