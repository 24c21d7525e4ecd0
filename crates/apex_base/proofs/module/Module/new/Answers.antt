use Rattle.apex_base.proofs.Maps.{empty_module}
use Rattle.apex_base.proofs.module.Module.new.Goals as goal

pub invariant_of-result : goal.invariant_of-result
invariant_of-result c = record { ascending = c.new.ensures.ordered; whole = rw c.new.ensures.empty empty_module }
