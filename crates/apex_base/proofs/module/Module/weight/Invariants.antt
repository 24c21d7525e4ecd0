use Rattle.std.proofs.Common.{◌≡◌, ◌+◌, map, sum}
use Rattle.apex_base.specs.Modules.{file_weight, module_weight}
use Rattle.apex_base.proofs.module.Module.weight.Given as goal

-- the weight so far, and that of what is left
abbrev pub invariant-loop-content : goal.invariant-loop-content
invariant-loop-content l = l.weight + sum (map (λ f. file_weight f.1) l.content-iterator) ≡ module_weight l.self
