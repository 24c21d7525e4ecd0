use Rattle.std.proofs.Common.{rules, subst}
use Rattle.std.specs.FinMap.{gets}
use Rattle.apex_base.specs.Modules.{IsModule}
use Rattle.apex_base.proofs.Maps.{less_module, same_files}
use Rattle.std.specs.FinMap as fin
use Rattle.apex_base.proofs.module.Module.remove.Goals as goal

pub invariant_of-self : goal.invariant_of-self
invariant_of-self c = record {
  ascending = c.remove.ensures.ordered;
  whole = subst IsModule {x = fin.remove (fin.from_entries c.self.inside.files.entries) c.args.path.now}
      (same_files _ _ (λ q. grind (gets, rules))) (less_module _ c.args.path.now c.self.invariant.whole);
}

pub returns-clause-removed : goal.returns-clause-removed
returns-clause-removed c = same_files _ _ (λ q. grind (gets, rules))

pub returns-clause-found : goal.returns-clause-found
returns-clause-found c = grind (gets, rules)
