use Rattle.std.proofs.Common.{List, subst}
use Rattle.std.proofs.lemmas.List.{take_all}
use Rattle.apex_base.specs.declared.records.Record.{Record}
use Rattle.package_store.specs.Earlier.{AreEarlier}
use Rattle.package_store.proofs.earlier.EarlierTargets.of_all.Goals as goal

pub returns : goal.returns
returns c =
    subst (λ (rs : List Record). AreEarlier rs c.loop-r.earlier)
    (take_all c.loop-r.r-index c.args.records.now c.loop-r-test.false) c.loop-r.invariant
