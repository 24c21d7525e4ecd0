use Rattle.std.proofs.Common.{sym}
use Rattle.package_store.specs.Earlier.{best_before}
use Rattle.package_store.proofs.LastBefore.{no_targets, last_none, last_some}
use Rattle.package_store.proofs.earlier.EarlierTargets.before.Goals as goal

pub returns-in_default : goal.returns-in_default
returns-in_default c =
    let limit = c.args.x.now.activation in
    let name = c.args.name.now in
    λ records are. no_targets c.args.self.now limit name (sym c.in_default.ensures.value)
    (best_before records limit name) (are limit name)

pub returns-in-Some-next_back : goal.returns-in-Some-next_back
returns-in-Some-next_back c =
    let limit = c.args.x.now.activation in
    let name = c.args.name.now in
    λ records are.
    last_some c.args.self.now limit name c.in-Some.targets.now (sym c.in-Some.ensures.value) c.range.result
    (c.range.ensures.in_range tt) (c.in-Some-next_back.field-0-0.now, c.in-Some-next_back.target.now)
    c.next_back.new.self c.in-Some-next_back.ensures.steps (best_before records limit name) (are limit name)

pub returns-in-None : goal.returns-in-None
returns-in-None c =
    let limit = c.args.x.now.activation in
    let name = c.args.name.now in
    λ records are.
    last_none c.args.self.now limit name c.in-Some.targets.now (sym c.in-Some.ensures.value) c.range.result
    (c.range.ensures.in_range tt) c.in-None.ensures.steps.0 (best_before records limit name) (are limit name)
