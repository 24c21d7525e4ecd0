use Rattle.std.proofs.Common.{◌≡◌, ◌≤◌, List, length, fold, take, ap, sym, subst, ◌∙◌}
use Rattle.std.proofs.lemmas.List.{take_all}
use Rattle.apex_base.specs.declared.records.Part.{Part}
use Rattle.package_store.specs.Earlier.{IsLast, with_earlier}
use Rattle.package_store.proofs.LastBefore.{all_parts}
use Rattle.package_store.proofs.earlier.EarlierTargets.add_session.Goals as goal

pub returns : goal.returns
returns c =
    let r = c.args.r.now in
    let parts : List Part = r.parts in
    let high : length parts ≤ c.loop-p.p-index = rw (sym c.as_slice-p-items.ensures) c.loop-p-test.false in
    let all : take c.loop-p.p-index parts ≡ parts = take_all c.loop-p.p-index parts high in
    λ limit name best last.
    subst (IsLast c.loop-p.self limit name)
    (ap (fold (with_earlier r.activation limit name) best) all ∙ all_parts r limit name best)
    (c.loop-p.invariant limit name best last)
