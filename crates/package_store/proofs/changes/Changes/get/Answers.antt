use Rattle.std.proofs.Common.{rules, ap, sym, ◌∙◌}
use Rattle.std.specs.FinMap as fin
use Rattle.package_store.specs.Spelled.{ChangeMap}
use Rattle.package_store.proofs.Maps.{get_seen}
use Rattle.package_store.proofs.changes.Changes.get.Goals as goal

pub returns-in-Some-Some : goal.returns-in-Some-Some
returns-in-Some-Some c =
    let there = sym (get_seen c.self.inside.map.entries c.args.key.now)
    ∙ ap (λ (m : ChangeMap). fin.get m c.args.key.now) c.self.view_is in
    grind (rules, there)

pub returns-in-Some-None : goal.returns-in-Some-None
returns-in-Some-None c =
    let there = sym (get_seen c.self.inside.map.entries c.args.key.now)
    ∙ ap (λ (m : ChangeMap). fin.get m c.args.key.now) c.self.view_is in
    grind (rules, there)

pub returns-in-None : goal.returns-in-None
returns-in-None c =
    c.in-None.ensures.value ∙ sym (get_seen c.self.inside.map.entries c.args.key.now)
    ∙ ap (λ (m : ChangeMap). fin.get m c.args.key.now) c.self.view_is
