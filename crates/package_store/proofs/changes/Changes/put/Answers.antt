use Rattle.std.proofs.Common.{Some, sym, ap, ◌∙◌}
use Rattle.std.specs.FinMap as fin
use Rattle.apex_base.proofs.RowMaps.{same_names}
use Rattle.package_store.specs.Spelled.{ChangeMap}
use Rattle.package_store.proofs.Maps.{at_insert, updated, from_seen}
use Rattle.package_store.proofs.changes.Changes.put.Goals as goal

pub returns : goal.returns
returns c =
    let u = c.in_ok-insert.ensures.updates in
    let before = from_seen c.self.inside.map.entries in
    same_names _ _ (λ q. updated c.self.inside.map.entries c.insert.new.self.entries c.args.key.items
    (Some c.args.value) u.1 u.3 q
    ∙ sym (at_insert before c.args.key.items c.args.value q))
    ∙ ap (λ (m : ChangeMap). fin.insert m c.args.key.items c.args.value) c.self.view_is
