use Rattle.std.proofs.Common.{None, sym, ap, ◌∙◌}
use Rattle.std.specs.FinMap as fin
use Rattle.apex_base.proofs.RowMaps.{same_names}
use Rattle.package_store.specs.Spelled.{ChangeMap}
use Rattle.package_store.proofs.Maps.{at_remove, updated, from_seen}
use Rattle.package_store.proofs.changes.Changes.remove.Goals as goal

pub returns : goal.returns
returns c =
    let u = c.remove.ensures.updates in
    let before = from_seen c.self.inside.map.entries in
    same_names _ _ (λ q. updated c.self.inside.map.entries c.remove.new.self.entries c.args.key.now None u.1 u.3 q
    ∙ sym (at_remove before c.args.key.now q))
    ∙ ap (λ (m : ChangeMap). fin.remove m c.args.key.now) c.self.view_is
