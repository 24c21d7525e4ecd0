use Rattle.std.proofs.Common.{[], ◌∷◌}
use Rattle.apex_base.specs.Spelling.{target_text}
use Rattle.package_store.proofs.RowNotes.{on_ok, noted}
use Rattle.package_store.proofs.naming.add_active.Goals as goal

pub returns : goal.returns
returns c =
    on_ok c.put.result c.put.ensures
    (λ put. noted c.args.changes.now c.put.new.self c.in_ok-key.key.items (3 ∷ c.args.name.now) c.in_ok-value.value
    (target_text c.args.target []) put c.in_ok-key.ensures c.in_ok-value.ensures)
