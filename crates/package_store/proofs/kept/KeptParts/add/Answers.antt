use Rattle.std.proofs.Common.{◌||◌, ap, sym, ◌∙◌}
use Rattle.apex_base.specs.Held.{is_module}
use Rattle.apex_base.specs.declared.records.Target.{Target}
use Rattle.package_store.specs.Keeping.{has_part}
use Rattle.package_store.proofs.KeptModules.{part_noted}
use Rattle.package_store.proofs.kept.KeptParts.add.Goals as goal

pub returns-in_ok-insert : goal.returns-in_ok-insert
returns-in_ok-insert c = λ session part.
    c.in_ok-insert.ensures.updates.0 (session.0, part)
    ∙ part_noted c.in-Module.session c.in-Module.part c.in-Module.version session part
    (has_part c.args.self.now session part)
    ∙ ap (λ (t : Target). is_module session part t || has_part c.args.self.now session part) (sym c.in-Module.is)
