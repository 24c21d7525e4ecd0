use Rattle.apex_world.proofs.ShortForms.{short_said, short_sound}
use Rattle.apex_world.proofs.modules.short_says.Goals as goal

pub returns-clause-manifest : goal.returns-clause-manifest
returns-clause-manifest c = short_said c.args.name.now c.args.version c.as_bytes.ensures.name c.number.ensures.range

pub returns-clause-checked : goal.returns-clause-checked
returns-clause-checked c = short_sound c.args.name.now c.args.version c.as_bytes.ensures.name c.number.ensures.range
