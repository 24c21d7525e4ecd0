use Rattle.std.proofs.Common.{length, sym, ap, ◌∙◌}
use Rattle.std.specs.FinMap.{len-entries}
use Rattle.apex_base.proofs.module.Module.len.Goals as goal

pub returns : goal.returns
returns c = c.len.ensures.len ∙ ap length c.files.ensures.files ∙ sym (len-entries c.args.self.now)
