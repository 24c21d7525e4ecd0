use Rattle.std.proofs.Common.{ap, sym, ◌∙◌}
use Rattle.apex_base.proofs.Maps.{entries_of}
use Rattle.std.specs.FinMap as fin
use Rattle.apex_base.proofs.module.Module.files.Goals as goal

pub returns-clause-files : goal.returns-clause-files
returns-clause-files c = sym (ap fin.entries (sym c.self.view_is) ∙ entries_of _ c.self.invariant.ascending)
