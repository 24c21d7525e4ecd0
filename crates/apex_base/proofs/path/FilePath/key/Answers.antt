use Rattle.std.proofs.Common.{refl}
use Rattle.apex_base.specs.Text.{is_path}
use Rattle.apex_base.proofs.path.FilePath.key.Goals as goal

pub invariant_of-result : goal.invariant_of-result
unfolding is_path
invariant_of-result c = rw c.of.ensures refl
