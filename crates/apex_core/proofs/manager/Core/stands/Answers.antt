use Rattle.std.proofs.Common.{subst}
use Rattle.apex_world.specs.World.{World}
use Rattle.apex_core.specs.Core.{Kept}
use Rattle.call_judge.specs.Stands.{StandsFor}
use Rattle.apex_core.proofs.manager.Core.stands.Goals as goal

pub returns : goal.returns
returns c = subst (λ (core : Kept). (w : World) × StandsFor core.rows core.tables w) c.self.view_is c.self.invariant
