use Rattle.world_laws.proofs.alike.AlikeLemmas.{in_parts, from_parts}
use Rattle.world_laws.proofs.likeness.alike_worlds_have_the_same_parts.Goals as goal

pub returns-clause-parts : goal.returns-clause-parts
returns-clause-parts c = in_parts

pub returns-clause-alike : goal.returns-clause-alike
returns-clause-alike c = from_parts
