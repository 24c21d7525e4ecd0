use Rattle.world_facts.proofs.facts.EmptyLemmas.{empty_lawful}
use Rattle.world_facts.proofs.decided.empty_world_is_lawful.Goals as goal

pub returns : goal.returns
returns c = empty_lawful
