use Rattle.world_laws.proofs.alike.LikenessLaws.{calls_in_parts, boots_in_parts}
use Rattle.world_laws.proofs.likeness.worlds_of_the_same_parts_stay_so.Goals as goal

pub returns-clause-calls : goal.returns-clause-calls
returns-clause-calls c = calls_in_parts

pub returns-clause-boots : goal.returns-clause-boots
returns-clause-boots c = boots_in_parts
