use Rattle.world_facts.proofs.facts.PlainLemmas.{move_plain, submit_plain, boot_plain}
use Rattle.world_facts.proofs.plain.plain_worlds_stay_plain.Goals as goal

pub returns-clause-boots : goal.returns-clause-boots
returns-clause-boots c = boot_plain

pub returns-clause-moves : goal.returns-clause-moves
returns-clause-moves c = move_plain

pub returns-clause-submits : goal.returns-clause-submits
returns-clause-submits c = submit_plain
