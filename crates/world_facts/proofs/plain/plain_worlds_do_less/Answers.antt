use Rattle.world_facts.proofs.facts.PlainLemmas.{success_plain, boot_world_plain, boot_reply_plain}
use Rattle.world_facts.proofs.plain.plain_worlds_do_less.Goals as goal

pub returns-clause-success : goal.returns-clause-success
returns-clause-success c = success_plain

pub returns-clause-world : goal.returns-clause-world
returns-clause-world c = boot_world_plain

pub returns-clause-reply : goal.returns-clause-reply
returns-clause-reply c = boot_reply_plain
