use Rattle.world_facts.proofs.lawful.DecidedWorlds.{lawful_decides}
use Rattle.world_facts.proofs.decided.lawful_worlds_are_decided.Goals as goal

pub returns-clause-passes : goal.returns-clause-passes
returns-clause-passes c w law = (lawful_decides w).1 law

pub returns-clause-holds : goal.returns-clause-holds
returns-clause-holds c w passes = (lawful_decides w).0 passes
