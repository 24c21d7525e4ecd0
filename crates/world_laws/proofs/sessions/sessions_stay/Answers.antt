use Rattle.world_laws.proofs.meaning.BootFollows.{boot_follows}
use Rattle.world_laws.proofs.meaning.CallStays.{call_follows}
use Rattle.world_laws.proofs.sessions.sessions_stay.Goals as goal

pub returns-clause-calls : goal.returns-clause-calls
returns-clause-calls c w law call = call_follows w law.ids law.undone call

pub returns-clause-boots : goal.returns-clause-boots
returns-clause-boots c w law order mounts = boot_follows w law.ids law.undone order mounts
