use Rattle.world_laws.proofs.runs.UsedIds.{ids_used_once, ids_used_once_from_boots}
use Rattle.world_laws.proofs.sessions.ids_are_used_once.Goals as goal

pub returns-clause-running : goal.returns-clause-running
returns-clause-running c = ids_used_once

pub returns-clause-boots : goal.returns-clause-boots
returns-clause-boots c = ids_used_once_from_boots
