use Rattle.world_laws.proofs.meaning.WholenessLemmas.{wholeness, one_active}
use Rattle.world_laws.proofs.wholeness.activated_sessions_are_whole.Goals as goal

pub returns : goal.returns
returns c = record { whole = wholeness; once = one_active }
