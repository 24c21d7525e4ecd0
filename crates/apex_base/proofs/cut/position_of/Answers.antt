use Rattle.apex_base.proofs.Positions.{first_is_position}
use Rattle.apex_base.proofs.cut.position_of.Goals as goal

pub returns-clause-position : goal.returns-clause-position
returns-clause-position c = first_is_position _ _ _ c.memchr.ensures
