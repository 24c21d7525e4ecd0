use Rattle.world_laws.proofs.rows.CallsSettle.{call_settles}
use Rattle.world_laws.proofs.rows_after.calls_settle_rows.Goals as goal

pub returns : goal.returns
returns c = λ w law call e after k i. call_settles w law call e k i
