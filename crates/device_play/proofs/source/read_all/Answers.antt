use Rattle.std.proofs.Common.{arith}
use Rattle.device_play.proofs.Sources.{TakesAtMost-more, err_as}
use Rattle.device_play.proofs.source.read_all.Goals as goal

pub returns-in-Err-clause-few : goal.returns-in-Err-clause-few
returns-in-Err-clause-few g c = λ other. TakesAtMost-more _ _ _ _ _ _ c.loop-text.invariant.moved
    (c.in-Err.ensures.few (λ e. other (err_as _ _ e))) (omega arith)
