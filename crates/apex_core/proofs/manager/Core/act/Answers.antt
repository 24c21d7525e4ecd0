use Rattle.apex_world.specs.Step.{step}
use Rattle.call_judge.specs.Prepared.{call_of}
use Rattle.apex_core.proofs.Performed.{by_answer}
use Rattle.apex_core.proofs.manager.Core.act.Goals as goal

pub invariant_of-self : goal.invariant_of-self
invariant_of-self c =
    let (w, s) = c.self.invariant in
    by_answer c.perform.result (c.perform.ensures.stands w s) (c.perform.ensures.stays w s)
    (λ stands. ((step w (call_of c.in-Some.call)).world, stands)) (λ stays. (w, stays))
