use Rattle.std.proofs.Common.{refl}
use Rattle.device_play.proofs.Runs.{Stopped-none, ran_one}
use Rattle.device_play.proofs.run.Run.play_call.Goals as goal

pub returns-in-Answered-clause-ran : goal.returns-in-Answered-clause-ran
returns-in-Answered-clause-ran g c =
    ran_one _ _ _ _ (rw c.in-Answered.is at c.enter_call.ensures.turn)
    (λ w is can. let leads = c.enter_call.ensures.leads w is in rw c.in-Answered.is at leads)
    (λ w is can.
    let says = c.enter_call.ensures.reply w is in
    let reply = rw c.in-Answered.is at says in
    rw reply at c.reply_line.ensures.put)

pub returns-clause-ran : goal.returns-clause-ran
returns-clause-ran g c =
    Stopped-none _ _ _ (rw c.in-NoMemory.is at c.enter_call.ensures.no_turn) refl
