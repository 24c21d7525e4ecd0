use Rattle.std.proofs.Common.{refl}
use Rattle.device_play.proofs.Runs.{Stopped-none, ran_err, ran_one}
use Rattle.device_play.proofs.run.Run.play_boot.Goals as goal

pub enter_boot-requires-clause-can : goal.enter_boot-requires-clause-can
enter_boot-requires-clause-can g c = let (w, both) = c.requires.can in (w, (both.0, both.1.0))

pub returns-in_err-reply-clause-ran : goal.returns-in_err-reply-clause-ran
returns-in_err-reply-clause-ran g c =
    ran_err _ _ _ _ c.from_residual.ensures.0 (Stopped-none _ _ _ c.in_err-reply.ensures.no_turn refl)

pub returns-clause-ran : goal.returns-clause-ran
returns-clause-ran g c =
    ran_one _ _ _ _ c.in_ok-reply.ensures.turn (λ w is can. c.in_ok-reply.ensures.leads w is can)
    (λ w is can. rw (c.in_ok-reply.ensures.reply w is can) at c.boot_lines.ensures.put)
