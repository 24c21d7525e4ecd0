use Rattle.std.proofs.Common.{ap, sym, subst}
use Rattle.apex_world.specs.declared.turns.Shown.TheVariants.{Booted}
use Rattle.apex_world.specs.Fold.{BootOf, turned_by}
use Rattle.device_play.specs.Device.{IsDeviceOf}
use Rattle.device_play.proofs.run.Run.enter_boot.Goals as goal

pub returns-clause-reply : goal.returns-clause-reply
returns-clause-reply c = λ w is can. rw c.as_slice.ensures at (ap Booted (c.in_ok-reply.ensures.reply w is can))

pub returns-clause-leads : goal.returns-clause-leads
returns-clause-leads c = λ w is can.
    subst (λ d. IsDeviceOf d (turned_by w (BootOf c.args.boot.now)).world) (sym c.enter_turn.ensures.device)
    (rw c.as_slice.ensures at (c.in_ok-reply.ensures.leads w is can))
