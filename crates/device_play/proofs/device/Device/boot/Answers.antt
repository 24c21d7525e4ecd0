use Rattle.std.proofs.Common.{sym, subst}
use Rattle.device_play.specs.Device.{IsDeviceOf}
use Rattle.device_play.proofs.device.Device.boot.Goals as goal

pub boot_stored-requires-clause-can : goal.boot_stored-requires-clause-can
boot_stored-requires-clause-can g c = λ κs within.
    let (w, both) = c.requires.can in
    (w, (c.into_rows-rows.ensures w (subst (λ d. IsDeviceOf d w) (sym c.replace.ensures.value) both.0), both.1))

pub returns-clause-reply : goal.returns-clause-reply
returns-clause-reply g c = λ w is can.
    c.in_ok-core.ensures.reply w
    (c.into_rows-rows.ensures w (subst (λ d. IsDeviceOf d w) (sym c.replace.ensures.value) is)) can

pub returns-clause-leads : goal.returns-clause-leads
returns-clause-leads g c = λ w is can.
    c.in_ok-core.ensures.stands w
    (c.into_rows-rows.ensures w (subst (λ d. IsDeviceOf d w) (sym c.replace.ensures.value) is)) can
