use Rattle.device_play.proofs.Ordered.{an_order, order_of}
use Rattle.device_play.proofs.StoredKeys.{stored_keyed}
use Rattle.device_play.proofs.device.boot_stored.Goals as goal

pub boot-requires-clause-keyed : goal.boot-requires-clause-keyed
boot-requires-clause-keyed g c = λ κs within. let (w, both) = c.requires.can in stored_keyed c.args.rows w both.0

pub boot-requires-clause-order : goal.boot-requires-clause-order
boot-requires-clause-order g c = λ κs within.
    let (w, both) = c.requires.can in an_order w c.args.order.now c.known.ensures.print c.known.ensures.time both.1

pub returns-in-Ok-clause-reply : goal.returns-in-Ok-clause-reply
returns-in-Ok-clause-reply g c = λ w stored can.
    c.in-Ok.ensures.reply w stored (order_of w c.args.order.now c.known.ensures.print c.known.ensures.time can)

pub returns-in-Ok-clause-stands : goal.returns-in-Ok-clause-stands
returns-in-Ok-clause-stands g c = λ w stored can.
    c.in-Ok.ensures.stands w stored (order_of w c.args.order.now c.known.ensures.print c.known.ensures.time can)
