-- An order that a world can be booted with, from what its parts are: `order_of`, `an_order`.
use Rattle.std.proofs.Common.{IsTrue, arith}
use Rattle.apex_base.specs.Ranges.{IsMillis}
use Rattle.apex_base.specs.Text.{is_print}
use Rattle.apex_world.specs.declared.calls.BootOrder.{BootOrder}
use Rattle.world_laws.specs.Invariance.{IsOrderOf}
use Rattle.apex_world.specs.World.{World}
use Rattle.boot_recover.specs.Refused.{IsAnOrder}
use Rattle.device_play.specs.Events.{CanBoot}

pub order_of : (w : World) (order : BootOrder) → IsTrue (is_print order.image.print) → IsMillis order.time
    → CanBoot w order → IsOrderOf w order
order_of w order print time can =
    let left = can.left in
    record {
      scale = can.scale;
      is_order = can.is_order;
      print = print;
      time = time;
      number = omega (arith, left);
    }

-- and one whatever the rows
pub an_order : (w : World) (order : BootOrder) → IsTrue (is_print order.image.print) → IsMillis order.time
    → CanBoot w order → IsAnOrder order
an_order w order print time can = record { is_order = can.is_order; print = print; time = time }
