-- What can happen to a world.
use Rattle.std.specs.Prelude.{◌≡◌}
use Rattle.boot_recover.specs.Refused.{HasBootsLeft}
use Rattle.apex_world.specs.declared.calls.BootOrder.{BootOrder}
use Rattle.apex_world.specs.Fold.{Event, BootOf, CallOf}
use Rattle.apex_world.specs.Orders.{IsOrder}
use Rattle.apex_world.specs.World.{World}

-- the order is one of the world's scale, and the world hasn't had its last boot
pub record CanBoot (w : World) (order : BootOrder) : Type 0 where
  pub scale : order.scale ≡ w.scale
  pub is_order : IsOrder order
  pub left : HasBootsLeft w

-- a call can happen at any time
abbrev pub CanHappen : World → Event → Type 0
CanHappen w (BootOf boot) = CanBoot w boot.order
CanHappen w (CallOf call) = Unit {0}
