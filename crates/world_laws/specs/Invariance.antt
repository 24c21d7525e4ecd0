-- Boots and calls keep worlds lawful: docs/rows.md, "Lawful worlds".
use Rattle.std.specs.Prelude.{◌≡◌, ℕ, ◌+◌, ◌<◌, ◌^◌, IsTrue, List}
use Rattle.apex_base.specs.Members.{In}
use Rattle.apex_base.specs.Modules.{FileMap, IsModule}
use Rattle.apex_base.specs.Ranges.{IsMillis}
use Rattle.apex_base.specs.Text.{is_name, is_print}
use Rattle.apex_world.specs.declared.calls.BootOrder.{BootOrder}
use Rattle.apex_world.specs.declared.calls.Call.{Call}
use Rattle.apex_world.specs.declared.calls.Call.TheVariants as calls
use Rattle.apex_world.specs.Boot.{boot_world}
use Rattle.apex_world.specs.Lawful.{Lawful}
use Rattle.apex_world.specs.Orders.{IsOrder}
use Rattle.apex_world.specs.Running.{Running}
use Rattle.apex_world.specs.Selection.{Mounts}
use Rattle.apex_world.specs.Step.{step}
use Rattle.apex_world.specs.World.{World, boots}

-- a call's values are within the ranges of their types
abbrev pub IsCall : Call → Type 0
IsCall (calls.Submit id children rollback parts) = (m : FileMap) → In m parts → IsModule m
IsCall (calls.Ready id) = Unit {0}
IsCall (calls.Abort id) = Unit {0}
IsCall (calls.Success time id) = IsMillis time
IsCall calls.Revert = Unit {0}
IsCall (calls.Commit id) = Unit {0}
IsCall (calls.Put name key value) = IsTrue (is_name name) × IsTrue (is_name key)
IsCall (calls.Drop name key) = Unit {0}
IsCall (calls.Get name key) = Unit {0}
IsCall (calls.StateOf id) = Unit {0}
IsCall (calls.Watch time observer duration names) =
    IsMillis time × IsTrue (is_name observer) × IsMillis duration
    × ((name : List ℕ) → In name names → IsTrue (is_name name))
IsCall (calls.Report time name why) = IsMillis time × IsTrue (is_name name)

-- an order that a world can be booted with
pub record IsOrderOf (w : World) (order : BootOrder) : Type 0 where
  pub scale : order.scale ≡ w.scale
  pub is_order : IsOrder order
  pub print : IsTrue (is_print order.image.print)
  pub time : IsMillis order.time
  pub number : boots w + 1 < 2 ^ 32

abbrev pub BootsLeadToRunning : Type 0
BootsLeadToRunning =
    (w : World) → Lawful w → (order : BootOrder) → IsOrderOf w order → (mounts : Mounts)
    → Running (boot_world w order mounts)

abbrev pub CallsKeepRunning : Type 0
CallsKeepRunning = (w : World) → Running w → (call : Call) → IsCall call → Running (step w call).world
