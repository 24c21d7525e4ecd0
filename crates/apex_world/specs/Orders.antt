-- What a boot's order has to be: docs/boot.md, "Orders".
use Rattle.std.specs.Prelude.{◌≡◌, ◌≢◌, ◌≤◌, ℕ, length, Ok}
use Rattle.std.specs.List.{All, AllPairs}
use Rattle.apex_base.specs.declared.numbers.Scale.{Scale}
use Rattle.apex_base.specs.Numbers.{scale_modules}
use Rattle.apex_world.specs.declared.calls.BootOrder.{BootOrder}
use Rattle.apex_world.specs.declared.calls.Image.{Image}
use Rattle.apex_world.specs.declared.modules.Package.{Package}
use Rattle.apex_world.specs.declared.script.Script.{Script}
use Rattle.apex_world.specs.declared.script.ScriptBoot.{ScriptBoot}
use Rattle.apex_world.specs.Soundness.{manifest_in}

-- the module's manifest says its name and version
abbrev pub IsPackage : Package → Type 0
IsPackage m = manifest_in m.content ≡ Ok (record { name = m.name; version = m.version })

-- an image has each name once, no more modules than the scale allows, and each as its manifest says
pub record IsImage (scale : Scale) (image : Image) : Type 0 where
  pub names : AllPairs (λ m n. m.name ≢ n.name) image.modules
  pub count : length image.modules ≤ scale_modules scale
  pub manifests : All IsPackage image.modules

-- an order has such an image, and at most eight observers, each name once
pub record IsOrder (order : BootOrder) : Type 0 where
  pub image : IsImage order.scale order.image
  pub observers : AllPairs (λ a b. a.name ≢ b.name) order.observers
  pub few : length order.observers ≤ 8

-- a boot has 1 to 64 workers
pub record IsWorkers (workers : ℕ) : Type 0 where
  pub some : 1 ≤ workers
  pub few : workers ≤ 64

-- a boot of a script is at the script's scale
pub record IsOrdered (scale : Scale) (boot : ScriptBoot) : Type 0 where
  pub scaled : boot.order.scale ≡ scale
  pub order : IsOrder boot.order
  pub workers : IsWorkers boot.workers

abbrev pub HasOrders : Script → Type 0
HasOrders script = All (IsOrdered script.scale) script.boots
