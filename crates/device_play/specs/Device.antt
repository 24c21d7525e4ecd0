-- Which worlds a device may be of: docs/rows.md, "A core".
use Rattle.call_judge.specs.Stands.{StandsFor}
use Rattle.stored_world.specs.Stored.{IsStored}
use Rattle.apex_world.specs.World.{World}
use Rattle.device_play.specs.declared.device.Device.{Device}
use Rattle.device_play.specs.declared.device.Device.TheVariants.{Off, On}

-- it runs this world, or its rows are those of it
abbrev pub IsDeviceOf : Device → World → Type 0
IsDeviceOf (Off rows) w = IsStored rows w
IsDeviceOf (On core) w = StandsFor core.rows core.tables w

abbrev pub IsOn : Device → Type 0
IsOn (Off rows) = ⊥
IsOn (On core) = Unit {0}
