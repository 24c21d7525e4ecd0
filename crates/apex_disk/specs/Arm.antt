-- A power cut that is set for a later write: docs/device.md, "Cutting the power".
use Rattle.std.specs.Prelude.{ℕ, ◌-◌, ◌==◌, Bool, true, false, if◌then◌else◌}
use Rattle.apex_disk.specs.declared.arm.Arm.{Arm}
use Rattle.apex_disk.specs.declared.arm.Arm.TheVariants.{Off, Set, Stopped}

-- a cut that is set replaces one that is waiting, and changes nothing once the power is off
abbrev pub armed : Arm → ℕ → ℕ → Arm
armed Off writes pick = Set writes pick
armed (Set left old) writes pick = Set writes pick
armed (Stopped old) writes pick = Stopped old

-- one more write was made
abbrev pub after_write : Arm → Arm
after_write Off = Off
after_write (Set left pick) = if left == 1 then Stopped pick else Set (left - 1) pick
after_write (Stopped pick) = Stopped pick

-- the power is off
abbrev pub has_stopped : Arm → Bool
has_stopped Off = false
has_stopped (Set left pick) = false
has_stopped (Stopped pick) = true

-- where no cut stopped a write, every byte is as new
abbrev pub pick_of : Arm → ℕ
pick_of Off = 1
pick_of (Set left pick) = 1
pick_of (Stopped pick) = pick
