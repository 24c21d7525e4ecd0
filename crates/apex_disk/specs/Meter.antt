-- Which calls of a disk in memory fail.
use Rattle.std.specs.Prelude.{ℕ, ◌+◌, ◌-◌, ◌^◌, ◌==◌, ◌||◌, min, Bool, if◌then◌else◌}
use Rattle.std.specs.List.{list_any}
use Rattle.apex_disk.specs.declared.meter.Meter.{Meter}
use Rattle.apex_disk.specs.Arm.{after_write, has_stopped}

-- one more, or the last number
abbrev pub next : ℕ → ℕ
next n = min (n + 1) (2 ^ 64 - 1)

-- the call that comes next fails: its number is listed, or the power is off
abbrev pub refuses : Meter → Bool
refuses meter = list_any (λ n. n == next meter.calls) meter.fails.items || has_stopped meter.arm

-- a call was made
abbrev pub called : Meter → Meter
called meter = record meter {
  calls = next meter.calls;
  faults = if refuses meter then next meter.faults else meter.faults;
}

-- a write was handed over, and fails where the power went off in it
abbrev pub handed_over : Meter → Meter
handed_over meter = record meter {
  arm = after_write meter.arm;
  faults = if has_stopped (after_write meter.arm) then next meter.faults else meter.faults;
}
