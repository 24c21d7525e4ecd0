-- Numbers with a range, and the scales: docs/formats/script.md, "Scales".
use Rattle.std.specs.Prelude.{ℕ, ◌&&◌, ◌==◌, nat_le, Option, Some, None, if◌then◌else◌}
use Rattle.apex_base.specs.declared.numbers.Scale.{Scale}
use Rattle.apex_base.specs.declared.numbers.Scale.TheVariants.{Small, Standard}

-- a version is 1 to 9223372036854775807
abbrev pub version_of : ℕ → Option ℕ
version_of n = if nat_le 1 n && nat_le n 9223372036854775807 then Some n else None

-- a moment or a duration is 0 to 9007199254740991 milliseconds
abbrev pub millis_of : ℕ → Option ℕ
millis_of n = if nat_le n 9007199254740991 then Some n else None

-- how many modules an image may have
abbrev pub scale_modules : Scale → ℕ
scale_modules Small = 8
scale_modules Standard = 64

-- the greatest weight of the kept modules
abbrev pub scale_file_weight : Scale → ℕ
scale_file_weight Small = 65536
scale_file_weight Standard = 16777216

-- the greatest weight of a name's data
abbrev pub scale_data_weight : Scale → ℕ
scale_data_weight Small = 1024
scale_data_weight Standard = 16384

-- how many units of sessions there may ever be
abbrev pub scale_units : Scale → ℕ
scale_units Small = 32
scale_units Standard = 1024

-- the least length of a device
abbrev pub scale_device_len : Scale → ℕ
scale_device_len Small = 1052672
scale_device_len Standard = 67112960

-- the number that is written to a device
abbrev pub scale_number : Scale → ℕ
scale_number Small = 1
scale_number Standard = 2

-- the scale of a number
abbrev pub scale_of_number : ℕ → Option Scale
scale_of_number n = if n == 1 then Some Small else (if n == 2 then Some Standard else None)
