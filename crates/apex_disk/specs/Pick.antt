-- What the power's return makes of a byte that wasn't synced: docs/device.md, "Picks".
use Rattle.std.specs.Prelude.{◌+◌, ◌*◌, ◌%◌, ◌==◌, ℕ, if◌then◌else◌}

abbrev pub scattered : ℕ → ℕ → ℕ → ℕ → ℕ → ℕ
scattered third at pick newest synced =
    if third == 0 then newest else (if third == 1 then synced else (7 * at + pick) % 256)

-- for a pick, the byte at an offset, from the newest byte and that of the last sync
abbrev pub picked : ℕ → ℕ → ℕ → ℕ → ℕ
picked pick at newest synced =
    if pick == 0 then synced else (if pick == 1 then newest else scattered ((at + pick) % 3) at pick newest synced)
