-- The ranges of numbers, which their types keep: docs/formats/script.md, "Words".
use Rattle.std.specs.Prelude.{ℕ, ◌≤◌}

abbrev pub IsVersion : ℕ → Type 0
IsVersion n = (1 ≤ n) × (n ≤ 9223372036854775807)

abbrev pub IsMillis : ℕ → Type 0
IsMillis n = n ≤ 9007199254740991
