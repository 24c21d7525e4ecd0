-- Rows whose keys and values are bytes.
use Rattle.std.specs.Prelude.{ℕ, ◌<◌, get_or, List}
use Rattle.std.specs.List.{AllByRecursion}

abbrev pub FitBytes : List ℕ → Type 0
FitBytes bytes = (i : ℕ) → get_or bytes i 0 < 256

abbrev pub FitRow : List ℕ × List ℕ → Type 0
FitRow row = FitBytes row.0 × FitBytes row.1

abbrev pub FitRows : List (List ℕ × List ℕ) → Type 0
FitRows rows = AllByRecursion FitRow rows
