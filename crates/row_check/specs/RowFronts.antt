-- Rows whose keys begin alike.
use Rattle.std.specs.Prelude.{ℕ, ◌==◌, List, [], ◌∷◌, Option, Some, None, if◌then◌else◌}

-- what follows a front in a key that begins with it
abbrev pub rest_after : List ℕ → List ℕ → Option (List ℕ)
rest_after [] key = Some key
rest_after (b ∷ front) [] = None
rest_after (b ∷ front) (c ∷ key) = if b == c then rest_after front key else None

abbrev pub with_row : Option (List ℕ) → List ℕ → List (List ℕ × List ℕ) → List (List ℕ × List ℕ)
with_row None value rows = rows
with_row (Some key) value rows = (key, value) ∷ rows

-- the rows whose keys begin with a front, by what follows it
abbrev pub rows_after : List ℕ → List (List ℕ × List ℕ) → List (List ℕ × List ℕ)
rows_after front [] = []
rows_after front (row ∷ rows) = with_row (rest_after front row.0) row.1 (rows_after front rows)
