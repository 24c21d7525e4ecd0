-- Rows in memory, and what batches make of them: docs/formats/batches.md, "A store".
use Rattle.std.specs.Prelude.{ℕ, List, [], ◌∷◌, map, Option, Some, None}
use Rattle.std.specs.FinMap as fin
use Rattle.std.specs.declared.vec.Vec.{Vec}
use Rattle.std.specs.declared.alloc.Global.{Global}
use Rattle.row_codec.specs.declared.batch.Row.{Row}
pub use Rattle.apex_base.specs.Keys.{RowMap}

-- with this value at the key, or none
abbrev pub changed_at : RowMap → List ℕ → Option (List ℕ) → RowMap
changed_at m key None = fin.remove m key
changed_at m key (Some value) = fin.insert m key value

-- with the rows of a batch, in order
abbrev pub changed : RowMap → List Row → RowMap
changed m [] = m
changed m (row ∷ rows) = changed (changed_at m row.key row.value) rows

-- the entries of a `BTreeMap` of rows, as keys and values
abbrev pub shown : List (Vec ℕ Global × List ℕ) → List (List ℕ × List ℕ)
shown entries = map (λ entry. (entry.0.items, entry.1)) entries

abbrev pub rows_of : List (Vec ℕ Global × List ℕ) → RowMap
rows_of entries = fin.from_entries (shown entries)
