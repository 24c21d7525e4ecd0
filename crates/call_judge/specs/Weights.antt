-- What a batch adds to the weight of the files that are kept, and what it takes away.
use Rattle.std.specs.Prelude.{ℕ, ◌+◌, List, [], ◌∷◌, Option, Some, None}
use Rattle.std.specs.FinMap as fin
use Rattle.apex_base.specs.Keys.{RowMap}
use Rattle.apex_base.specs.RowSums.{file_row_weight}
use Rattle.row_codec.specs.declared.batch.Row.{Row}

-- the weight of a value at a key, if there is one
abbrev pub value_weight : List ℕ → Option (List ℕ) → ℕ
value_weight key None = 0
value_weight key (Some value) = file_row_weight (key, value)

-- what the keys of a batch have in these rows
abbrev pub lost : RowMap → List Row → ℕ
lost rows [] = 0
lost rows (row ∷ batch) = value_weight row.key (fin.get rows row.key) + lost rows batch

-- and what they have in the batch
abbrev pub gained : List Row → ℕ
gained [] = 0
gained (row ∷ batch) = value_weight row.key row.value + gained batch
