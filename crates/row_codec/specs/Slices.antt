-- Rows that stand in the bytes of their batch.
use Rattle.std.specs.Option.{option_map}
use Rattle.row_codec.specs.declared.batch.Row.{Row}
use Rattle.row_codec.specs.declared.decode.RowSlices.{RowSlices}

-- the row that the slices show
abbrev pub row_seen : RowSlices → Row
row_seen slices = record { key = slices.key.now; value = option_map (λ value. value.now) slices.value }
