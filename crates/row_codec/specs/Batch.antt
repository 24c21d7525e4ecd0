-- Batches of rows, and their one spelling in bytes: docs/formats/batches.md.
use Rattle.std.specs.Prelude.{◌≡◌, ℕ, zero, suc, ◌<◌, ◌≤◌, ◌^◌, ◌==◌, List, [], ◌∷◌, ◌++◌, length, map, flat_map, Option, Some, None, IfSome, if◌then◌else◌}
use Rattle.std.specs.Cmp.Lexicographic.{slice_cmp}
use Rattle.std.specs.Int.{w32, w64, to_be_bytes}
use Rattle.std.specs.List.{AllByRecursion}
use Rattle.std.specs.List.Sorted.{IsStrictlySortedBy}
use Rattle.std.specs.Ordering.{is_lt, nat_cmp}
use Rattle.apex_base.specs.Reading.{◌>>=◌, bytes_at, number_at, short_at}
use Rattle.row_codec.specs.declared.batch.Batch.{Batch}
use Rattle.row_codec.specs.declared.batch.Row.{Row}

-- From batches to bytes

-- a key has 1 to 255 bytes, and a value fewer than 2 ^ 32
pub record IsRow (row : Row) : Type 0 where
  pub not_empty : 1 ≤ length row.key
  pub short : length row.key ≤ 255
  pub value : IfSome row.value (λ value. length value < 2 ^ 32)

-- the keys of rows, in order
abbrev pub keys_of : List Row → List (List ℕ)
keys_of rows = map (λ row. row.key) rows

-- what has a spelling: rows whose keys ascend strictly, by their bytes
pub record IsBatch (batch : Batch) : Type 0 where
  pub seq : batch.seq < 2 ^ 64
  pub count : length batch.rows < 2 ^ 32
  pub rows : AllByRecursion IsRow batch.rows
  pub ascending : IsStrictlySortedBy (slice_cmp nat_cmp) (keys_of batch.rows)

-- a value is put under the key by 1, and by 2 the key's row is deleted. A key stands after its length in one
-- byte, and a value after its length in four
abbrev pub change_text : List ℕ → Option (List ℕ) → List ℕ
change_text key (Some value) = 1 ∷ length key ∷ key ++ (to_be_bytes w32 (length value) ++ value)
change_text key None = 2 ∷ length key ∷ key

abbrev pub row_text : Row → List ℕ
row_text row = change_text row.key row.value

-- the number in eight bytes, the count of rows in four, and the rows
unfoldable pub batch_text : Batch → List ℕ
batch_text batch = to_be_bytes w64 batch.seq ++ (to_be_bytes w32 (length batch.rows) ++ flat_map row_text batch.rows)

-- these bytes spell that batch
pub record Spells (bytes : List ℕ) (batch : Batch) : Type 0 where
  pub is_batch : IsBatch batch
  pub is_text : bytes ≡ batch_text batch

-- From bytes to batches: each step gives what it reads, and what follows that

unfoldable pub value_at : List ℕ → Option (List ℕ × List ℕ)
value_at bytes = do
  n ← number_at w32 bytes
  bytes_at n.0 n.1

unfoldable pub put_at : List ℕ → Option (Row × List ℕ)
put_at bytes = do
  key ← short_at bytes
  value ← value_at key.1
  Some (record { key = key.0; value = Some value.0 }, value.1)

unfoldable pub delete_at : List ℕ → Option (Row × List ℕ)
delete_at bytes = do
  key ← short_at bytes
  Some (record { key = key.0; value = None }, key.1)

unfoldable pub row_at : List ℕ → Option (Row × List ℕ)
row_at [] = None
row_at (tag ∷ rest) = if tag == 1 then put_at rest else (if tag == 2 then delete_at rest else None)

-- a row whose key is above this one
unfoldable pub row_above : List ℕ → List ℕ → Option (Row × List ℕ)
row_above low bytes = do
  row ← row_at bytes
  if is_lt (slice_cmp nat_cmp low row.0.key) then Some row else None

-- so many rows, each key above the one before it, and nothing after the last row
unfoldable pub rows_of : List ℕ → ℕ → List ℕ → Option (List Row)
rows_of low zero bytes = if length bytes == 0 then Some [] else None
rows_of low (suc count) bytes = do
  row ← row_above low bytes
  rows ← rows_of row.0.key count row.1
  Some (row.0 ∷ rows)

-- the batch that all of the bytes spell. Its first key is above the empty one, so no key is empty
unfoldable pub batch_of : List ℕ → Option Batch
batch_of bytes = do
  seq ← number_at w64 bytes
  count ← number_at w32 seq.1
  rows ← rows_of [] count.0 count.1
  Some (record { seq = seq.0; rows = rows })
