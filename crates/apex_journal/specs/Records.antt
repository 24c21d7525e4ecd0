-- A half: a row of records, each after an open gate, and a closed gate after the last. docs/formats/journal.md.
use Rattle.std.specs.Prelude.{◌≡◌, ◌≢◌, ◌⊎◌, ◌≤◌, ◌<◌, ◌+◌, ℕ, List, ◌∷◌, ◌++◌, length, take}
use Rattle.std.specs.List.{flat_map}
use Rattle.std.specs.Int.{to_be_bytes, from_be_bytes, w32}

-- what stands after a record's gate: its length in four bytes, and its bytes
abbrev pub framed : List ℕ → List ℕ
framed record_bytes = to_be_bytes w32 (length record_bytes) ++ record_bytes

-- a record after an open gate
abbrev pub block : List ℕ → List ℕ
block record_bytes = 1 ∷ framed record_bytes

abbrev pub blocks : List (List ℕ) → List ℕ
blocks records = flat_map block records

-- the half has these records, and its closed gate is the last of so many bytes
pub record HalfHolds (half : List ℕ) (records : List (List ℕ)) (used : ℕ) : Type 0 where
  pub gate : ℕ
  pub rest : List ℕ
  pub is : half ≡ blocks records ++ gate ∷ rest
  pub closed : gate ≢ 1
  pub counts : used ≡ length (blocks records) + 1

-- the first open gate of a half after which no whole record and closed gate fit stands at this offset
pub record IsDamagedAt (half : List ℕ) (offset : ℕ) : Type 0 where
  pub records : List (List ℕ)
  pub rest : List ℕ
  pub is : half ≡ blocks records ++ 1 ∷ rest
  pub here : offset ≡ length (blocks records)
  pub runs_over : (length rest < 4) ⊎ (length rest ≤ 4 + from_be_bytes w32 (take 4 rest))
