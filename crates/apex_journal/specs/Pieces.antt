-- What is read of a half, piece by piece.
use Rattle.std.specs.Prelude.{◌≡◌, ◌≢◌, ◌⊎◌, ◌≤◌, ◌<◌, ◌+◌, ◌-◌, ◌*◌, ℕ, List, ◌++◌, length, take, drop, get_or, Bool, true, false, Result, Ok, Err}
use Rattle.std.specs.Int.{from_be_bytes, w32}
use Rattle.apex_journal.specs.declared.half.PieceEnd.{PieceEnd}
use Rattle.apex_journal.specs.declared.half.PieceEnd.TheVariants.{Closed, Cut}
use Rattle.apex_journal.specs.declared.pieces.HalfWhy.{HalfWhy}
use Rattle.apex_journal.specs.declared.pieces.Reading.{Reading}
use Rattle.apex_journal.specs.declared.pieces.HalfWhy.TheVariants.{RunsOver, OutOfMemory}
use Rattle.apex_journal.specs.Records.{blocks, HalfHolds, IsDamagedAt}

-- the bytes begin with these records, and so many bytes are theirs
pub record BeginsWith (bytes : List ℕ) (records : List (List ℕ)) (at : ℕ) : Type 0 where
  pub is : take at bytes ≡ blocks records
  pub here : at ≡ length (blocks records)

-- after the records that were there, those of the piece, up to a gate at this offset of it
pub record Adds (piece : List ℕ) (before after : List (List ℕ)) (at : ℕ) : Type 0 where
  pub more : List (List ℕ)
  pub is : after ≡ before ++ more
  pub begins : BeginsWith piece more at
  pub inside : at < length piece

-- A record and the gates around it need so many bytes, by what follows the first gate. Where its length isn't whole,
-- the least record is counted.
abbrev pub IsNeed : List ℕ → ℕ → Type 0
IsNeed rest need = ((length rest < 4) × (need ≡ 6))
    ⊎ ((4 ≤ length rest) × (need ≡ 6 + from_be_bytes w32 (take 4 rest)))

-- what is read of a piece
abbrev pub IsPieceRead : List ℕ → List (List ℕ) → List (List ℕ) → PieceEnd → Type 0
IsPieceRead piece before after (Closed at) = Adds piece before after at × (get_or piece at 0 ≢ 1)
IsPieceRead piece before after (Cut at need) = Adds piece before after at × (get_or piece at 0 ≡ 1)
    × IsNeed (drop (at + 1) piece) need × (length piece < at + need)

-- the next piece is that of the half which begins with the gate
abbrev pub IsNext : List ℕ → Reading → Type 0
IsNext half reading = reading.piece.items ≡ take (length reading.piece.items) (drop reading.at half)

-- the half up to the gate has these records, and after a closed gate no more are read
abbrev pub IsReadTo : Bool → List ℕ → Reading → Type 0
IsReadTo true half reading = HalfHolds half reading.records.items (reading.at + 1)
IsReadTo false half reading = BeginsWith half reading.records.items reading.at

-- what a half with this piece of it has, once the piece is read
abbrev pub IsPieceTaken : List ℕ → Reading → Result Bool HalfWhy → Type 0
IsPieceTaken half reading (Ok closed) = IsReadTo closed half reading
IsPieceTaken half reading (Err (RunsOver offset)) = IsDamagedAt half offset
IsPieceTaken half reading (Err OutOfMemory) = Unit {0}

-- the gate stands in the half, and so does the next piece, which isn't empty
pub record IsInHalf (size : ℕ) (reading : Reading) : Type 0 where
  pub here : reading.at ≡ length (blocks reading.records.items)
  pub some : 1 ≤ length reading.piece.items
  pub inside : reading.at + length reading.piece.items ≤ size

-- falls with each piece: either the gate moves, or the next piece is longer
abbrev pub left_of : ℕ → Reading → ℕ
left_of size reading = (size - reading.at) * 4294967296 + (size - length reading.piece.items)

-- an offset in a half of that length
abbrev pub IsOffsetIn : ℕ → HalfWhy → Type 0
IsOffsetIn size (RunsOver offset) = offset ≤ size
IsOffsetIn size OutOfMemory = Unit {0}
