-- Numbers and short texts in bytes. A text stands in front of what follows it; a reader gives what it reads, and what
-- follows that.
use Rattle.std.specs.Prelude.{ℕ, nat_lt, List, [], ◌∷◌, ◌++◌, length, take, drop, Option, Some, None, if◌then◌else◌}
use Rattle.std.specs.Int.{Width, w32, w64, byte_len, from_be_bytes, to_be_bytes}

infixl 10 ◌>>=◌
abbrev pub ◌>>=◌ : {A B : Type 0} → Option A → (A → Option B) → Option B
None >>= next = None
Some x >>= next = next x

abbrev pub byte_at : List ℕ → Option (ℕ × List ℕ)
byte_at [] = None
byte_at (b ∷ rest) = Some (b, rest)

-- so many bytes
unfoldable pub bytes_at : ℕ → List ℕ → Option (List ℕ × List ℕ)
bytes_at n bytes = if nat_lt (length bytes) n then None else Some (take n bytes, drop n bytes)

-- a number, its highest byte first
unfoldable pub number_at : Width → List ℕ → Option (ℕ × List ℕ)
number_at w bytes = do
  digits ← bytes_at (byte_len w) bytes
  Some (from_be_bytes w digits.0, digits.1)

abbrev pub four_text : ℕ → List ℕ → List ℕ
four_text n rest = to_be_bytes w32 n ++ rest

abbrev pub eight_text : ℕ → List ℕ → List ℕ
eight_text n rest = to_be_bytes w64 n ++ rest

-- a short text after its length in one byte
abbrev pub short_text : List ℕ → List ℕ → List ℕ
short_text bytes rest = length bytes ∷ bytes ++ rest

unfoldable pub short_at : List ℕ → Option (List ℕ × List ℕ)
short_at [] = None
short_at (n ∷ rest) = bytes_at n rest

-- nothing follows
abbrev pub at_end : {X : Type 0} → X → List ℕ → Option X
at_end x [] = Some x
at_end x (b ∷ rest) = None
