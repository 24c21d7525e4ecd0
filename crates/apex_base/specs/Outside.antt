-- What a read takes, and what a put appends.
use Rattle.std.specs.Prelude.{◌≡◌, ◌⊎◌, ℕ, List, [], ◌++◌, length, take, Option, Some, None, Result, Ok, Err}

-- the first n bytes of what was left are in the buffer; 0 means the end, unless the buffer is empty
pub record TookFront (old new : List ℕ) (n : ℕ) (buffer : List ℕ) : Type 0 where
  pub taken : old ≡ take n buffer ++ new
  pub end : n ≡ 0 → (length buffer ≡ 0) ⊎ (old ≡ [])

-- what a read took of a source that states what is left; one that doesn't state it may give anything
abbrev pub Took : {E : Type 0} → Option (List ℕ) → Option (List ℕ) → Result ℕ E → List ℕ → Type 0
Took None new result buffer = Unit {0}
Took (Some old) new (Err e) buffer = Unit {0}
Took (Some old) None (Ok n) buffer = ⊥
Took (Some old) (Some new) (Ok n) buffer = TookFront old new n buffer

-- xs is a front of ys
abbrev pub IsFront : {X : Type 0} → List X → List X → Type 0
IsFront {X} xs ys = (rest : List X) × (ys ≡ xs ++ rest)

-- a sink that states what it holds has gained a front of the text
abbrev pub PutFront : Option (List ℕ) → Option (List ℕ) → List ℕ → Type 0
PutFront None new text = Unit {0}
PutFront (Some old) None text = ⊥
PutFront (Some old) (Some new) text = (front : List ℕ) × (new ≡ old ++ front) × IsFront front text

-- it has gained the text
abbrev pub PutAll : Option (List ℕ) → Option (List ℕ) → List ℕ → Type 0
PutAll None new text = Unit {0}
PutAll (Some old) None text = ⊥
PutAll (Some old) (Some new) text = new ≡ old ++ text

-- a put appends its piece, or a front of it if it failed
abbrev pub Puts : {T E : Type 0} → Option (List ℕ) → Option (List ℕ) → Result T E → List ℕ → Type 0
Puts old new (Ok done) piece = PutAll old new piece
Puts old new (Err e) piece = PutFront old new piece
