-- What was read of a source that tells what is left; of one that doesn't, nothing is known.
use Rattle.std.specs.Prelude.{◌≡◌, ◌≤◌, ℕ, List, [], ◌++◌, length, Option, Some, None}

-- the bytes that were read and those that are left are the same as before
abbrev pub Moved : Option (List ℕ) → Option (List ℕ) → List ℕ → List ℕ → Type 0
Moved None new text text' = Unit {0}
Moved (Some old) None text text' = ⊥
Moved (Some old) (Some new) text text' = text ++ old ≡ text' ++ new

-- nothing is left
abbrev pub Ended : Option (List ℕ) → Option (List ℕ) → Type 0
Ended None new = Unit {0}
Ended (Some old) None = ⊥
Ended (Some old) (Some new) = new ≡ []

-- at most so many bytes were taken
abbrev pub TakesAtMost : ℕ → Option (List ℕ) → Option (List ℕ) → Type 0
TakesAtMost most None new = Unit {0}
TakesAtMost most (Some old) None = ⊥
TakesAtMost most (Some old) (Some new) = (taken : List ℕ) × (old ≡ taken ++ new) × (length taken ≤ most)
