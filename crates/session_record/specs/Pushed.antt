-- Bytes to which a text was added. A text stands in front of what follows it.
use Rattle.std.specs.Prelude.{◌≡◌, ℕ, List, ◌++◌}

-- the new bytes are the old ones and the text, whatever follows
pub record Pushed (old new : List ℕ) (text : List ℕ → List ℕ) : Type 0 where
  pub is : (rest : List ℕ) → new ++ rest ≡ old ++ text rest
