-- A text of at most N bytes in an array of N.
use Rattle.std.specs.Prelude.{◌≡◌, ℕ, ◌-◌, ◌≤◌, List, ◌++◌, length, take, drop, replicate, refl}
use Rattle.std.proofs.Common.{arith}
use Rattle.std.proofs.lemmas.List.{length-take-le, take-append-drop}
use Rattle.apex_base.specs.declared.padded.ShortText.TheInside.{Inside}

-- the text comes first, and zeros after it
pub record IsPadded (room : ℕ) (a : Inside room) : Type 0 where
  pub filled : length a.bytes ≡ room
  pub within : a.len ≤ room
  pub zeros : drop a.len a.bytes ≡ replicate (room - a.len) 0

abbrev pub padded : (room : ℕ) → List ℕ → Inside room
padded room text = record { bytes = text ++ replicate (room - length text) 0; len = length text }

-- the bytes of a text give its array back
pub padded-take : (room : ℕ) (a : Inside room) → IsPadded room a → padded room (take a.len a.bytes) ≡ a
padded-take room a h =
    let n : length (take a.len a.bytes) ≡ a.len = length-take-le a.len a.bytes (omega (arith, h.filled, h.within)) in
    rw (n, ← h.zeros, take-append-drop a.len a.bytes) refl
