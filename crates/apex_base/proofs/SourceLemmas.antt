-- A read of bytes in memory.
use Rattle.std.proofs.Common.{◌≡◌, ◌⊎◌, ℕ, min, List, [], ◌∷◌, ◌++◌, length, take, drop, refl, sym, arith, ap, inl, inr}
use Rattle.std.proofs.lemmas.List.{length-append, length-drop, length-take, take_at, take-append-drop}
use Rattle.apex_base.specs.Outside.{TookFront}

pub TookFront-read : (rest into copied new : List ℕ) (n : ℕ) → n ≡ min (length rest) (length into)
    → copied ≡ take n rest → new ≡ drop n rest → TookFront rest new n (copied ++ drop n into)
TookFront-read rest into copied new n least front back =
    let len : length copied ≡ n = omega (arith, ap length front, length-take n rest) in
    record {
      taken = rw (take_at copied (drop n into) n len, front, back) (sym (take-append-drop n rest));
      end = λ none. first_empty rest into copied n least none
          (omega (arith, len, none, length-append copied (drop n into), length-drop n into));
    }
  where
    first_empty : (rest into copied : List ℕ) (n : ℕ) → n ≡ min (length rest) (length into) → n ≡ 0
        → length (copied ++ drop n into) ≡ length into → (length (copied ++ drop n into) ≡ 0) ⊎ (rest ≡ [])
    first_empty [] into copied n least none same = inr refl
    first_empty (x ∷ rest) into copied n least none same = inl (omega (arith, least, none, same))
