-- The first byte that a search finds is the first place that passes.
use Rattle.std.proofs.Common.{◌≡◌, refl, ℕ, Bool, true, false, List, length, Option, Some, None, arith}
use Rattle.std.specs.List.{position_or_len, position}
use Rattle.std.proofs.lemmas.List.Sums.{position_or_len_is}
use Rattle.memchr.specs.Find.{IsFirstByte}

not_true : (b : Bool) → ¬ (b ≡ true) → b ≡ false
not_true true h = absurd (h refl)
not_true false h = refl

pub first_is_position : (test : ℕ → Bool) (bytes : List ℕ) (found : Option ℕ) → IsFirstByte test bytes found
    → found ≡ position test bytes
first_is_position test bytes None h =
    let at : position_or_len test bytes ≡ length bytes = position_or_len_is test bytes (length bytes) 0 (omega arith)
    (λ k below. not_true _ (h k (omega arith) below)) (λ below. absurd (omega (arith, below))) in
    grind (arith, at)
first_is_position test bytes (Some i) h =
    let at : position_or_len test bytes ≡ i = position_or_len_is test bytes i 0 (omega arith)
    (λ k below. not_true _ (h.0.before k (omega arith) below)) (λ below. h.1) in
    grind (arith, at, h.0.high)
