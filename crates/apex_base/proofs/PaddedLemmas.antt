-- A text at the front of an array of zeros.
use Rattle.std.proofs.Common.{◌≡◌, ℕ, ◌≤◌, List, ◌++◌, length, drop, replicate, arith, ap, ◌∙◌}
use Rattle.std.proofs.Math.Seq.{drop-append_seam}
use Rattle.std.proofs.lemmas.List.{length-append, length-drop, length-replicate, drop-replicate}
use Rattle.apex_base.specs.Padded.{IsPadded}

pub IsPadded-front : (room : ℕ) (text zeros : List ℕ) → length text ≤ room → zeros ≡ replicate room 0
    → IsPadded room (record { bytes = text ++ drop (length text) zeros; len = length text })
IsPadded-front room text zeros short all =
    let filled : length (text ++ drop (length text) zeros) ≡ room =
    omega (
      arith,
      length-append text (drop (length text) zeros),
      length-drop (length text) zeros,
      ap length all
          ∙ length-replicate {A = ℕ} room 0,
    ) in
    record { filled = filled; within = short; zeros = rw (drop-append_seam, all) (drop-replicate (length text) room 0) }
