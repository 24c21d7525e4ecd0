-- How a record stands in a half.
use Rattle.std.proofs.Common.{◌≡◌, ℕ, ◌+◌, ◌<◌, List, ◌∷◌, ◌++◌, length, take, drop, get_or, sym, ◌∙◌, ap, arith, append_assoc, length-append, length-drop, take-append-drop}
use Rattle.std.proofs.lemmas.List.{drop_more, drop-drop, length-take-le}
use Rattle.std.specs.Int.{to_be_bytes, w32}
use Rattle.apex_journal.specs.Records.{framed, block}

-- a block's parts, where it begins
pub block_at : (half piece : List ℕ) (at n : ℕ) → at < length half → get_or half at 0 ≡ 1
    → to_be_bytes w32 n ≡ take 4 (drop (at + 1) half) → piece ≡ take n (drop 4 (drop (at + 1) half))
    → 4 + n < length (drop (at + 1) half)
    → (drop at half ≡ block piece ++ drop (at + (5 + n)) half) × (length (block piece) ≡ 5 + n)
block_at half piece at n lt is_open number is fits =
    let rest = drop (at + 1) half in
    let size : length piece ≡ n = ap length is ∙ length-take-le n (drop 4 rest) (omega (arith, length-drop 4 rest)) in
    let four : take 4 rest ++ drop 4 rest ≡ rest = take-append-drop 4 rest in
    let last : drop n (drop 4 rest) ≡ drop (at + (5 + n)) half = drop-drop n 4 rest ∙ drop-drop (4 + n) (at + 1) half
    ∙ (let e : at + 1 + (4 + n) ≡ at + (5 + n) = omega arith in ap (λ (k : ℕ). drop k half) e) in
    let tail : rest ≡ framed piece ++ drop (at + (5 + n)) half =
    sym four ∙ ap (λ (l : List ℕ). l ++ drop 4 rest) (sym number ∙ ap (λ (k : ℕ). to_be_bytes w32 k) (sym size))
    ∙ ap (λ (l : List ℕ). to_be_bytes w32 (length piece) ++ l) (sym (take-append-drop n (drop 4 rest))
    ∙ ap (λ (l : List ℕ). l ++ drop n (drop 4 rest)) (sym is) ∙ ap (λ (l : List ℕ). piece ++ l) last)
    ∙ sym (append_assoc (to_be_bytes w32 (length piece)) piece (drop (at + (5 + n)) half)) in (
      drop_more half at 0 lt ∙ ap (λ (k : ℕ). k ∷ rest) is_open ∙ ap (λ (l : List ℕ). 1 ∷ l) tail,
      omega (arith, length-append (to_be_bytes w32 (length piece)) piece, size),
    )
