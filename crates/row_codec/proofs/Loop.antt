-- Reading rows one after the other.
use Rattle.std.proofs.Common.{◌≡◌, ℕ, suc, ◌-◌, ◌+◌, ◌≤◌, ◌<◌, Bool, true, false, cond, eqb, List, [], ◌∷◌, ◌++◌, length, Option, Some, None, refl, sym, ap, ◌∙◌, append_assoc, arith}
use Rattle.std.specs.Option.{option_map}
use Rattle.std.proofs.lemmas.List.{append-nil}
use Rattle.row_codec.specs.declared.batch.Row.{Row}
use Rattle.apex_base.specs.Reading.{◌>>=◌}
use Rattle.row_codec.specs.Batch.{row_above, rows_of}

-- the rows that were read before, and those that are still read
abbrev pub with_front : List Row → Option (List Row) → Option (List Row)
with_front front rest = option_map (λ rows. front ++ rows) rest

regroup : (front : List Row) (row : Row) (rest : Option (List Row))
    → with_front front (rest >>= λ rows. Some (row ∷ rows)) ≡ with_front (front ++ row ∷ []) rest
regroup front row (Some rows) = ap (λ (xs : List Row). Some xs) (sym (append_assoc front (row ∷ []) rows))
regroup front row None = refl

pub next_row : (front : List Row) (low : List ℕ) (count i : ℕ) (bytes : List ℕ) (row : Row) (after : List ℕ)
    (total : Option (List Row)) → i < count → row_above low bytes ≡ Some (row, after)
    → with_front front (rows_of low (count - i) bytes) ≡ total
    → with_front (front ++ row ∷ []) (rows_of row.key (count - (i + 1)) after) ≡ total
unfolding rows_of
next_row front low count i bytes row after total lt h so_far =
    let k : count - i ≡ suc (count - (i + 1)) = omega arith in
    let one : with_front front (rows_of low (count - i) bytes)
    ≡ with_front (front ++ row ∷ []) (rows_of row.key (count - (i + 1)) after) =
    rw (k, h) (regroup front row (rows_of row.key (count - (i + 1)) after)) in
    sym one ∙ so_far

pub no_row : (front : List Row) (low : List ℕ) (count i : ℕ) (bytes : List ℕ) (total : Option (List Row)) → i < count
    → row_above low bytes ≡ None
    → with_front front (rows_of low (count - i) bytes) ≡ total → None ≡ total
unfolding rows_of
no_row front low count i bytes total lt h so_far =
    let k : count - i ≡ suc (count - (i + 1)) = omega arith in
    let one : with_front front (rows_of low (count - i) bytes) ≡ None = rw (k, h) refl in
    sym one ∙ so_far

all_rows : (front : List Row) (low : List ℕ) (count i : ℕ) (bytes : List ℕ) (total : Option (List Row))
    (ended : Bool) → count ≤ i → ended ≡ eqb (length bytes) 0
    → with_front front (rows_of low (count - i) bytes) ≡ total → with_front front (cond ended (Some []) None) ≡ total
unfolding rows_of
all_rows front low count i bytes total ended le test so_far =
    let k : count - i ≡ 0 = omega arith in
    let one : with_front front (rows_of low (count - i) bytes)
    ≡ with_front front (cond (eqb (length bytes) 0) (Some []) None) = rw k refl in
    ap (λ (b : Bool). with_front front (cond b (Some []) None)) test ∙ sym one ∙ so_far

pub bytes_left : (front : List Row) (low : List ℕ) (count i : ℕ) (bytes : List ℕ) (total : Option (List Row))
    → count ≤ i → false ≡ eqb (length bytes) 0
    → with_front front (rows_of low (count - i) bytes) ≡ total → None ≡ total
bytes_left front low count i bytes total le test so_far = all_rows front low count i bytes total false le test so_far

pub none_left : (front : List Row) (low : List ℕ) (count i : ℕ) (bytes : List ℕ) (total : Option (List Row))
    → count ≤ i → true ≡ eqb (length bytes) 0
    → with_front front (rows_of low (count - i) bytes) ≡ total → Some front ≡ total
none_left front low count i bytes total le test so_far =
    ap (λ (xs : List Row). Some xs) (sym (append-nil front))
    ∙ all_rows front low count i bytes total true le test so_far
