-- How the records of a half are read, piece by piece.
use Rattle.std.proofs.Common.{◌≡◌, ◌≢◌, inr, ⊎_elim, ℕ, ◌+◌, ◌-◌, ◌<◌, ◌≤◌, List, [], ◌∷◌, ◌++◌, length, take, drop, get_or, refl, sym, ◌∙◌, ap, arith, append_assoc, length-append, length-drop, length-take, take-append-drop}
use Rattle.std.proofs.lemmas.List.{drop_more, drop-drop, drop-take, take-take, length-take-le, get_or-take, get_or-drop, append-nil}
use Rattle.std.proofs.lemmas.Grind.{flat_map-append}
use Rattle.std.proofs.Math.Seq.{take-append_seam}
use Rattle.std.specs.Int.{to_be_bytes, from_be_bytes, w32}
use Rattle.apex_journal.specs.Records.{block, blocks, HalfHolds, IsDamagedAt}
use Rattle.apex_journal.specs.Pieces.{BeginsWith, Adds, IsNeed}
use Rattle.apex_base.specs.declared.numbers.Scale.{Scale}
use Rattle.apex_journal.specs.Journal.{half_len, half_of}
use Rattle.apex_journal.proofs.Halves.{block_at}

-- a front goes on with the front of what follows it
pub take_twice : (n m : ℕ) (l : List ℕ) → take (n + m) l ≡ take n l ++ take m (drop n l)
take_twice n m l =
    sym (take-append-drop n (take (n + m) l))
    ∙ ap (λ (x : List ℕ). x ++ drop n (take (n + m) l)) (take-take n (n + m) l (omega arith))
    ∙ ap (λ (x : List ℕ). take n l ++ x) (drop-take n m l)

-- the records before, and those that follow them
pub begins_farther : (bytes : List ℕ) (before more : List (List ℕ)) (at n : ℕ) → BeginsWith bytes before at
    → BeginsWith (drop at bytes) more n → BeginsWith bytes (before ++ more) (at + n)
begins_farther bytes before more at n b m =
    let both : blocks (before ++ more) ≡ blocks before ++ blocks more = flat_map-append block before more in
    record {
      is = take_twice at n bytes ∙ ap (λ (l : List ℕ). l ++ take n (drop at bytes)) b.is
          ∙ ap (λ (l : List ℕ). blocks before ++ l) m.is ∙ sym both;
      here = omega (arith, ap length both, length-append (blocks before) (blocks more), b.here, m.here);
    }

-- a record that isn't cut has its whole length
pub long_enough : (rest : List ℕ) (need : ℕ) → IsNeed rest need → need ≤ length rest + 1 → 4 ≤ length rest
long_enough rest need needs le = ⊎_elim (λ less. omega (arith, less.1, le)) (λ more. more.0) needs

-- one record more of a piece, at the parts as the code cuts them
pub piece_step : (piece rest : List ℕ) (before now next : List (List ℕ)) (at n m : ℕ) → rest ≡ drop (at + 1) piece
    → m ≡ n → Adds piece before now at → get_or piece at 0 ≡ 1 → to_be_bytes w32 n ≡ take 4 rest
    → 4 + n < length rest → next ≡ now ++ take m (drop 4 rest) ∷ [] → Adds piece before next (at + (5 + n))
piece_step piece rest before now next at n m rest_is m_is a is_open number fits next_is =
    let one = take n (drop 4 (drop (at + 1) piece)) in
    let same : next ≡ now ++ one ∷ [] = next_is ∙ ap (λ (l : List ℕ). now ++ take m (drop 4 l) ∷ []) rest_is
    ∙ ap (λ (k : ℕ). now ++ take k (drop 4 (drop (at + 1) piece)) ∷ []) m_is in
    let b = block_at piece one at n a.inside is_open (number ∙ ap (λ (l : List ℕ). take 4 l) rest_is) refl
    (omega (arith, fits, ap length rest_is)) in
    let single : blocks (one ∷ []) ≡ block one = append-nil (block one) in
    let first : take (5 + n) (drop at piece) ≡ blocks (one ∷ []) =
    ap (λ (l : List ℕ). take (5 + n) l) b.0
    ∙ ap (λ (k : ℕ). take k (block one ++ drop (at + (5 + n)) piece)) (sym b.1)
    ∙ take-append_seam (block one) (drop (at + (5 + n)) piece) ∙ sym single in
    record {
      more = a.more ++ one ∷ [];
      is = same ∙ ap (λ (l : List (List ℕ)). l ++ one ∷ []) a.is ∙ append_assoc before a.more (one ∷ []);
      begins = begins_farther piece a.more (one ∷ []) at (5 + n) a.begins
          (record { is = first; here = omega (arith, ap length single, b.1) });
      inside = omega (arith, fits, ap length rest_is, length-drop (at + 1) piece);
    }

-- a half of which a piece was read from the offset on
module _ (half piece : List ℕ) (before after : List (List ℕ)) (at n : ℕ)
    (is : piece ≡ take (length piece) (drop at half)) (so_far : BeginsWith half before at)
    (adds : Adds piece before after n) where
  shorter : n ≤ length piece
  shorter = omega (arith, adds.inside)

  pub whole_begins : BeginsWith half after (at + n)
  whole_begins =
      let fronts : take n (drop at half) ≡ blocks adds.more =
      sym (take-take n (length piece) (drop at half) shorter) ∙ ap (λ (l : List ℕ). take n l) (sym is)
      ∙ adds.begins.is in
      let b = begins_farther half before adds.more at n so_far (record { is = fronts; here = adds.begins.here }) in
      record {
        is = b.is ∙ ap (λ (l : List (List ℕ)). blocks l) (sym adds.is);
        here = b.here ∙ ap (λ (l : List (List ℕ)). length (blocks l)) (sym adds.is);
      }

  same_byte : get_or half (at + n) 0 ≡ get_or piece n 0
  same_byte =
      sym (get_or-drop at half n 0) ∙ sym (get_or-take (length piece) (drop at half) n 0 adds.inside)
      ∙ ap (λ (l : List ℕ). get_or l n 0) (sym is)

  stands_inside : at + n < length half
  stands_inside =
      omega (arith, adds.inside, ap length is, length-take (length piece) (drop at half), length-drop at half)

  -- the records, the gate, and the rest
  whole : half ≡ blocks after ++ get_or half (at + n) 0 ∷ drop (at + n + 1) half
  whole =
      sym (take-append-drop (at + n) half) ∙ ap (λ (l : List ℕ). l ++ drop (at + n) half) whole_begins.is
      ∙ ap (λ (l : List ℕ). blocks after ++ l) (drop_more half (at + n) 0 stands_inside)

  pub whole_closed : get_or piece n 0 ≢ 1 → HalfHolds half after (at + n + 1)
  whole_closed closed = record {
    gate = get_or half (at + n) 0;
    rest = drop (at + n + 1) half;
    is = whole;
    closed = λ is_open. closed (sym same_byte ∙ is_open);
    counts = ap (λ (k : ℕ). k + 1) whole_begins.here;
  }

  -- what follows the gate in the piece is the front of what follows it in the half
  front_of_rest : drop (n + 1) piece ≡ take (length piece - (n + 1)) (drop (at + n + 1) half)
  front_of_rest =
      let size : length piece ≡ n + 1 + (length piece - (n + 1)) = omega (arith, adds.inside) in
      let moved : at + (n + 1) ≡ at + n + 1 = omega arith in
      ap (λ (l : List ℕ). drop (n + 1) l) (is ∙ ap (λ (k : ℕ). take k (drop at half)) size)
      ∙ drop-take (n + 1) (length piece - (n + 1)) (drop at half)
      ∙ ap (λ (l : List ℕ). take (length piece - (n + 1)) l) (drop-drop (n + 1) at half
      ∙ ap (λ (k : ℕ). drop k half) moved)

  pub whole_damaged : (need : ℕ) → get_or piece n 0 ≡ 1 → IsNeed (drop (n + 1) piece) need
      → length half - (at + n) < need → IsDamagedAt half (at + n)
  whole_damaged need is_open needs runs_over =
      let rest = drop (at + n + 1) half in
      record {
        records = after;
        rest = rest;
        is = whole ∙ ap (λ (k : ℕ). blocks after ++ k ∷ rest) (same_byte ∙ is_open);
        here = whole_begins.here;
        runs_over = ⊎_elim
            (λ less. inr (omega (arith, less.1, runs_over, length-drop (at + n + 1) half)))
            (λ more.
            let four : take 4 (drop (n + 1) piece) ≡ take 4 rest =
            ap (λ (l : List ℕ). take 4 l) front_of_rest
            ∙ take-take 4 (length piece - (n + 1)) rest (omega (arith, more.0, length-drop (n + 1) piece)) in
            inr (omega (
              arith,
              more.1,
              ap (λ (l : List ℕ). from_be_bytes w32 l) four,
              runs_over,
              length-drop (at + n + 1) half,
            )))
            needs;
      }

-- a file that is long enough has a whole half
pub half_long : (scale : Scale) (file : List ℕ) → 4096 + half_len scale ≤ length file
    → length (half_of scale file) ≡ half_len scale
half_long scale file long =
    length-take-le (half_len scale) (drop 4096 file) (omega (arith, long, length-drop 4096 file))

-- what was read of a file at an offset of its half is a piece of that half
pub piece_of_half : (scale : Scale) (file piece into room : List ℕ) (at : ℕ) → piece ≡ into
    → length piece ≡ length room → into ≡ take (length room) (drop (4096 + at) file)
    → at + length room ≤ half_len scale → piece ≡ take (length piece) (drop at (half_of scale file))
piece_of_half scale file piece into room at same long is inside =
    let size = half_len scale in
    let left = size - at in
    let split : size ≡ at + left = omega (arith, inside) in
    let here : drop at (half_of scale file) ≡ take left (drop (4096 + at) file) =
    ap (λ (k : ℕ). drop at (take k (drop 4096 file))) split ∙ drop-take at left (drop 4096 file)
    ∙ ap (λ (l : List ℕ). take left l) (drop-drop at 4096 file) in
    same ∙ is ∙ sym (take-take (length room) left (drop (4096 + at) file) (omega (arith, inside)))
    ∙ ap (λ (l : List ℕ). take (length room) l) (sym here)
    ∙ ap (λ (k : ℕ). take k (drop at (half_of scale file))) (sym long)
