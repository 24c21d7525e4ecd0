-- Reading moments one after the other, and the row of boots by its parts.
use Rattle.std.proofs.Common.{◌≡◌, ℕ, zero, suc, ◌-◌, ◌+◌, ◌≤◌, ◌<◌, Bool, true, false, eqb, leb, not, ◌&&◌, List, []}
use Rattle.std.proofs.Common.{◌∷◌, length}
use Rattle.std.proofs.Common.{Option, Some, None, refl, sym, ap, ◌∙◌, arith}
use Rattle.std.specs.Prelude.{IfSome}
use Rattle.std.specs.Int.{w32}
use Rattle.std.specs.Option.{is_some}
use Rattle.std.proofs.lemmas.Bool.{ne_eqb}
use Rattle.apex_base.specs.Reading.{◌>>=◌, at_end, byte_at, number_at}
use Rattle.apex_base.specs.Spelling.{moment_at}
use Rattle.apex_world.specs.Opened.{moments_at, boots_of}
use Rattle.row_check.specs.RightRows.{are_boots}
use Rattle.row_check.proofs.OpenedRecords.{any_holds, end_holds}

one_more : (m : ℕ) (more : Option (List ℕ)) → is_some (more >>= λ ms. Some (m ∷ ms)) ≡ is_some more
one_more m None = refl
one_more m (Some ms) = refl

pub next_moment : (count i : ℕ) (bytes : List ℕ) (m : ℕ) (after : List ℕ) (total : Bool) → i < count
    → moment_at bytes ≡ Some (m, after) → is_some (moments_at (count - i) bytes) ≡ total
    → is_some (moments_at (count - (i + 1)) after) ≡ total
unfolding moments_at
next_moment count i bytes m after total lt h so_far =
    let k : count - i ≡ suc (count - (i + 1)) = omega arith in
    let one : is_some (moments_at (count - i) bytes) ≡ is_some (moments_at (count - (i + 1)) after) =
    rw (k, h) (one_more m (moments_at (count - (i + 1)) after)) in
    sym one ∙ so_far

pub no_moment : (count i : ℕ) (bytes : List ℕ) (total : Bool) → i < count → moment_at bytes ≡ None
    → is_some (moments_at (count - i) bytes) ≡ total → false ≡ total
unfolding moments_at
no_moment count i bytes total lt h so_far =
    let k : count - i ≡ suc (count - (i + 1)) = omega arith in
    let one : is_some (moments_at (count - i) bytes) ≡ false = rw (k, h) refl in
    sym one ∙ so_far

ended : (bytes : List ℕ) → is_some (at_end {X = List ℕ} [] bytes) ≡ eqb (length bytes) 0
ended [] = refl
ended (b ∷ bytes) = sym (ne_eqb (length (b ∷ bytes)) 0 (λ z. omega (arith, z)))

pub none_left : (count i : ℕ) (bytes : List ℕ) (total : Bool) → count ≤ i
    → is_some (moments_at (count - i) bytes) ≡ total → eqb (length bytes) 0 ≡ total
unfolding moments_at
none_left count i bytes total le so_far =
    let k : count - i ≡ 0 = omega arith in
    let one : is_some (moments_at (count - i) bytes) ≡ eqb (length bytes) 0 = rw k (ended bytes) in
    sym one ∙ so_far

-- so many moments are so many
moments_count : (n : ℕ) (bytes : List ℕ) → IfSome (moments_at n bytes) (λ ms. length ms ≡ n)
unfolding moments_at
moments_count zero bytes = end_holds [] bytes (λ ms. length ms ≡ 0) refl
moments_count (suc n) bytes =
    any_holds (moment_at bytes) _ _ (λ x. counted (moments_at n x.1) x.0 (moments_count n x.1))
  where
    counted : (o : Option (List ℕ)) (m : ℕ) → IfSome o (λ ms. length ms ≡ n)
        → IfSome (o >>= λ ms. Some (m ∷ ms)) (λ ms. length ms ≡ suc n)
    counted None m h = tt
    counted (Some ms) m h = ap suc h

then_none : (b : Bool) → false ≡ (b && false)
then_none true = refl
then_none false = refl

then_some : (b : Bool) → b ≡ (b && true)
then_some true = refl
then_some false = refl

are_counted : (n count : ℕ) (o : Option (List ℕ)) → IfSome o (λ ms. length ms ≡ count)
    → are_boots (o >>= λ ms. Some (n, ms)) ≡ ((not (eqb n 0) && leb count 5) && is_some o)
are_counted n count None h = then_none (not (eqb n 0) && leb count 5)
are_counted n count (Some ms) h = rw h (then_some (not (eqb n 0) && leb count 5))

-- The row of boots

pub no_number : (value : List ℕ) → number_at w32 value ≡ None → are_boots (boots_of value) ≡ false
unfolding boots_of
no_number value e = rw e refl

pub no_count : (value : List ℕ) (n : ℕ) (rest : List ℕ) → number_at w32 value ≡ Some (n, rest) → byte_at rest ≡ None
    → are_boots (boots_of value) ≡ false
unfolding boots_of
no_count value n rest e f = rw (e, f) refl

boots_test : (value : List ℕ) (n : ℕ) (rest : List ℕ) (count : ℕ) (after : List ℕ)
    → number_at w32 value ≡ Some (n, rest) → byte_at rest ≡ Some (count, after)
    → are_boots (boots_of value) ≡ ((not (eqb n 0) && leb count 5) && is_some (moments_at count after))
unfolding boots_of
boots_test value n rest count after e f =
    rw (e, f) (are_counted n count (moments_at count after) (moments_count count after))

pub boots_then : (value : List ℕ) (n : ℕ) (rest : List ℕ) (count : ℕ) (after : List ℕ)
    → number_at w32 value ≡ Some (n, rest) → byte_at rest ≡ Some (count, after)
    → true ≡ (not (eqb n 0) && leb count 5) → is_some (moments_at count after) ≡ are_boots (boots_of value)
boots_then value n rest count after e f test =
    ap (λ (b : Bool). b && is_some (moments_at count after)) test ∙ sym (boots_test value n rest count after e f)

pub boots_else : (value : List ℕ) (n : ℕ) (rest : List ℕ) (count : ℕ) (after : List ℕ)
    → number_at w32 value ≡ Some (n, rest) → byte_at rest ≡ Some (count, after)
    → false ≡ (not (eqb n 0) && leb count 5) → false ≡ are_boots (boots_of value)
boots_else value n rest count after e f test =
    ap (λ (b : Bool). b && is_some (moments_at count after)) test ∙ sym (boots_test value n rest count after e f)
