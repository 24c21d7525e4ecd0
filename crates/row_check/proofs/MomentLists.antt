-- Moments that are read one after the other into a list.
use Rattle.std.proofs.Common.{◌≡◌, ℕ, suc, ◌-◌, ◌+◌, ◌≤◌, ◌<◌, Bool, true, false, cond, eqb, List, [], ◌∷◌, ◌++◌}
use Rattle.std.proofs.Common.{length, Option}
use Rattle.std.proofs.Common.{Some, None, refl, sym, ap, ◌∙◌, append_assoc, arith}
use Rattle.std.specs.Option.{option_map}
use Rattle.std.proofs.lemmas.Bool.{ne_eqb}
use Rattle.std.proofs.lemmas.List.{append-nil}
use Rattle.apex_base.specs.Reading.{◌>>=◌, at_end}
use Rattle.apex_base.specs.Spelling.{moment_at}
use Rattle.apex_world.specs.Opened.{moments_at}

-- what was read before, and what is still read
abbrev pub with_front : List ℕ → Option (List ℕ) → Option (List ℕ)
with_front ms more = option_map (λ found. ms ++ found) more

regroup : (ms : List ℕ) (m : ℕ) (more : Option (List ℕ))
    → with_front ms (more >>= λ found. Some (m ∷ found)) ≡ with_front (ms ++ m ∷ []) more
regroup ms m None = refl
regroup ms m (Some found) = ap (λ (xs : List ℕ). Some xs) (sym (append_assoc ms (m ∷ []) found))

-- one moment more
pub next_moment : (ms : List ℕ) (count i : ℕ) (bytes : List ℕ) (m : ℕ) (after : List ℕ) (total : Option (List ℕ))
    → i < count → moment_at bytes ≡ Some (m, after) → with_front ms (moments_at (count - i) bytes) ≡ total
    → with_front (ms ++ m ∷ []) (moments_at (count - (i + 1)) after) ≡ total
unfolding moments_at
next_moment ms count i bytes m after total lt h so_far =
    let k : count - i ≡ suc (count - (i + 1)) = omega arith in
    let one : with_front ms (moments_at (count - i) bytes)
    ≡ with_front (ms ++ m ∷ []) (moments_at (count - (i + 1)) after) =
    rw (k, h) (regroup ms m (moments_at (count - (i + 1)) after)) in
    sym one ∙ so_far

-- no moment where one is wanted
pub no_moment : (ms : List ℕ) (count i : ℕ) (bytes : List ℕ) (total : Option (List ℕ)) → i < count
    → moment_at bytes ≡ None → with_front ms (moments_at (count - i) bytes) ≡ total → None ≡ total
unfolding moments_at
no_moment ms count i bytes total lt h so_far =
    let k : count - i ≡ suc (count - (i + 1)) = omega arith in
    let one : with_front ms (moments_at (count - i) bytes) ≡ None = rw (k, h) refl in
    sym one ∙ so_far

end_if : (b : Bool) (ms bytes : List ℕ) → b ≡ eqb (length bytes) 0
    → with_front ms (at_end [] bytes) ≡ cond {A = Option (List ℕ)} b (Some ms) None
end_if true ms [] e = ap (λ (xs : List ℕ). Some xs) (append-nil ms)
end_if false ms [] e = absurd (cc e)
end_if true ms (b ∷ bytes) e = absurd (cc (e, ne_eqb (length (b ∷ bytes)) 0 (λ z. omega (arith, z))))
end_if false ms (b ∷ bytes) e = refl

all_read : (b : Bool) (ms : List ℕ) (count i : ℕ) (bytes : List ℕ) (total : Option (List ℕ)) → count ≤ i
    → b ≡ eqb (length bytes) 0 → with_front ms (moments_at (count - i) bytes) ≡ total
    → cond {A = Option (List ℕ)} b (Some ms) None ≡ total
unfolding moments_at
all_read b ms count i bytes total le test so_far =
    let k : count - i ≡ 0 = omega arith in
    let one : with_front ms (moments_at (count - i) bytes) ≡ cond {A = Option (List ℕ)} b (Some ms) None =
    rw k (end_if b ms bytes test) in
    sym one ∙ so_far

-- something follows the last moment
pub bytes_left : (ms : List ℕ) (count i : ℕ) (bytes : List ℕ) (total : Option (List ℕ)) → count ≤ i
    → false ≡ eqb (length bytes) 0 → with_front ms (moments_at (count - i) bytes) ≡ total → None ≡ total
bytes_left ms count i bytes total le test so_far = all_read false ms count i bytes total le test so_far

-- nothing follows it
pub none_left : (ms : List ℕ) (count i : ℕ) (bytes : List ℕ) (total : Option (List ℕ)) → count ≤ i
    → true ≡ eqb (length bytes) 0 → with_front ms (moments_at (count - i) bytes) ≡ total → Some ms ≡ total
none_left ms count i bytes total le test so_far = all_read true ms count i bytes total le test so_far
