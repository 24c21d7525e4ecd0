-- Reads of a source, one after another.
use Rattle.std.proofs.Common.{◌≡◌, ◌<◌, ◌≤◌, ◌+◌, ℕ, List, [], ◌++◌, length, take, Option, Some, None, Result, Ok, Err}
use Rattle.std.proofs.Common.{sym, ap, ◌∙◌, refl, arith, inl, inr, append_assoc}
use Rattle.std.specs.Prelude.{IfSome, ◌⊎◌}
use Rattle.std.proofs.lemmas.List.{length-append, length-take-le}
use Rattle.apex_base.specs.Outside.{Took}
use Rattle.device_play.specs.Source.{Moved, Ended, TakesAtMost}

nil_front : (rest : List ℕ) (xs : List ℕ) → xs ≡ [] → xs ≡ rest → rest ≡ []
nil_front rest xs e f = sym f ∙ e

-- no byte of a space that isn't empty is the end
pub took_none : (E : Type 0) (old new : Option (List ℕ)) (buffer : List ℕ) (n : ℕ) → n ≡ 0 → 0 < length buffer
    → Took {E = E} old new (Ok n) buffer → Ended old new
took_none E None new buffer n zero room took = tt
took_none E (Some old) None buffer n zero room took = absurd took
took_none E (Some old) (Some new) buffer n zero room took = by_end (took.end zero)
  where
    by_end : (length buffer ≡ 0) ⊎ (old ≡ []) → new ≡ []
    by_end (inl short) = absurd (omega (arith, short, room))
    by_end (inr none) = nil_front new old none (took.taken ∙ ap (λ k. take k buffer ++ new) zero)

-- a read takes no more than its buffer holds
pub took_most : {E : Type 0} (old new : Option (List ℕ)) (r : Result ℕ E) (buffer : List ℕ) (n : ℕ) → r ≡ Ok n
    → n ≤ length buffer → Took old new r buffer → TakesAtMost (length buffer) old new
took_most None new r buffer n is within took = tt
took_most (Some old) None (Ok m) buffer n is within took = absurd took
took_most (Some old) None (Err e) buffer n is within took = absurd (cc)
took_most (Some old) (Some new) (Ok m) buffer n is within took =
    let same : m ≡ n = cc in
    (take m buffer, took.taken, omega (arith, same, within, length-take-le m buffer (omega (arith, same, within))))
took_most (Some old) (Some new) (Err e) buffer n is within took = absurd (cc)

pub Moved-none : (old : Option (List ℕ)) (text : List ℕ) → Moved old old text text
Moved-none None text = tt
Moved-none (Some xs) text = refl

pub Moved-more : (old mid new : Option (List ℕ)) (a b c : List ℕ) → Moved old mid a b → Moved mid new b c
    → Moved old new a c
Moved-more None mid new a b c p q = tt
Moved-more (Some x) None new a b c p q = absurd p
Moved-more (Some x) (Some y) None a b c p q = absurd q
Moved-more (Some x) (Some y) (Some z) a b c p q = p ∙ q

pub Ended-moved : (old mid new : Option (List ℕ)) (a b : List ℕ) → Moved old mid a b → Ended mid new → Ended old new
Ended-moved None mid new a b p q = tt
Ended-moved (Some x) None new a b p q = absurd p
Ended-moved (Some x) (Some y) None a b p q = absurd q
Ended-moved (Some x) (Some y) (Some z) a b p q = q

-- all that was there is longer than what was read of it
pub Moved-long : (old new : Option (List ℕ)) (text : List ℕ) → Moved old new [] text → 16777216 < length text
    → IfSome old (λ all. 16777216 < length all)
Moved-long None new text p lt = tt
Moved-long (Some x) None text p lt = absurd p
Moved-long (Some x) (Some y) text p lt = omega (arith, ap length p, length-append text y)

-- no more was taken than was read
pub TakesAtMost-moved : (old new : Option (List ℕ)) (text : List ℕ) (most : ℕ) → Moved old new [] text
    → length text ≤ most → TakesAtMost most old new
TakesAtMost-moved None new text most p le = tt
TakesAtMost-moved (Some x) None text most p le = absurd p
TakesAtMost-moved (Some x) (Some y) text most p le = (text, p, le)

-- a read more
pub TakesAtMost-more : (old mid new : Option (List ℕ)) (text : List ℕ) (n most : ℕ) → Moved old mid [] text
    → TakesAtMost n mid new → length text + n ≤ most → TakesAtMost most old new
TakesAtMost-more None mid new text n most p q le = tt
TakesAtMost-more (Some x) None new text n most p q le = absurd p
TakesAtMost-more (Some x) (Some y) None text n most p q le = absurd q
TakesAtMost-more (Some x) (Some y) (Some z) text n most p q le = (
  text ++ q.0,
  p ∙ ap (λ v. text ++ v) q.1 ∙ sym (append_assoc text q.0 z),
  omega (arith, length-append text q.0, q.2, le),
)

pub TakesAtMost-none : (old : Option (List ℕ)) (most : ℕ) → TakesAtMost most old old
TakesAtMost-none None most = tt
TakesAtMost-none (Some x) most = ([], refl, omega arith)

-- an error is the same whatever value the call would have had
pub err_as : {A B E : Type 0} (x y : E) → ◌≡◌ {A = Result A E} (Err x) (Err y) → ◌≡◌ {A = Result B E} (Err x) (Err y)
err_as x y e = let same : x ≡ y = cc in ap Err same
