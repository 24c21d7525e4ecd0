-- A loop that rewrites each element of a list, and notes something of each. Callers want `next_untouched` and
-- `noted_more`.
use Rattle.std.proofs.Common.{◌≡◌, ℕ, ◌+◌, ◌-◌, ◌<◌, List, [], ◌∷◌, ◌++◌, length, get_or, map, flat_map, take, drop}
use Rattle.std.proofs.Common.{sym, ap, ◌∙◌, arith}
use Rattle.std.proofs.Math.Seq.{get_or-append_right}
use Rattle.std.proofs.lemmas.List.{length-map, length-take-le, take_more, flat_map_more}
use Rattle.std.proofs.lemmas.Grind.{common_steps}

-- the element that comes is still the one that it was
pub next_untouched : {X : Type 0} (f : X → X) (xs ys : List X) (i : ℕ) (x : X) → i < length xs
    → ys ≡ map f (take i xs) ++ drop i xs → x ≡ get_or ys i x → x ≡ get_or xs i x
next_untouched f xs ys i x lt so_far at =
    let front : length (map f (take i xs)) ≡ i = length-map (take i xs) f ∙ length-take-le i xs (omega arith) in
    let here : get_or (map f (take i xs) ++ drop i xs) i x ≡ get_or (drop i xs) (i - length (map f (take i xs))) x =
    get_or-append_right (map f (take i xs)) (drop i xs) i x (omega arith) in
    let zero : i - length (map f (take i xs)) ≡ 0 = omega arith in
    at ∙ ap (λ zs. get_or zs i x) so_far ∙ here ∙ ap (λ k. get_or (drop i xs) k x) zero ∙ grind (arith, common_steps)

-- what is noted of one element more
pub noted_more : {X Y : Type 0} (note : X → List Y) (xs : List X) (i : ℕ) (x : X) (old so_far : List Y) {new : List Y}
    → i < length xs → x ≡ get_or xs i x → new ≡ so_far ++ note x → so_far ≡ old ++ flat_map note (take i xs)
    → new ≡ old ++ flat_map note (take (i + 1) xs)
noted_more note xs i x old so_far lt at here invariant =
    let more : take (i + 1) xs ≡ take i xs ++ x ∷ [] = take_more xs i x lt ∙ ap (λ y. take i xs ++ y ∷ []) (sym at) in
    here ∙ ap (λ zs. zs ++ note x) invariant
    ∙ flat_map_more note old (take i xs) x ∙ ap (λ zs. old ++ flat_map note zs) (sym more)
