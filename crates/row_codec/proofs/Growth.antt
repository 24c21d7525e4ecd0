-- What is added at the end leaves what was there.
use Rattle.std.proofs.Common.{◌≡◌, List, [], ◌++◌, length, take, drop, refl, sym, ap, ◌∙◌, append_assoc}
use Rattle.std.proofs.lemmas.List.{take_at, take-append-drop, append-nil}

-- nothing was added
pub kept_itself : {A : Type 0} (xs : List A) → take (length xs) xs ≡ xs
kept_itself xs = ap (λ ys. take (length xs) ys) (sym (append-nil xs)) ∙ take_at xs [] (length xs) refl

pub kept_front : {A : Type 0} (xs ys : List A) → take (length xs) (xs ++ ys) ≡ xs
kept_front xs ys = take_at xs ys (length xs) refl

longer : {A : Type 0} (xs ys : List A) → take (length xs) ys ≡ xs → ys ≡ xs ++ drop (length xs) ys
longer {A} xs ys e = sym (take-append-drop (length xs) ys) ∙ ap (λ (front : List A). front ++ drop (length xs) ys) e

-- one after another
pub kept_through : {A : Type 0} (xs ys zs : List A) → take (length xs) ys ≡ xs → take (length ys) zs ≡ ys
    → take (length xs) zs ≡ xs
kept_through {A} xs ys zs e f =
    let more = drop (length xs) ys ++ drop (length ys) zs in
    let whole : zs ≡ xs ++ more =
    longer ys zs f ∙ ap (λ (front : List A). front ++ drop (length ys) zs) (longer xs ys e)
    ∙ append_assoc xs (drop (length xs) ys) (drop (length ys) zs) in
    ap (λ (all : List A). take (length xs) all) whole ∙ kept_front xs more

-- two pieces and then the rest
pub added_twice : {A : Type 0} (xs one two a b : List A) → one ≡ xs ++ a → two ≡ one ++ b → two ≡ xs ++ (a ++ b)
added_twice {A} xs one two a b e f = f ∙ ap (λ (ys : List A). ys ++ b) e ∙ append_assoc xs a b

pub added_behind : {A : Type 0} (xs two all a b c : List A) → two ≡ xs ++ (a ++ b) → all ≡ two ++ c
    → all ≡ xs ++ (a ++ (b ++ c))
added_behind {A} xs two all a b c e f =
    f ∙ ap (λ (ys : List A). ys ++ c) e ∙ append_assoc xs (a ++ b) c
    ∙ ap (λ (ys : List A). xs ++ ys) (append_assoc a b c)

pub ruleset growth = (kept_itself, kept_front, kept_through)
