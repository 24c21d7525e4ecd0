-- Two lists, one after the other, without their first items. Callers want `without_parts`.
use Rattle.std.proofs.Common.{◌≡◌, ℕ, zero, suc, ◌-◌, min, List, [], ◌∷◌, ◌++◌, length, take, drop, sym, ap, ◌∙◌}
use Rattle.std.proofs.Common.{refl, arith}
use Rattle.std.proofs.lemmas.List.{length-drop, drop_min}
use Rattle.std.proofs.Math.Seq.{take-length}

module _ {X : Type 0} where
  drop_both : (n : ℕ) (xs ys : List X) → drop n (xs ++ ys) ≡ drop n xs ++ drop (n - length xs) ys
  drop_both zero [] ys = refl
  drop_both zero (x ∷ xs) ys = ap (λ (k : ℕ). (x ∷ xs) ++ drop k ys) (sym (nothing (length (x ∷ xs))))
    where
      nothing : (a : ℕ) → 0 - a ≡ 0
      nothing a = omega arith
  drop_both (suc n) [] ys = ap (λ (k : ℕ). drop k ys) (sym (whole (suc n)))
    where
      whole : (a : ℕ) → a - 0 ≡ a
      whole a = omega arith
  drop_both (suc n) (x ∷ xs) ys =
      drop_both n xs ys ∙ ap (λ (k : ℕ). drop n xs ++ drop k ys) (less n (length xs))
    where
      less : (a b : ℕ) → a - b ≡ suc a - suc b
      less a b = omega arith

  -- what a slice from a place on has
  rest_of : (n : ℕ) (xs : List X) → take (length xs - n) (drop n xs) ≡ drop n xs
  rest_of n xs = ap (λ (k : ℕ). take k (drop n xs)) (sym (length-drop n xs)) ∙ take-length (drop n xs)

  rest_from : (n m : ℕ) (xs : List X) → m ≡ min n (length xs) → take (length xs - m) (drop m xs) ≡ drop n xs
  rest_from n m xs e = rest_of m xs ∙ ap (λ (k : ℕ). drop k xs) e ∙ drop_min n xs

  pub without_parts : (n f s : ℕ) (xs ys : List X) → f ≡ min n (length xs) → s ≡ min (n - f) (length ys)
      → take (length xs - f) (drop f xs) ++ take (length ys - s) (drop s ys) ≡ drop n (xs ++ ys)
  without_parts n f s xs ys e g =
      ap (λ (zs : List X). zs ++ take (length ys - s) (drop s ys)) (rest_from n f xs e)
      ∙ ap (λ (zs : List X). drop n xs ++ zs) (rest_from (n - f) s ys g)
      ∙ ap (λ (k : ℕ). drop n xs ++ drop k ys) (past f (length xs) e)
      ∙ sym (drop_both n xs ys)
    where
      past : (f b : ℕ) → f ≡ min n b → n - f ≡ n - b
      past f b e = omega (arith, e)
