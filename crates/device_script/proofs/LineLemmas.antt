-- The lines of bytes, from the first on.
use Rattle.std.proofs.Common.{◌≡◌, ℕ, ◌+◌, ◌==◌, ◌≤◌, Bool, true, false, cond, List, [], ◌∷◌, length, sym, ap, ◌∙◌}
use Rattle.std.proofs.Common.{refl, arith}
use Rattle.std.specs.List.{slice_split, onto_first}
use Rattle.std.specs.Str.Lines.{lines, lines_of_parts, strip_carriage_return}
use Rattle.std.proofs.lemmas.List.Splits.{length-slice_split}
use Rattle.std.proofs.lemmas.List.Sums.{count_by-le-length}

-- with an element in front there is a first part
onto_is_some : (x : ℕ) (parts : List (List ℕ)) → (z : List ℕ) × (zs : List (List ℕ)) × (onto_first x parts ≡ z ∷ zs)
onto_is_some x [] = (x ∷ [], [], refl)
onto_is_some x (part ∷ parts) = (x ∷ part, parts, refl)

-- a split has a first part
split_is_some : (p : ℕ → Bool) (xs : List ℕ) → (z : List ℕ) × (zs : List (List ℕ)) × (slice_split p xs ≡ z ∷ zs)
split_is_some p [] = ([], [], refl)
split_is_some p (x ∷ xs) = by_test (p x)
  where
    by_test : (b : Bool)
        → (z : List ℕ) × (zs : List (List ℕ))
        × (cond b ([] ∷ slice_split p xs) (onto_first x (slice_split p xs)) ≡ z ∷ zs)
    by_test true = ([], slice_split p xs, refl)
    by_test false = onto_is_some x (slice_split p xs)

-- the first line, if a line feed comes after it
pub lines_first : (bytes line behind : List ℕ)
    → slice_split (λ b. b == 10) bytes ≡ line ∷ slice_split (λ b. b == 10) behind
    → lines bytes ≡ strip_carriage_return line ∷ lines behind
lines_first bytes line behind cut =
    let some = split_is_some (λ b. b == 10) behind in
    ap lines_of_parts (cut ∙ ap (λ parts. line ∷ parts) some.2)
    ∙ ap (λ parts. strip_carriage_return line ∷ lines_of_parts parts) (sym some.2)

-- an empty last part is no line
lines_of_few_parts : (parts : List (List ℕ)) → length (lines_of_parts parts) ≤ length parts
lines_of_few_parts [] = omega arith
lines_of_few_parts (x ∷ []) = by_test (length x == 0)
  where
    by_test : (b : Bool) → length (cond b [] (x ∷ [])) ≤ 1
    by_test true = omega arith
    by_test false = omega arith
lines_of_few_parts (x ∷ y ∷ more) = omega (arith, lines_of_few_parts (y ∷ more))

-- there is one line more than bytes at most
pub few_lines : (bytes : List ℕ) → length (lines bytes) ≤ length bytes + 1
few_lines bytes =
    let parts = slice_split (λ b. b == 10) bytes in
    omega (
      arith,
      lines_of_few_parts parts,
      length-slice_split (λ b. b == 10) bytes,
      count_by-le-length
          (λ b. b == 10) bytes,
    )
