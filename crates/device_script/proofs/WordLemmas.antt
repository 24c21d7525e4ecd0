-- The first word of a line, and the words after it: `words_cut`.
use Rattle.std.proofs.Common.{◌≡◌, ℕ, zero, suc, ◌+◌, ◌==◌, ◌<◌, false, not, List, [], ◌∷◌, length, take, drop, get_or}
use Rattle.std.proofs.Common.{Option, Some, None, refl, ap, ◌∙◌, arith, rules}
use Rattle.std.specs.Prelude.{filter}
use Rattle.std.specs.List.{slice_split, position, position_or_len}
use Rattle.std.proofs.lemmas.List.{drop_more}
use Rattle.std.proofs.lemmas.Option.{cond_some}
use Rattle.std.proofs.lemmas.Bool.Decides.{nat_tests}
use Rattle.apex_base.proofs.Cuts.{split_none, split_some}
use Rattle.device_script.specs.Words.{words_of, cut_at, cut_at_space}

-- the first space isn't at a byte that is none
not_first : (b : ℕ) (bs : List ℕ) → (b == 32) ≡ false → position (λ b. b == 32) (b ∷ bs) ≡ Some 0 → ⊥
not_first b bs e at =
    let first = cond_some _ (position_or_len (λ b. b == 32) (b ∷ bs)) 0 at in
    omega (arith, rw e at first.1)

-- a word that isn't empty is kept
kept : (b : ℕ) (bs : List ℕ) (ws : List (List ℕ))
    → filter (λ w. not (length w == 0)) ((b ∷ bs) ∷ ws) ≡ (b ∷ bs) ∷ filter (λ w. not (length w == 0)) ws
kept b bs ws = grind (arith, rules, nat_tests)

words_at : (b : ℕ) (bs : List ℕ) (place : Option ℕ) → (b == 32) ≡ false → position (λ b. b == 32) (b ∷ bs) ≡ place
    → words_of (b ∷ bs) ≡ (cut_at place (b ∷ bs)).0 ∷ words_of (cut_at place (b ∷ bs)).1
words_at b bs None e at = ap (filter (λ w. not (length w == 0))) (split_none (λ b. b == 32) (b ∷ bs) at) ∙ kept b bs []
words_at b bs (Some zero) e at = absurd (not_first b bs e at)
words_at b bs (Some (suc i)) e at =
    ap (filter (λ w. not (length w == 0))) (split_some (λ b. b == 32) (b ∷ bs) (suc i) 0 at)
    ∙ kept b (take i bs) (slice_split (λ b. b == 32) (drop (suc i + 1) (b ∷ bs)))

-- from a byte on that isn't a space, a line is its first word and the words after it
pub words_cut : (line : List ℕ) (i : ℕ) → i < length line → (get_or line i 0 ≡ 32 → ⊥)
    → words_of (drop i line) ≡ (cut_at_space (drop i line)).0 ∷ words_of (cut_at_space (drop i line)).1
words_cut line i within ne = rw (drop_more line i 0 within) (words_at _ _ _ (grind (arith, nat_tests, ne)) refl)
