-- A word is looked up among the words of its own length: `by_length`.
use Rattle.std.proofs.Common.{◌≡◌, ℕ, ◌==◌, ◌&&◌, Bool, true, false, cond, List, [], ◌∷◌, length, Some, None, refl, sym}
use Rattle.std.proofs.Common.{ap, ◌∙◌}
use Rattle.std.specs.Prelude.{nat_le}
use Rattle.std.specs.List.{list_all}
use Rattle.std.specs.Str.{bytes_eq}
use Rattle.std.proofs.lemmas.Slice.Eq.{bytes_eq-Decides}
use Rattle.std.proofs.lemmas.Bool.{and_parts, eqb-true, false≢true}
use Rattle.std.proofs.lemmas.Bool.Decides.{Decides-eqb}
use Rattle.device_script.specs.declared.keyword.Keyword.{Keyword}
use Rattle.device_script.specs.Keywords.{keywords, look_up, of_length}

not_true : (b : Bool) → ¬ (b ≡ true) → b ≡ false
not_true true h = absurd (h refl)
not_true false h = refl

-- texts of two lengths aren't one
other_length : (a b : List ℕ) → (length b == length a) ≡ false → bytes_eq a b ≡ false
other_length a b other =
    not_true (bytes_eq a b)
    (λ same. false≢true
    (sym other ∙ (Decides-eqb (length b) (length a)).1 (ap length (sym ((bytes_eq-Decides a b).0 same)))))

-- the step of `among_length`, by the test of a row
row_among : (row : List ℕ × Keyword) (rows kept : List (List ℕ × Keyword)) (word : List ℕ) (b : Bool)
    → (length row.0 == length word) ≡ b → look_up rows word ≡ look_up kept word
    → look_up (row ∷ rows) word ≡ look_up (cond b (row ∷ kept) kept) word
row_among row rows kept word true e rest = ap (λ found. cond (bytes_eq word row.0) (Some row.1) found) rest
row_among row rows kept word false e rest = rw (other_length word row.0 e) rest

among_length : (rows : List (List ℕ × Keyword)) (word : List ℕ)
    → look_up rows word ≡ look_up (of_length (length word) rows) word
among_length [] word = refl
among_length (row ∷ rows) word = row_among row rows (of_length (length word) rows) word _ refl (among_length rows word)

pub by_length : (word : List ℕ) (n : ℕ) → length word ≡ n → look_up keywords word ≡ look_up (of_length n keywords) word
by_length word n e = among_length keywords word ∙ ap (λ k. look_up (of_length k keywords) word) e

-- the lengths that keywords have
abbrev pub is_keyword_length : ℕ → Bool
is_keyword_length n = nat_le 3 n && nat_le n 8

none_of_others : (rows : List (List ℕ × Keyword)) (word : List ℕ)
    → list_all (λ row. is_keyword_length (length row.0)) rows ≡ true → is_keyword_length (length word) ≡ false
    → look_up rows word ≡ None
none_of_others [] word all out = refl
none_of_others (row ∷ rows) word all out =
    let parts = and_parts _ _ all in
    let other = not_true (length row.0 == length word)
    (λ same. false≢true (sym out ∙ ap is_keyword_length (sym (eqb-true _ _ same)) ∙ parts.0)) in
    rw (other_length word row.0 other) (none_of_others rows word parts.1 out)

-- a word of another length is none
pub none_so_long : (word : List ℕ) → is_keyword_length (length word) ≡ false → look_up keywords word ≡ None
unfolding keywords
none_so_long word out = none_of_others keywords word refl out
