use Rattle.std.proofs.Common.{◌≡◌, ℕ, true, false, List, [], ◌∷◌, Some, None, is_some, refl, sym}
use Rattle.device_script.specs.Lines.{no_word, three_words}
use Rattle.device_script.proofs.split.three_words.Goals as goal

three : (a b c : List ℕ) (others : List (List ℕ)) → is_some (no_word others) ≡ true
    → three_words (a ∷ b ∷ c ∷ others) ≡ Some (a, b, c)
three a b c [] h = refl
three a b c (d ∷ others) h = absurd (cc)

more : (a b c : List ℕ) (others : List (List ℕ)) → is_some (no_word others) ≡ false
    → three_words (a ∷ b ∷ c ∷ others) ≡ None
more a b c [] h = absurd (cc)
more a b c (d ∷ others) h = refl

pub returns-then-is_bare : goal.returns-then-is_bare
returns-then-is_bare c =
    rw (c.in_ok-first.ensures.words, c.in_ok-second.ensures.words, c.in_ok-third.ensures.words)
    (three _ _ _ _ (sym c.if-is_bare.ensures))

pub returns-else-is_bare : goal.returns-else-is_bare
returns-else-is_bare c =
    rw (c.in_ok-first.ensures.words, c.in_ok-second.ensures.words, c.in_ok-third.ensures.words)
    (more _ _ _ _ (sym c.if-is_bare.ensures))
