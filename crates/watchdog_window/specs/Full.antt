-- A window that is full of late moments: docs/watchdog.md, "Windows".
use Rattle.std.specs.Prelude.{◌≡◌, ◌≤◌, ℕ, ◌&&◌, Bool, true, false, refl, nat_le, List, [], ◌∷◌, ◌++◌, length}
use Rattle.std.specs.List.{list_all}
use Rattle.apex_base.specs.Members.{EachPair}
use Rattle.apex_base.specs.Windows.{last_five, is_since, is_failing, is_looping}

-- a moment is at most `now`, and at most `span` before it
abbrev pub is_near : ℕ → ℕ → ℕ → Bool
is_near now span moment = nat_le moment now && is_since now span moment

-- five moments are held, each at most `now` and at most `span` before it
abbrev pub is_full : ℕ → ℕ → List ℕ → Bool
is_full now span moments = nat_le 5 (length moments) && list_all (is_near now span) moments

-- if failures don't fall, the last five decide at the last one whether there are five within a minute
abbrev pub FailuresAreTold : Type 0
FailuresAreTold = (earlier : List ℕ) (now : ℕ) → EachPair (λ (m n : ℕ). m ≤ n) (earlier ++ now ∷ [])
    → is_full now 60000 (last_five (earlier ++ now ∷ [])) ≡ is_failing now (earlier ++ now ∷ [])

-- the last five boots decide whether there is a boot loop, also if their moments fall
abbrev pub LoopsAreTold : Type 0
LoopsAreTold = (boots : List ℕ) (now : ℕ) → is_full now 600000 (last_five boots) ≡ is_looping now boots

-- Worked values: five within a minute, one too few, and one that is a millisecond too old

pub five : is_full 60000 60000 (0 ∷ 15000 ∷ 30000 ∷ 45000 ∷ 60000 ∷ []) ≡ true
five = refl

pub four : is_full 60000 60000 (15000 ∷ 30000 ∷ 45000 ∷ 60000 ∷ []) ≡ false
four = refl

pub too_old : is_full 60001 60000 (0 ∷ 15000 ∷ 30000 ∷ 45000 ∷ 60001 ∷ []) ≡ false
too_old = refl
