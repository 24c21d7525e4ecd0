-- Failures and boots within a time: docs/watchdog.md, "Windows". A list of moments has the oldest first.
use Rattle.std.specs.Prelude.{◌≡◌, ℕ, ◌-◌, ◌&&◌, Bool, true, false, refl, nat_le, List, [], ◌∷◌, length, drop}
use Rattle.std.specs.List.{list_all, filter}

-- the last five moments
abbrev pub last_five : List ℕ → List ℕ
last_five moments = drop (length moments - 5) moments

-- a moment is at most so long ago; times before 0 count as 0
abbrev pub is_since : ℕ → ℕ → ℕ → Bool
is_since now span moment = nat_le (now - span) moment

-- five failures within a minute
abbrev pub is_failing : ℕ → List ℕ → Bool
is_failing now failures = nat_le 5 (length (filter (is_since now 60000) failures))

-- five boots within ten minutes, none of which is yet to come
abbrev pub is_looping : ℕ → List ℕ → Bool
is_looping now boots = nat_le 5 (length boots) && list_all (λ m. nat_le m now && is_since now 600000 m) (last_five boots)

-- Worked values: the fifth failure within a minute, and the same five with the last a millisecond later

pub within_a_minute : is_failing 60000 (0 ∷ 15000 ∷ 30000 ∷ 45000 ∷ 60000 ∷ []) ≡ true
within_a_minute = refl

pub after_a_minute : is_failing 60001 (0 ∷ 15000 ∷ 30000 ∷ 45000 ∷ 60001 ∷ []) ≡ false
after_a_minute = refl

-- five boots of seven within ten minutes; and a boot whose moment is still to come

pub within_ten_minutes : is_looping 700000 (0 ∷ 1 ∷ 100000 ∷ 200000 ∷ 300000 ∷ 400000 ∷ 700000 ∷ []) ≡ true
within_ten_minutes = refl

pub yet_to_come : is_looping 600000 (0 ∷ 100000 ∷ 600001 ∷ 500000 ∷ 600000 ∷ []) ≡ false
yet_to_come = refl
