-- Which of several observers acts: docs/watchdog.md, "Who acts" (after AOSP's PackageWatchdog).
use Rattle.std.specs.Prelude.{◌≡◌, ℕ, Bool, true, false, refl, List, [], ◌∷◌, position, Option, Some, None}
use Rattle.std.specs.Option.{option_or}
use Rattle.apex_base.specs.declared.records.Level.{Level}
use Rattle.apex_base.specs.declared.records.Level.TheVariants as level

abbrev pub is_low : Level → Bool
is_low level.Low = true
is_low _ = false

abbrev pub is_medium : Level → Bool
is_medium level.Medium = true
is_medium _ = false

abbrev pub is_high : Level → Bool
is_high level.High = true
is_high _ = false

-- the first of the least level above none
abbrev pub acting : List Level → Option ℕ
acting levels = option_or (position is_low levels) (option_or (position is_medium levels) (position is_high levels))

-- Worked values: of two of the least level the first acts, and of none nobody does

pub least_acts : acting (level.High ∷ level.None ∷ level.Medium ∷ level.Medium ∷ []) ≡ Some 2
least_acts = refl

pub nobody_acts : acting (level.None ∷ []) ≡ None
nobody_acts = refl
