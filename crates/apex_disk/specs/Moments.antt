-- What a crash at some moment of a run of calls may leave: docs/device.md, "Moments".
use Rattle.std.specs.Prelude.{◌⊎◌, ℕ, ◌≤◌, List}

-- a crash at any moment since the old disk leaves what has P
pub record LeavesOnly {D : Type 0} (moment : D → ℕ) (images_since : D → ℕ → List ℕ → Type 0) (old new : D) (P : List ℕ
    → Type 0) : Type 0 where
  pub later : moment old ≤ moment new
  pub each : (c : List ℕ) → images_since new (moment old) c → P c
  -- for a run that began before the old disk
  pub before : (t : ℕ) (c : List ℕ) → t ≤ moment old → images_since new t c → images_since old t c ⊎ P c
