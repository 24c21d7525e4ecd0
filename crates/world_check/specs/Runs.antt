-- Things that have a key and a weight, where those of one key stand next to each other, as a run.
use Rattle.std.specs.Prelude.{ℕ, ◌+◌, ◌&&◌, nat_le, Bool, true, List, [], ◌∷◌, if◌then◌else◌}
use Rattle.std.specs.List.{sum_by}

module _ {K : Type 0} (same : K → K → Bool) where
  -- what a run weighs with one more thing, which goes on with it or begins another
  abbrev pub run_weight : K → ℕ → K × ℕ → ℕ
  run_weight key weight x = if same key x.0 then weight + x.1 else x.1

  -- no run weighs more than the most, where the first goes on with one of this key and weight
  abbrev pub are_light : ℕ → K → ℕ → List (K × ℕ) → Bool
  are_light most key weight [] = true
  are_light most key weight (x ∷ xs) =
      nat_le (run_weight key weight x) most && are_light most x.0 (run_weight key weight x) xs

  -- what the things of a key weigh
  abbrev pub weight_if : K → K × ℕ → ℕ
  weight_if key x = if same key x.0 then x.1 else 0

  abbrev pub key_weight : K → List (K × ℕ) → ℕ
  key_weight key xs = sum_by (weight_if key) xs

  -- the keys of the runs, after one of this key
  abbrev pub run_keys : K → List (K × ℕ) → List K
  run_keys key [] = []
  run_keys key (x ∷ xs) = if same key x.0 then run_keys x.0 xs else x.0 ∷ run_keys x.0 xs
