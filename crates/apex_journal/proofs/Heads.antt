-- From the first bytes of a device to the whole.
use Rattle.std.proofs.Common.{◌≡◌, ℕ, ◌≤◌, List, take, ◌∙◌, ap}
use Rattle.std.proofs.lemmas.List.{take-take}

-- of the first bytes, and of all
pub front : (n k : ℕ) (part file : List ℕ) → part ≡ take n file → k ≤ n → take k part ≡ take k file
front n k part file is le = ap (λ (l : List ℕ). take k l) is ∙ take-take k n file le
