-- The number that a front of digits spells is no greater than that of all.
use Rattle.std.proofs.Common.{◌≡◌, ℕ, ◌+◌, ◌-◌, ◌*◌, ◌≤◌, List, [], ◌∷◌, take, drop, fold, sym, ap, ◌∙◌, arith}
use Rattle.std.proofs.lemmas.List.{take-append-drop}
use Rattle.std.proofs.lemmas.List.Sums.{fold-append}
use Rattle.device_script.specs.Words.{decimal_value}

-- digits after a number make no lesser number
grows : (ds : List ℕ) (n : ℕ) → n ≤ fold (λ n d. 10 * n + (d - 48)) n ds
grows [] n = omega arith
grows (d ∷ ds) n = omega (arith, grows ds (10 * n + (d - 48)))

pub front_at_most : (ds : List ℕ) (i : ℕ) → decimal_value (take i ds) ≤ decimal_value ds
front_at_most ds i =
    let whole : decimal_value ds ≡ fold (λ n d. 10 * n + (d - 48)) (decimal_value (take i ds)) (drop i ds) =
    ap decimal_value (sym (take-append-drop i ds)) ∙ fold-append (λ n d. 10 * n + (d - 48)) 0 (take i ds)
    (drop i ds) in
    omega (arith, whole, grows (drop i ds) (decimal_value (take i ds)))
