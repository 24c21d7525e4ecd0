-- The history of a turn, by lanes, and what comes back at `close`.
use Rattle.std.specs.Prelude.{◌≡◌, ◌⊎◌, ℕ, zero, suc, ◌+◌, ◌-◌, ◌<◌, ◌≤◌, List, [], ◌∷◌, ◌++◌, length, map, take, filter, nat_eq}
use Rattle.std.specs.List.{AllByRecursion as Each}
use Rattle.call_turn.specs.declared.Entry.{Entry}

module _ {Order Answer : Type 0} where
  -- the entries of one lane
  abbrev pub of_lane : ℕ → List (Entry Order Answer) → List (Entry Order Answer)
  of_lane n es = filter (λ e. nat_eq e.lane n) es

-- n is one of the numbers
abbrev pub Among : ℕ → List ℕ → Type 0
Among n [] = ⊥
Among n (m ∷ ms) = (m ≡ n) ⊎ Among n ms

-- the lanes k, k + 1 .., n of them
abbrev pub lanes_from : ℕ → ℕ → List ℕ
lanes_from k zero = []
lanes_from k (suc n) = k ∷ lanes_from (k + 1) n

-- What a pass tells: its lane, its entries, and how many entries there were when it last looked
pub record Account (Order Answer : Type 0) : Type 0 where
  pub lane : ℕ
  pub entries : List (Entry Order Answer)
  pub known : ℕ

-- as many as were given, and each lane among them
abbrev pub IsAll : ℕ → List ℕ → Type 0
IsAll lanes ns = (length ns ≡ lanes) × ((n : ℕ) → 0 < n → n ≤ lanes → Among n ns)

-- The object that comes back has the start of the one that was given, and its entries first. Behind them stand each pass's entries, in order, and no others. All entries of a pass are among the first that it knew of.
pub record Returned {O Order Answer Start : Type 0} (history : O → List (Entry Order Answer)) (start_of : O → Start) (first back : O) (accounts : List (Account Order Answer)) : Type 0 where
  pub start : start_of back ≡ start_of first
  pub behind : List (Entry Order Answer)
  pub begins : history back ≡ history first ++ behind
  pub each : Each (λ p. p.entries ≡ of_lane p.lane behind) accounts
  pub others : Each (λ e. Among e.lane (map (λ p. p.lane) accounts)) behind
  pub seen : Each (λ p. (p.known ≤ length (history back)) × (p.entries ≡ of_lane p.lane (take (p.known - length (history first)) behind))) accounts
