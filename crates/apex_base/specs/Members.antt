-- Elements of lists.
use Rattle.std.specs.Prelude.{◌≡◌, ◌⊎◌, ◌&&◌, Bool, true, List, [], ◌∷◌}
use Rattle.std.specs.List.{list_all, AllByRecursion}

abbrev pub In : {X : Type 0} → X → List X → Type 0
In x [] = ⊥
In x (y ∷ ys) = (y ≡ x) ⊎ In x ys

-- each element and each later one
abbrev pub EachPair : {X : Type 0} → (X → X → Type 0) → List X → Type 0
EachPair P [] = Unit {0}
EachPair P (x ∷ xs) = AllByRecursion (P x) xs × EachPair P xs

-- the same as a test
abbrev pub each_pair : {X : Type 0} → (X → X → Bool) → List X → Bool
each_pair test [] = true
each_pair test (x ∷ xs) = list_all (test x) xs && each_pair test xs
