-- Elements of lists, and what tests and maps say of them.
use Rattle.std.proofs.Common.{◌≡◌, ◌⊎◌, Bool, true, false, cond, List, [], ◌∷◌, ◌++◌, map, filter, flat_map, ap, ◌∙◌, sym, refl, inl, inr}
use Rattle.std.specs.List.{list_any, AllByRecursion}
use Rattle.std.proofs.lemmas.Bool.{or_cases, or_left, or_right}
use Rattle.apex_base.specs.Members.{In}

pub in_map : {X Y : Type 0} (f : X → Y) (x : X) (xs : List X) → In x xs → In (f x) (map f xs)
in_map f x [] h = h
in_map f x (y ∷ ys) (inl e) = inl (ap f e)
in_map f x (y ∷ ys) (inr h) = inr (in_map f x ys h)

pub in_map_back : {X Y : Type 0} (f : X → Y) (y : Y) (xs : List X) → In y (map f xs) → (x : X) × In x xs × (f x ≡ y)
in_map_back f y [] h = absurd h
in_map_back f y (x ∷ xs) (inl e) = (x, inl refl, e)
in_map_back f y (x ∷ xs) (inr h) = let (z, i, e) = in_map_back f y xs h in (z, inr i, e)

pub in_left : {X : Type 0} (x : X) (xs ys : List X) → In x xs → In x (xs ++ ys)
in_left x [] ys h = absurd h
in_left x (z ∷ xs) ys (inl e) = inl e
in_left x (z ∷ xs) ys (inr h) = inr (in_left x xs ys h)

pub in_right : {X : Type 0} (x : X) (xs ys : List X) → In x ys → In x (xs ++ ys)
in_right x [] ys h = h
in_right x (z ∷ xs) ys h = inr (in_right x xs ys h)

pub in_append : {X : Type 0} (x : X) (xs ys : List X) → In x (xs ++ ys) → In x xs ⊎ In x ys
in_append x [] ys h = inr h
in_append x (z ∷ xs) ys (inl e) = inl (inl e)
in_append x (z ∷ xs) ys (inr h) =
    elim (in_append x xs ys h) [
      | inl i ↦ inl (inr i)
      | inr i ↦ inr i
    ]

pub in_flat_map : {X Y : Type 0} (f : X → List Y) (x : X) (y : Y) (xs : List X) → In x xs → In y (f x)
    → In y (flat_map f xs)
in_flat_map f x y [] h i = absurd h
in_flat_map f x y (z ∷ xs) (inl e) i = in_left y (f z) (flat_map f xs) (rw e i)
in_flat_map f x y (z ∷ xs) (inr h) i = in_right y (f z) (flat_map f xs) (in_flat_map f x y xs h i)

pub in_flat_map_back : {X Y : Type 0} (f : X → List Y) (y : Y) (xs : List X) → In y (flat_map f xs)
    → (x : X) × In x xs × In y (f x)
in_flat_map_back f y [] h = absurd h
in_flat_map_back f y (x ∷ xs) h =
    elim (in_append y (f x) (flat_map f xs) h) [
      | inl i ↦ (x, inl refl, i)
      | inr i ↦ let (z, j, k) = in_flat_map_back f y xs i in (z, inr j, k)
    ]

-- some element passes a test

pub any_in : {X : Type 0} (p : X → Bool) (xs : List X) → list_any p xs ≡ true → (x : X) × In x xs × (p x ≡ true)
any_in p [] h = absurd (cc)
any_in p (x ∷ xs) h =
    elim (or_cases (p x) (list_any p xs) h) [
      | inl e ↦ (x, inl refl, e)
      | inr e ↦ let (y, i, f) = any_in p xs e in (y, inr i, f)
    ]

pub in_any : {X : Type 0} (p : X → Bool) (x : X) (xs : List X) → In x xs → p x ≡ true → list_any p xs ≡ true
in_any p x [] h e = absurd h
in_any p x (y ∷ ys) (inl s) e = or_left (p y) (list_any p ys) (ap p s ∙ e)
in_any p x (y ∷ ys) (inr h) e = or_right (p y) (list_any p ys) (in_any p x ys h e)

-- each element has a property

pub each_in : {X : Type 0} (P : X → Type 0) (xs : List X) → AllByRecursion P xs → (x : X) → In x xs → P x
each_in P [] a x h = absurd h
each_in P (y ∷ ys) a x (inl e) = rw (← e) a.0
each_in P (y ∷ ys) a x (inr h) = each_in P ys a.1 x h

pub in_each : {X : Type 0} (P : X → Type 0) (xs : List X) → ((x : X) → In x xs → P x) → AllByRecursion P xs
in_each P [] a = tt
in_each P (y ∷ ys) a = (a y (inl refl), in_each P ys (λ x h. a x (inr h)))

-- a map that leaves each element leaves the list
pub map_same : {X : Type 0} (f : X → X) (xs : List X) → ((x : X) → In x xs → f x ≡ x) → map f xs ≡ xs
map_same f [] same = refl
map_same f (x ∷ xs) same = let here = same x (inl refl) in let rest = map_same f xs (λ y h. same y (inr h)) in cc (
  here,
  rest,
)

filter_if : {X : Type 0} (p : X → Bool) (x y : X) (ys zs : List X) (b : Bool) → p y ≡ b → (In x zs
    → In x ys × (p x ≡ true)) → In x (cond b (y ∷ zs) zs) → In x (y ∷ ys) × (p x ≡ true)
filter_if p x y ys zs true e rest (inl s) = (inl s, ap p (sym s) ∙ e)
filter_if p x y ys zs true e rest (inr h) = let (i, f) = rest h in (inr i, f)
filter_if p x y ys zs false e rest h = let (i, f) = rest h in (inr i, f)

-- what is filtered passes
pub in_filter : {X : Type 0} (p : X → Bool) (x : X) (xs : List X) → In x (filter p xs) → In x xs × (p x ≡ true)
in_filter p x [] h = absurd h
in_filter p x (y ∷ ys) h = filter_if p x y ys (filter p ys) (p y) refl (in_filter p x ys) h
