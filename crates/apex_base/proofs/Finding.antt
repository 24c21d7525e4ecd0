-- What is found, and what an option has. Callers want `found`, `finds`, `some_of`, `some_then`,
-- `some_if`, `is_there` and `filtered`.
use Rattle.std.proofs.Common.{◌≡◌, ◌⊎◌, Bool, true, false, cond, ◌||◌, List, [], ◌∷◌, filter, Option, Some, None, ap}
use Rattle.std.proofs.Common.{refl, inl, inr}
use Rattle.std.specs.Prelude.{find, is_some, option_and_then}
use Rattle.std.specs.List.{list_any}
use Rattle.std.specs.Option.{option_map}
use Rattle.apex_base.specs.Members.{In}

found_if : {X : Type 0} (p : X → Bool) (b : Bool) (y : X) (ys : List X) (x : X) → p y ≡ b
    → cond b (Some y) (find p ys) ≡ Some x → (find p ys ≡ Some x → In x ys × (p x ≡ true))
    → In x (y ∷ ys) × (p x ≡ true)
found_if p true y ys x is e rest = let same : y ≡ x = cc in (inl same, rw (← same) is)
found_if p false y ys x is e rest = let r = rest e in (inr r.0, r.1)

-- what is found is there, and passes
pub found : {X : Type 0} (p : X → Bool) (xs : List X) (x : X) → find p xs ≡ Some x → In x xs × (p x ≡ true)
found p [] x e = absurd (cc)
found p (y ∷ ys) x e = found_if p (p y) y ys x refl e (found p ys x)

find_if : {X : Type 0} (p : X → Bool) (b : Bool) (y : X) (ys : List X) → p y ≡ b → (b || list_any p ys) ≡ true
    → (list_any p ys ≡ true → (x : X) × (find p ys ≡ Some x)) → (x : X) × (cond b (Some y) (find p ys) ≡ Some x)
find_if p true y ys is e rest = (y, refl)
find_if p false y ys is e rest = rest e

-- where some element passes, one is found
pub finds : {X : Type 0} (p : X → Bool) (xs : List X) → list_any p xs ≡ true → (x : X) × (find p xs ≡ Some x)
finds p [] e = absurd (cc)
finds p (y ∷ ys) e = find_if p (p y) y ys refl e (finds p ys)

pub some_of : {X Y : Type 0} (f : X → Y) (o : Option X) (y : Y) → option_map f o ≡ Some y
    → (x : X) × (o ≡ Some x) × (f x ≡ y)
some_of f None y e = absurd (cc)
some_of f (Some x) y e = (x, refl, cc)

pub some_then : {X Y : Type 0} (f : X → Option Y) (o : Option X) (y : Y) → option_and_then f o ≡ Some y
    → (x : X) × (o ≡ Some x) × (f x ≡ Some y)
some_then f None y e = absurd (cc)
some_then f (Some x) y e = (x, refl, e)

pub some_if : {X : Type 0} (b : Bool) (o : Option X) (x : X) → cond b o None ≡ Some x → (b ≡ true) × (o ≡ Some x)
some_if true o x e = (refl, e)
some_if false o x e = absurd (cc)

pub is_there : {X : Type 0} (o : Option X) → is_some o ≡ true → (x : X) × (o ≡ Some x)
is_there None e = absurd (cc)
is_there (Some x) e = (x, refl)

kept_if : {X : Type 0} (p : X → Bool) (b : Bool) (x y : X) (ys : List X) → p y ≡ b → p x ≡ true
    → (y ≡ x) ⊎ In x (filter p ys) → In x (cond b (y ∷ filter p ys) (filter p ys))
kept_if p true x y ys is e h = h
kept_if p false x y ys is e (inl same) = absurd (cc (is, e, ap p same))
kept_if p false x y ys is e (inr h) = h

-- what passes is filtered
pub filtered : {X : Type 0} (p : X → Bool) (x : X) (xs : List X) → In x xs → p x ≡ true → In x (filter p xs)
filtered p x [] h e = absurd h
filtered p x (y ∷ ys) (inl same) e = kept_if p (p y) x y ys refl e (inl same)
filtered p x (y ∷ ys) (inr h) e = kept_if p (p y) x y ys refl e (inr (filtered p x ys h e))
