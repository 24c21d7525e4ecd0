-- Keys that begin alike, and keys of files: what stands under a front, and how such keys compare. Callers want
-- `front_le`, `between`, `path_there`, `key_of_path` and `same_path`.
use Rattle.std.proofs.Common.{◌≡◌, ℕ, List, [], ◌∷◌, ◌++◌, Bool, true, false, cond, take, drop, Some, None, sym, ap}
use Rattle.std.proofs.Common.{◌∙◌, refl}
use Rattle.std.proofs.lemmas.List.{take-append-drop}
use Rattle.std.proofs.lemmas.Slice.Eq.{bytes_eq-Decides}
use Rattle.std.specs.Cmp.{tied_itself, nat_cmp_total}
use Rattle.std.specs.Cmp.Lexicographic.{slice_cmp}
use Rattle.std.specs.FinMap.{nat_cmp-IsAntisymmetric}
use Rattle.std.specs.Ordering.{nat_cmp, is_eq, is_le, ordering_then, ordering_reverse}
use Rattle.std.specs.Str.{bytes_eq}
use Rattle.std.specs.declared.cmp.Ordering.{Ordering}
use Rattle.std.specs.declared.cmp.Ordering.TheVariants.{Less, Equal, Greater}
use Rattle.apex_base.specs.declared.numbers.SessionId.{SessionId}
use Rattle.apex_base.specs.Keys.{file_front}
use Rattle.row_key.specs.Files.{path_in}
use Rattle.package_store.proofs.Maps.{same_key}

some_is : {A : Type 0} (x y : A) → Some x ≡ Some y → x ≡ y
some_is x y e = cc

-- these bytes come no later than the key
abbrev pub at_least : List ℕ → List ℕ → Bool
at_least front key = is_le (slice_cmp nat_cmp front key)

-- they come no later than what begins with them
pub front_le : (front rest : List ℕ) → at_least front (front ++ rest) ≡ true
front_le [] [] = refl
front_le [] (x ∷ rest) = refl
front_le (x ∷ front) rest = rw (tied_itself nat_cmp_total x) (front_le front rest)

step_if : (o p a b : Ordering) → p ≡ ordering_reverse o → is_le (ordering_then o a) ≡ true
    → ordering_then p b ≡ Less → (o ≡ Equal) × (is_le a ≡ true) × (b ≡ Less)
step_if Less p a b e le lt =
    let above : ordering_then Greater b ≡ Less = ap (λ q. ordering_then q b) (sym e) ∙ lt in absurd (cc)
step_if Equal p a b e le lt = (refl, le, ap (λ q. ordering_then q b) (sym e) ∙ lt)
step_if Greater p a b e le lt = absurd (cc)

-- a key between these bytes and one that begins with them begins with them
pub between : (front key rest : List ℕ) → at_least front key ≡ true → slice_cmp nat_cmp key (front ++ rest) ≡ Less
    → (tail : List ℕ) × (key ≡ front ++ tail)
between [] key rest le lt = (key, refl)
between (x ∷ front) [] rest le lt = absurd (cc)
between (x ∷ front) (y ∷ key) rest le lt =
    let (same, a, b) = step_if (nat_cmp x y) (nat_cmp y x) (slice_cmp nat_cmp front key)
    (slice_cmp nat_cmp key (front ++ rest)) (nat_cmp_total.antisymm y x) le lt in
    let (tail, e) = between front key rest a b in
    (tail, ap (λ z. z ∷ key) (sym (nat_cmp-IsAntisymmetric x y same)) ∙ ap (λ ys. x ∷ ys) e)

-- keys that begin alike compare as what follows
pub front_cmp : (front a b : List ℕ) → slice_cmp nat_cmp (front ++ a) (front ++ b) ≡ slice_cmp nat_cmp a b
front_cmp [] a b = refl
front_cmp (x ∷ front) a b = rw (tied_itself nat_cmp_total x) (front_cmp front a b)

module _ (session : SessionId) (part : ℕ) where
  pub file_cmp : (a b : List ℕ) → slice_cmp nat_cmp (file_front session part a) (file_front session part b)
      ≡ slice_cmp nat_cmp a b
  file_cmp a b = front_cmp (file_front session part []) a b

  pub same_path : (a b : List ℕ) → same_key (file_front session part a) (file_front session part b) ≡ same_key a b
  same_path a b = ap is_eq (file_cmp a b)

  -- a file's key has its path
  pub path_there : (path : List ℕ) → path_in session part (file_front session part path) ≡ Some path
  path_there path =
      let same : bytes_eq (file_front session part []) (file_front session part []) ≡ true =
      (bytes_eq-Decides (file_front session part []) (file_front session part [])).1 refl in rw same refl

  path_if : (b : Bool) (key path : List ℕ) → bytes_eq (take 6 key) (file_front session part []) ≡ b
      → cond b (Some (drop 6 key)) None ≡ Some path → key ≡ file_front session part path
  path_if true key path is e =
      let begins : take 6 key ≡ file_front session part [] =
      (bytes_eq-Decides (take 6 key) (file_front session part [])).0 is in
      let ends : drop 6 key ≡ path = some_is (drop 6 key) path e in
      sym (take-append-drop 6 key) ∙ ap (λ (xs : List ℕ). xs ++ drop 6 key) begins
      ∙ ap (λ (xs : List ℕ). file_front session part [] ++ xs) ends
  path_if false key path is e = absurd (cc)

  -- the key of a path is that of its file
  pub key_of_path : (key path : List ℕ) → path_in session part key ≡ Some path → key ≡ file_front session part path
  key_of_path key path e = path_if (bytes_eq (take 6 key) (file_front session part [])) key path refl e
