-- Names that differ, put into a set one after another. Callers want `all_names`.
use Rattle.std.proofs.Common.{◌≡◌, ◌≢◌, ℕ, Bool, true, false, cond, ◌||◌, List, [], ◌∷◌, ◌++◌, sym, ap, ◌∙◌, refl, nat_eq}
use Rattle.std.proofs.lemmas.List.{append_assoc, append-nil}
use Rattle.std.proofs.lemmas.List.Folds.{list_any-append}
use Rattle.std.proofs.lemmas.Slice.Eq.{slice_eq-Decides}
use Rattle.std.proofs.lemmas.Bool.Decides.{Decides-eqb}
use Rattle.std.specs.List.{list_any, AllByRecursion}
use Rattle.std.specs.Cmp.Lexicographic.{pointwise}
use Rattle.indexmap.specs.IndexSet.{insert_key, insert_all}
use Rattle.apex_base.specs.Members.{EachPair}

abbrev E : List ℕ → List ℕ → Bool
E = pointwise nat_eq

not_true : (b : Bool) → (b ≡ true → ⊥) → b ≡ false
not_true true f = absurd (f refl)
not_true false f = refl

differ : (a b : List ℕ) → a ≢ b → E a b ≡ false
differ a b n = not_true (E a b) (λ e. n ((slice_eq-Decides (λ x y. Decides-eqb x y) a b (E a b) refl).0 e))

abbrev IsNew : List (List ℕ) → List ℕ → Type 0
IsNew done x = list_any (E x) done ≡ false

put_new : (done : List (List ℕ)) (x : List ℕ) → IsNew done x → insert_key E done x ≡ done ++ x ∷ []
put_new done x e = ap (λ (b : Bool). cond b done (done ++ x ∷ [])) e

new_still : (done : List (List ℕ)) (x y : List ℕ) → IsNew done y → x ≢ y → IsNew (done ++ x ∷ []) y
new_still done x y e n =
    list_any-append (E y) done (x ∷ []) ∙ ap (λ (b : Bool). b || (E y x || false)) e
    ∙ ap (λ (b : Bool). b || false) (differ y x (λ h. n (sym h)))

all_still : (done : List (List ℕ)) (x : List ℕ) (ys : List (List ℕ)) → AllByRecursion (IsNew done) ys
    → AllByRecursion (λ (y : List ℕ). x ≢ y) ys → AllByRecursion (IsNew (done ++ x ∷ [])) ys
all_still done x [] a n = tt
all_still done x (y ∷ ys) a n = (new_still done x y a.0 n.0, all_still done x ys a.1 n.1)

all_put : (done xs : List (List ℕ)) → AllByRecursion (IsNew done) xs → EachPair (λ (a b : List ℕ). a ≢ b) xs
    → insert_all E done xs ≡ done ++ xs
all_put done [] a p = sym (append-nil done)
all_put done (x ∷ xs) a p =
    ap (λ (ks : List (List ℕ)). insert_all E ks xs) (put_new done x a.0)
    ∙ all_put (done ++ x ∷ []) xs (all_still done x xs a.1 p.0) p.1
    ∙ append_assoc done (x ∷ []) xs

none_yet : (xs : List (List ℕ)) → AllByRecursion (IsNew []) xs
none_yet [] = tt
none_yet (x ∷ xs) = (refl, none_yet xs)

-- names that differ are the keys of the set, in their order
pub all_names : (xs : List (List ℕ)) → EachPair (λ (a b : List ℕ). a ≢ b) xs → insert_all E [] xs ≡ xs
all_names xs p = all_put [] xs (none_yet xs) p
