-- Lists of views, where one of them changes.
use Rattle.std.proofs.Common.{◌≡◌, ◌≢◌, ℕ, zero, suc, ◌<◌, ◌⊎◌, List, [], ◌∷◌, ◌++◌, map, length, set, sym, refl, ap, subst, ◌∙◌, inl, inr, ⊎_elim, arith}
use mathlib.Core.Option.{some, some-injective, some-ne-none}
use Rattle.std.specs.List.{AllByRecursion as Each}
use Rattle.call_turn.specs.History.{Among}
use Rattle.call_turn.specs.Rule.{Foreign, Separate}
use lib.ListN.{get_elem?}
use Rattle.atomic_table.proofs.Lists.{at_set}

pub eq_or_ne : (a b : ℕ) → (a ≡ b) ⊎ (a ≢ b)
eq_or_ne zero zero = inl refl
eq_or_ne zero (suc b) = inr (λ e. omega arith)
eq_or_ne (suc a) zero = inr (λ e. omega arith)
eq_or_ne (suc a) (suc b) = ⊎_elim (λ (e : a ≡ b). inl (ap suc e)) (λ (n : a ≢ b). inr (λ e. n (omega arith))) (eq_or_ne a b)

module _ {V : Type 0} where
  pub at_below : (l : List V) (i : ℕ) (a : V) → get_elem? l i ≡ some a → i < length l
  at_below [] i a e = absurd (some-ne-none a (sym e))
  at_below (x ∷ xs) zero a e = omega arith
  at_below (x ∷ xs) (suc i) a e = let h = at_below xs i a e in omega arith

  pub one_there : (l : List V) (i : ℕ) (a b : V) → get_elem? l i ≡ some a → get_elem? l i ≡ some b → a ≡ b
  one_there l i a b e f = some-injective a b (sym e ∙ f)

  pub each_set : (P : V → Type 0) (l : List V) (id : ℕ) (w : V) → P w → ((j : ℕ) (v : V) → j ≢ id → get_elem? l j ≡ some v → P v)
      → (j : ℕ) (v : V) → get_elem? (set l id w) j ≡ some v → P v
  each_set P l id w new old j v e =
      ⊎_elim (λ (p : (j ≡ id) × (w ≡ v)). subst P p.1 new) (λ (p : (j ≢ id) × (get_elem? l j ≡ some v)). old j v p.0 p.1) (at_set l id j w v e)

  pub pairs_set : (R : V → V → Type 0) (l : List V) (id : ℕ) (w : V)
      → ((i j : ℕ) (a b : V) → i ≢ j → get_elem? l i ≡ some a → get_elem? l j ≡ some b → R a b)
      → ((j : ℕ) (b : V) → j ≢ id → get_elem? l j ≡ some b → R w b)
      → ((j : ℕ) (b : V) → j ≢ id → get_elem? l j ≡ some b → R b w)
      → (i j : ℕ) (a b : V) → i ≢ j → get_elem? (set l id w) i ≡ some a → get_elem? (set l id w) j ≡ some b → R a b
  pairs_set R l id w old left right i j a b ne ea eb = ⊎_elim
      (λ (p : (i ≡ id) × (w ≡ a)). ⊎_elim
      (λ (q : (j ≡ id) × (w ≡ b)). absurd (ne (p.0 ∙ sym q.0)))
      (λ (q : (j ≢ id) × (get_elem? l j ≡ some b)). let Q : V → Type 0 = λ x. R x b in subst Q p.1 (left j b q.0 q.1))
      (at_set l id j w b eb))
      (λ (p : (i ≢ id) × (get_elem? l i ≡ some a)). ⊎_elim
      (λ (q : (j ≡ id) × (w ≡ b)). let Q : V → Type 0 = λ x. R a x in subst Q q.1 (right i a p.0 p.1))
      (λ (q : (j ≢ id) × (get_elem? l j ≡ some b)). old i j a b ne p.1 q.1)
      (at_set l id j w b eb))
      (at_set l id i w a ea)

  pub at_snoc_place : (l : List V) (a b : V) (j : ℕ) → get_elem? (l ++ a ∷ []) j ≡ some b → (get_elem? l j ≡ some b) ⊎ ((j ≡ length l) × (a ≡ b))
  at_snoc_place [] a b zero e = inr (refl, some-injective a b e)
  at_snoc_place [] a b (suc j) e = absurd (some-ne-none b (sym e))
  at_snoc_place (x ∷ xs) a b zero e = inl e
  at_snoc_place (x ∷ xs) a b (suc j) e = ⊎_elim (λ h. inl h) (λ (h : (j ≡ length xs) × (a ≡ b)). inr (ap suc h.0, h.1)) (at_snoc_place xs a b j e)

  pub pairs_snoc : (R : V → V → Type 0) (l : List V) (x : V)
      → ((i j : ℕ) (a b : V) → i ≢ j → get_elem? l i ≡ some a → get_elem? l j ≡ some b → R a b)
      → ((j : ℕ) (b : V) → get_elem? l j ≡ some b → R x b)
      → ((j : ℕ) (b : V) → get_elem? l j ≡ some b → R b x)
      → (i j : ℕ) (a b : V) → i ≢ j → get_elem? (l ++ x ∷ []) i ≡ some a → get_elem? (l ++ x ∷ []) j ≡ some b → R a b
  pairs_snoc R l x old left right i j a b ne ea eb = ⊎_elim
      (λ (p : get_elem? l i ≡ some a). ⊎_elim
      (λ (q : get_elem? l j ≡ some b). old i j a b ne p q)
      (λ (q : (j ≡ length l) × (x ≡ b)). let Q : V → Type 0 = λ y. R a y in subst Q q.1 (right i a p))
      (at_snoc_place l x b j eb))
      (λ (p : (i ≡ length l) × (x ≡ a)). ⊎_elim
      (λ (q : get_elem? l j ≡ some b). let Q : V → Type 0 = λ y. R y b in subst Q p.1 (left j b q))
      (λ (q : (j ≡ length l) × (x ≡ b)). absurd (ne (p.0 ∙ sym q.0)))
      (at_snoc_place l x b j eb))
      (at_snoc_place l x a i ea)

module _ {X : Type 0} where
  pub each_append : (P : X → Type 0) (xs ys : List X) → Each P xs → Each P ys → Each P (xs ++ ys)
  each_append P [] ys a b = b
  each_append P (x ∷ xs) ys a b = (a.0, each_append P xs ys a.1 b)

  pub each_of : (P : X → Type 0) → ((x : X) → P x) → (xs : List X) → Each P xs
  each_of P f [] = tt
  each_of P f (x ∷ xs) = (f x, each_of P f xs)

  pub each_front : (P : X → Type 0) (xs ys : List X) → Each P (xs ++ ys) → Each P xs
  each_front P [] ys a = tt
  each_front P (x ∷ xs) ys a = (a.0, each_front P xs ys a.1)

  pub each_back : (P : X → Type 0) (xs ys : List X) → Each P (xs ++ ys) → Each P ys
  each_back P [] ys a = a
  each_back P (x ∷ xs) ys a = each_back P xs ys a.1

  pub each_weaker : (P Q : X → Type 0) → ((x : X) → P x → Q x) → (xs : List X) → Each P xs → Each Q xs
  each_weaker P Q f [] a = tt
  each_weaker P Q f (x ∷ xs) a = (f x a.0, each_weaker P Q f xs a.1)

  pub each_map : {Y : Type 0} (P : X → Type 0) (f : Y → X) (ys : List Y) → Each (λ y. P (f y)) ys → Each P (map f ys)
  each_map P f [] a = tt
  each_map P f (y ∷ ys) a = (a.0, each_map P f ys a.1)

-- lists of numbers with nothing in common
pub foreign_none : (ns : List ℕ) → Foreign ns []
foreign_none [] = tt
foreign_none (n ∷ ns) = (tt, foreign_none ns)

column : (m : ℕ) (ms ns : List ℕ) → Foreign ns (m ∷ ms) → Each (λ n. m ≢ n) ns
column m ms [] f = tt
column m ms (n ∷ ns) f = ((λ e. f.0.0 (sym e)), column m ms ns f.1)

columns : (m : ℕ) (ms ns : List ℕ) → Foreign ns (m ∷ ms) → Foreign ns ms
columns m ms [] f = tt
columns m ms (n ∷ ns) f = (f.0.1, columns m ms ns f.1)

pub foreign_swap : (ns ms : List ℕ) → Foreign ns ms → Foreign ms ns
foreign_swap ns [] f = tt
foreign_swap ns (m ∷ ms) f = (column m ms ns f, foreign_swap ns ms (columns m ms ns f))

pub separate_append : (ns ms : List ℕ) → Separate ns → Separate ms → Foreign ns ms → Separate (ns ++ ms)
separate_append [] ms a b f = b
separate_append (n ∷ ns) ms a b f = (each_append (λ m. n ≢ m) ns ms a.0 f.0, separate_append ns ms a.1 b f.1)

pub not_among : (n : ℕ) (ms : List ℕ) → Each (λ m. n ≢ m) ms → Among n ms → ⊥
not_among n [] a e = e
not_among n (m ∷ ms) a (inl e) = a.0 (sym e)
not_among n (m ∷ ms) a (inr e) = not_among n ms a.1 e
