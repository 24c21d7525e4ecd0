-- Where a session stands in a list that ascends by id, by what a binary search answers. Callers want `where_found`,
-- `where_put` and `id_found`.
use Rattle.std.proofs.Common.{◌≡◌, ℕ, zero, suc, ◌≤◌, ◌<◌, List, [], ◌∷◌, length}
use Rattle.std.proofs.Common.{insert, slice_get, slice_set, get_or, Some, None, Result, Ok, Err, sym, ap, ◌∙◌, refl, arith, inl, inr}
use Rattle.std.proofs.lemmas.Bool.{lt-ltb, le-ltb, eq-eqb, ne_eqb, cases_order}
use Rattle.std.specs.Prelude.{IfOk, MatchResult}
use Rattle.std.specs.List.{AllByRecursion}
use Rattle.std.specs.List.Sorted.{IsBinarySearchResult, IsSearchInRange, IsNonDecreasingBy}
use Rattle.std.specs.Ordering.{nat_cmp, ordering_index}
use Rattle.std.specs.declared.cmp.Ordering.{Ordering}
use Rattle.std.specs.declared.cmp.Ordering.TheVariants.{Less, Equal, Greater}
use Rattle.apex_base.specs.declared.numbers.SessionId.{SessionId}
use Rattle.apex_base.specs.declared.records.Record.{Record}
use Rattle.apex_base.specs.Sessions.{session_of, with_session, Ascend}
use Rattle.apex_base.proofs.SessionLemmas.{with_lt, with_eq, with_gt, of_lt, of_eq, of_gt}

-- What comparing numbers says

compared : (a b : ℕ) (x y : Ordering) → nat_cmp a b ≡ x → nat_cmp a b ≡ y → x ≡ y
compared a b x y e f = sym e ∙ f

is_less : (a b : ℕ) → a < b → nat_cmp a b ≡ Less
is_less a b l = rw (lt-ltb a b l) refl

is_equal : (a b : ℕ) → a ≡ b → nat_cmp a b ≡ Equal
is_equal a b e = rw (le-ltb a b (omega (arith, e)), eq-eqb a b e) refl

is_greater : (a b : ℕ) → b < a → nat_cmp a b ≡ Greater
is_greater a b l = rw (le-ltb a b (omega (arith, l)), ne_eqb a b (λ e. omega (arith, l, e))) refl

equal_is : (a b : ℕ) → nat_cmp a b ≡ Equal → a ≡ b
equal_is a b e = elim (cases_order a b) [
  | inl f ↦ f
  | inr o ↦ elim o [
    | inl l ↦ absurd (cc (is_less a b l, e))
    | inr l ↦ absurd (cc (is_greater a b l, e))
  ]
]

less_is : (a b : ℕ) → nat_cmp a b ≡ Less → a < b
less_is a b e = elim (cases_order a b) [
  | inl f ↦ absurd (cc (is_equal a b f, e))
  | inr o ↦ elim o [
    | inl l ↦ l
    | inr l ↦ absurd (cc (is_greater a b l, e))
  ]
]

greater_is : (a b : ℕ) → nat_cmp a b ≡ Greater → b < a
greater_is a b e = elim (cases_order a b) [
  | inl f ↦ absurd (cc (is_equal a b f, e))
  | inr o ↦ elim o [
    | inl l ↦ absurd (cc (is_less a b l, e))
    | inr l ↦ l
  ]
]

pub index_rises : (a b n : ℕ) → a ≤ b → ordering_index (nat_cmp a n) ≤ ordering_index (nat_cmp b n)
index_rises a b n l = elim (cases_order a n) [
  | inl e ↦ elim (cases_order b n) [
    | inl f ↦ rw (is_equal a n e, is_equal b n f) (omega arith)
    | inr o ↦ elim o [
      | inl m ↦ absurd (omega (arith, l, e, m))
      | inr m ↦ rw (is_equal a n e, is_greater b n m) (omega arith)
    ]
  ]
  | inr p ↦ elim p [
    | inl k ↦ rw (is_less a n k) (omega arith)
    | inr k ↦ rw (is_greater a n k, is_greater b n (omega (arith, l, k))) (omega arith)
  ]
]

-- Lists that ascend

ascend_tail : (r : Record) (xs : List Record) (k : ℕ) (d : Record) → AllByRecursion (λ (s : Record). r.id.0 < s.id.0) xs
    → k < length xs → r.id.0 < (get_or xs k d).id.0
ascend_tail r [] k d a l = absurd (omega (arith, l))
ascend_tail r (x ∷ xs) zero d a l = a.0
ascend_tail r (x ∷ xs) (suc k) d a l = ascend_tail r xs k d a.1 (omega (arith, l))

ascends : (xs : List Record) (i j : ℕ) (d : Record) → Ascend xs → i ≤ j → j < length xs
    → (get_or xs i d).id.0 ≤ (get_or xs j d).id.0
ascends [] i j d a l m = absurd (omega (arith, m))
ascends (x ∷ xs) zero zero d a l m = omega arith
ascends (x ∷ xs) zero (suc j) d a l m = let low = ascend_tail x xs j d a.0 (omega (arith, m)) in omega (arith, low)
ascends (x ∷ xs) (suc i) zero d a l m = absurd (omega (arith, l))
ascends (x ∷ xs) (suc i) (suc j) d a l m = ascends xs i j d a.1 (omega (arith, l)) (omega (arith, m))

-- so the answers of the search rise
pub rises : (xs : List Record) (n : ℕ) → Ascend xs → IsNonDecreasingBy (λ (r : Record). ordering_index (nat_cmp r.id.0 n)) xs
rises xs n a i j d l m = index_rises _ _ n (ascends xs i j d a l m)

-- What stands at a place

-- a session that has the number is found there, and its successor comes there
found_at : (xs : List Record) (i : ℕ) (id : SessionId) → Ascend xs → i < length xs
    → ((d : Record) → (get_or xs i d).id.0 ≡ id.0)
    → (session_of xs id ≡ slice_get xs i)
    × ((s : Record) → s.id.0 ≡ id.0 → with_session s xs ≡ slice_set xs i s)
found_at [] i id a l at = absurd (omega (arith, l))
found_at (x ∷ xs) zero id a l at = (of_eq id x xs (at x), λ s same. with_eq s x xs (at x ∙ sym same))
found_at (x ∷ xs) (suc i) id a l at =
    let low = ascend_tail x xs i x a.0 (omega (arith, l)) in
    let here = at x in
    let (e, f) = found_at xs i id a.1 (omega (arith, l)) at in (
      of_lt id x xs (omega (arith, low, here)) ∙ e,
      λ s same. with_lt s x xs (omega (arith, low, here, same)) ∙ ap (λ ys. x ∷ ys) (f s same),
    )

-- where all before are less and all from there on greater, none has the number, and one that has it comes there
gap_at : (xs : List Record) (i : ℕ) (id : SessionId) → i ≤ length xs
    → ((k : ℕ) (d : Record) → k < i → (get_or xs k d).id.0 < id.0)
    → ((k : ℕ) (d : Record) → i ≤ k → k < length xs → id.0 < (get_or xs k d).id.0)
    → (session_of xs id ≡ None) × ((s : Record) → s.id.0 ≡ id.0 → with_session s xs ≡ insert xs i s)
gap_at [] zero id l less more = (refl, λ s same. refl)
gap_at [] (suc i) id l less more = absurd (omega (arith, l))
gap_at (x ∷ xs) zero id l less more =
    let high = more 0 x (omega arith) (omega arith) in
    (of_gt id x xs high, λ s same. with_gt s x xs (omega (arith, high, same)))
gap_at (x ∷ xs) (suc i) id l less more =
    let low = less 0 x (omega arith) in
    let (e, f) = gap_at xs i id (omega (arith, l)) (λ k d m. less (suc k) d (omega (arith, m)))
    (λ k d m n. more (suc k) d (omega (arith, m)) (omega (arith, n))) in
    (of_lt id x xs low ∙ e, λ s same. with_lt s x xs (omega (arith, low, same)) ∙ ap (λ ys. x ∷ ys) (f s same))

-- What a search of a list that ascends has found

module _ (xs : List Record) (id : SessionId) (ascend : Ascend xs) where
  abbrev IsFound : Result ℕ ℕ → Type 0
  IsFound r = IsBinarySearchResult (λ (s : Record). nat_cmp s.id.0 id.0) xs r

  gap : (i : ℕ) → i ≤ length xs → IsFound (Err i)
      → (session_of xs id ≡ None) × ((s : Record) → s.id.0 ≡ id.0 → with_session s xs ≡ insert xs i s)
  gap i l is = let (less, more) = is (rises xs id.0 ascend) in
      gap_at xs i id l (λ k d m. less_is _ _ (less k d (omega arith) m)) (λ k d m n. greater_is _ _ (more k d m n))

  pub where_found : (r : Result ℕ ℕ) → IsSearchInRange r (length xs) → IsFound r → MatchResult r
      (λ i. (i < length xs) × (session_of xs id ≡ slice_get xs i)) (λ i. (i ≤ length xs) × (session_of xs id ≡ None))
  where_found (Ok i) l is = (l, (found_at xs i id ascend l (λ d. equal_is _ _ (is d))).0)
  where_found (Err i) l is = (l, (gap i l is).0)

  pub where_put : (s : Record) → s.id ≡ id → (r : Result ℕ ℕ) → IsSearchInRange r (length xs) → IsFound r
      → MatchResult r (λ i. with_session s xs ≡ slice_set xs i s) (λ i. with_session s xs ≡ insert xs i s)
  where_put s same (Ok i) l is =
      (found_at xs i id ascend l (λ d. equal_is _ _ (is d))).1 s (ap (λ (j : SessionId). j.0) same)
  where_put s same (Err i) l is = (gap i l is).1 s (ap (λ (j : SessionId). j.0) same)

  read_id : (ys : List Record) (i : ℕ) (r : Record) → slice_get ys i ≡ Some r
      → ((d : Record) → (get_or ys i d).id.0 ≡ id.0) → r.id.0 ≡ id.0
  read_id [] i r e at = absurd (cc)
  read_id (y ∷ ys) zero r e at = let here : y ≡ r = cc in ap (λ (x : Record). x.id.0) (sym here) ∙ at y
  read_id (y ∷ ys) (suc i) r e at = read_id ys i r e at

  pub id_found : (r : Result ℕ ℕ) → IsFound r → IfOk r (λ i. (s : Record) → slice_get xs i ≡ Some s → s.id ≡ id)
  id_found (Ok i) is = λ s e. ap (λ (n : ℕ). record { 0 = n }) (read_id xs i s e (λ d. equal_is _ _ (is d)))
  id_found (Err i) is = tt
