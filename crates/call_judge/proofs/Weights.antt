-- What the rows of files weigh after a batch. Callers want `weighs_after` and `lost_most`.
use Rattle.std.proofs.Common.{◌≡◌, ℕ, ◌+◌, ◌≤◌, Bool, true, false, cond, List, [], ◌∷◌, Option, Some, None, sym, ap, ◌∙◌}
use Rattle.std.proofs.Common.{refl, arith, T}
use Rattle.std.specs.Ordering.{nat_cmp, is_lt, is_eq}
use Rattle.std.proofs.lemmas.Bool.{and_parts, and_from}
use Rattle.std.specs.declared.cmp.Ordering.{Ordering}
use Rattle.std.specs.declared.cmp.Ordering.TheVariants.{Less, Equal, Greater}
use Rattle.std.specs.Cmp.Lexicographic.{slice_cmp, nat_list_cmp_total}
use Rattle.std.specs.List.{sum_by, AllByRecursion}
use Rattle.std.specs.List.Sorted.{IsStrictlySortedBy}
use Rattle.std.specs.FinMap as fin
use Rattle.std.specs.FinMap.{entries-insert, get-entries, entries_sorted, is_sorted}
use Rattle.std.specs.FinMap.Entries.{put, find, by_order, below_all}
use Rattle.std.proofs.lemmas.List.Sums.{sum_by-cons}
use Rattle.apex_base.specs.RowSums.{file_row_weight, kept_weight}
use Rattle.row_codec.specs.declared.batch.Row.{Row}
use Rattle.row_codec.specs.Batch.{keys_of}
use Rattle.row_map.specs.Rows.{RowMap, changed, changed_at}
use Rattle.row_map.specs.Room.{same_key}
use Rattle.call_judge.specs.Weights.{value_weight, lost, gained}
use Rattle.row_map.proofs.Maps.{same_rows, at_insert, at_remove, key_is, itself, changed_other, above}

-- One change

true_of : (b : Bool) → T b → b ≡ true
true_of true h = refl
true_of false h = absurd h

module _ where
  abbrev R : List ℕ → List ℕ → Ordering
  R = slice_cmp nat_cmp

  abbrev Entries : Type 0
  Entries = List (List ℕ × List ℕ)

  lesser : (x y : List ℕ) (o : Ordering) → R x y ≡ o → is_lt o ≡ true → o ≡ Less
  lesser x y Less e h = refl
  lesser x y Equal e h = absurd (cc)
  lesser x y Greater e h = absurd (cc)

  -- a key below all others has no value
  none_below : (k : List ℕ) (es : Entries) → below_all R k es ≡ true → find R k es ≡ None
  none_below k [] h = refl
  none_below k (e ∷ es) h =
      let (first, rest) = and_parts (is_lt (R k e.0)) (below_all R k es) h in
      ap (λ (o : Ordering). cond (is_eq o) (Some e.1) (find R k es)) (lesser k e.0 (R k e.0) refl first)
      ∙ none_below k es rest

  -- and so has one below a key that is
  below_too : (k x : List ℕ) (es : Entries) → R k x ≡ Less → below_all R x es ≡ true → below_all R k es ≡ true
  below_too k x [] l h = refl
  below_too k x (e ∷ es) l h =
      let (first, rest) = and_parts (is_lt (R x e.0)) (below_all R x es) h in
      and_from (is_lt (R k e.0)) (below_all R k es)
      (ap is_lt (nat_list_cmp_total.trans k x e.0 l (lesser x e.0 (R x e.0) refl first))) (below_too k x es l rest)

  put_if : (k v : List ℕ) (e : List ℕ × List ℕ) (es : Entries) (o : Ordering) → R k e.0 ≡ o
      → is_sorted R (e ∷ es) ≡ true
      → sum_by file_row_weight (put R k v es) + value_weight k (find R k es)
      ≡ sum_by file_row_weight es + file_row_weight (k, v)
      → sum_by file_row_weight (by_order o ((k, v) ∷ e ∷ es) ((e.0, v) ∷ es) (e ∷ put R k v es))
      + value_weight k (cond (is_eq o) (Some e.1) (find R k es))
      ≡ sum_by file_row_weight (e ∷ es) + file_row_weight (k, v)
  put_if k v e es Less same sorted ih =
      let below = (and_parts (below_all R e.0 es) (is_sorted R es) sorted).0 in
      let none = ap (value_weight k) (none_below k es (below_too k e.0 es same below)) in
      let a = sum_by-cons file_row_weight (k, v) (e ∷ es) in
      omega (arith, a, none)
  put_if k v e es Equal same sorted ih =
      let key = key_is k e.0 (ap is_eq same) in
      let a = sum_by-cons file_row_weight (e.0, v) es in
      let b = sum_by-cons file_row_weight e es in
      let c = ap (λ (q : List ℕ). file_row_weight (q, v)) key in
      let d = ap (λ (q : List ℕ). file_row_weight (q, e.1)) key in
      omega (arith, a, b, c, d)
  put_if k v e es Greater same sorted ih =
      let a = sum_by-cons file_row_weight e (put R k v es) in
      let b = sum_by-cons file_row_weight e es in
      omega (arith, a, b, ih)

  -- a key's value comes in place of what it had
  put_weighs : (k v : List ℕ) (es : Entries) → is_sorted R es ≡ true
      → sum_by file_row_weight (put R k v es) + value_weight k (find R k es)
      ≡ sum_by file_row_weight es + file_row_weight (k, v)
  put_weighs k v [] sorted = let a = sum_by-cons file_row_weight (k, v) [] in omega (arith, a)
  put_weighs k v (e ∷ es) sorted =
      put_if k v e es (R k e.0) refl sorted
      (put_weighs k v es (and_parts (below_all R e.0 es) (is_sorted R es) sorted).1)

  insert_weighs : (m : RowMap) (k v : List ℕ)
      → kept_weight (fin.insert m k v) + value_weight k (fin.get m k) ≡ kept_weight m + file_row_weight (k, v)
  insert_weighs m k v =
      let a = ap (sum_by file_row_weight) (entries-insert nat_list_cmp_total m k v) in
      let b = ap (value_weight k) (get-entries m k) in
      let c = put_weighs k v (fin.entries m) (true_of _ (entries_sorted m)) in
      omega (arith, a, b, c)

  gone : (m : RowMap) (k q : List ℕ) (b : Bool) → fin.get m k ≡ None → same_key q k ≡ b
      → cond b None (fin.get m q) ≡ fin.get m q
  gone m k q true e f = sym (ap (fin.get m) (key_is q k f) ∙ e)
  gone m k q false e f = refl

  again : (m : RowMap) (k v q : List ℕ) (b : Bool) → fin.get m k ≡ Some v → same_key q k ≡ b
      → cond b (Some v) (fin.get (fin.remove m k) q) ≡ fin.get m q
  again m k v q true e f = sym (ap (fin.get m) (key_is q k f) ∙ e)
  again m k v q false e f = at_remove m k q ∙ rw f refl

  nothing : (m : RowMap) (k : List ℕ) → fin.get (fin.remove m k) k ≡ None
  nothing m k = at_remove m k k ∙ rw (itself k) refl

  -- without the key there is less by what it had
  remove_if : (m : RowMap) (k : List ℕ) (o : Option (List ℕ)) → fin.get m k ≡ o
      → kept_weight (fin.remove m k) + value_weight k o ≡ kept_weight m
  remove_if m k None e =
      let same : fin.remove m k ≡ m = same_rows _ _ (λ q. at_remove m k q ∙ gone m k q (same_key q k) e refl) in
      let a = ap kept_weight same in
      omega (arith, a)
  remove_if m k (Some v) e =
      let same : fin.insert (fin.remove m k) k v ≡ m = same_rows _ _
      (λ q. at_insert (fin.remove m k) k v q ∙ again m k v q (same_key q k) e refl) in
      let a = ap kept_weight same in
      let b = insert_weighs (fin.remove m k) k v in
      let c = ap (value_weight k) (nothing m k) in
      omega (arith, a, b, c)

  change_weighs : (m : RowMap) (k : List ℕ) (value : Option (List ℕ))
      → kept_weight (changed_at m k value) + value_weight k (fin.get m k) ≡ kept_weight m + value_weight k value
  change_weighs m k None = let a = remove_if m k (fin.get m k) refl in omega (arith, a)
  change_weighs m k (Some v) = insert_weighs m k v

-- A batch

other_keys : (m : RowMap) (row : Row) (rows : List Row)
    → AllByRecursion (λ (key : List ℕ). slice_cmp nat_cmp row.key key ≡ Less) (keys_of rows)
    → lost (changed_at m row.key row.value) rows ≡ lost m rows
other_keys m row [] after = refl
other_keys m row (r ∷ rows) after =
    let a = ap (value_weight r.key) (changed_other m row.key row.value r.key (above row.key r.key after.0)) in
    let b = other_keys m row rows after.1 in
    omega (arith, a, b)

pub weighs_after : (batch : List Row) (m : RowMap) → IsStrictlySortedBy (slice_cmp nat_cmp) (keys_of batch)
    → kept_weight (changed m batch) + lost m batch ≡ kept_weight m + gained batch
unfolding IsStrictlySortedBy
weighs_after [] m sorted = omega arith
weighs_after (row ∷ rows) m sorted =
    let a = weighs_after rows (changed_at m row.key row.value) sorted.1 in
    let b = change_weighs m row.key row.value in
    let c = other_keys m row rows sorted.0 in
    omega (arith, a, b, c)

-- what is lost was there
pub lost_most : (batch : List Row) (m : RowMap) → IsStrictlySortedBy (slice_cmp nat_cmp) (keys_of batch)
    → lost m batch ≤ kept_weight m
unfolding IsStrictlySortedBy
lost_most [] m sorted = omega arith
lost_most (row ∷ rows) m sorted =
    let gone : Row = record { key = row.key; value = None } in
    let a = lost_most rows (fin.remove m row.key) sorted.1 in
    let b = change_weighs m row.key None in
    let c = other_keys m gone rows sorted.0 in
    omega (arith, a, b, c)
