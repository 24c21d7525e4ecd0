-- Maps of names: how many names they have at most, what they weigh, and tables with a value more or less. Callers want
-- `named_len`, `named_sum`, `value_with`, `value_without`, `some_with` and `there_with`.
use Rattle.std.proofs.Common.{◌≡◌, ◌≢◌, ℕ, ◌≤◌, Bool, true, false, cond, eqb, List, [], ◌∷◌, length, map, Option}
use Rattle.std.proofs.Common.{Some, None}
use Rattle.std.proofs.Common.{sym, ap, subst, ◌∙◌, refl, inl, inr, ◌⊎◌, arith}
use Rattle.std.specs.Prelude.{IfSome, is_some}
use Rattle.std.specs.List.{sum_by}
use Rattle.std.specs.Ordering.{nat_cmp, eq_by_cmp}
use Rattle.std.specs.Cmp.Lexicographic.{slice_cmp, nat_list_cmp_total}
use Rattle.std.specs.FinMap as fin
use Rattle.std.specs.FinMap.{is_sorted, get-insert, get-remove, len-entries}
use Rattle.std.proofs.lemmas.Bool.{and_parts, eqb-false, cases_Bool}
use Rattle.std.proofs.lemmas.List.{length-map}
use Rattle.apex_base.specs.Members.{In, EachPair}
use Rattle.apex_base.specs.Tables.{NameMap, Table, or_empty, part_of, with_part, value_of, with_value, without_value}
use Rattle.apex_base.proofs.MemberLemmas.{in_map_back, in_each}
use Rattle.apex_base.proofs.RowMaps.{below_in, sorted_entries, entry_get, in_entries, same_bytes}
use Rattle.apex_base.proofs.SumLemmas.{sum_most, length_most}
use Rattle.apex_base.proofs.TableLemmas.{whole, part_whole}

module _ {X : Type 0} where
  -- entries in order have different keys
  apart_from : (es : List (List ℕ × X)) → is_sorted (slice_cmp nat_cmp) es ≡ true
      → EachPair (λ (e f : List ℕ × X). e.0 ≢ f.0) es
  apart_from [] s = tt
  apart_from (e ∷ es) s = (
    in_each (λ (f : List ℕ × X). e.0 ≢ f.0) es (λ f h. below_in e.0 es f (and_parts _ _ s).0 h),
    apart_from es (and_parts _ _ s).1,
  )

  -- the entries of a map have different keys
  pub entries_apart : (m : NameMap X) → EachPair (λ (e f : List ℕ × X). e.0 ≢ f.0) (fin.entries m)
  entries_apart m = apart_from (fin.entries m) (sorted_entries m)

  -- keys in order differ
  keys_from : (es : List (List ℕ × X)) → is_sorted (slice_cmp nat_cmp) es ≡ true
      → EachPair (λ (a b : List ℕ). a ≢ b) (map (λ e. e.0) es)
  keys_from [] s = tt
  keys_from (e ∷ es) s = (
    in_each (λ (b : List ℕ). e.0 ≢ b) (map (λ e. e.0) es) (λ b h same.
        let (f, i, is) = in_map_back (λ (e : List ℕ × X). e.0) b es h in
        below_in e.0 es f (and_parts _ _ s).0 i (same ∙ sym is)),
    keys_from es (and_parts _ _ s).1,
  )

  -- a map has at most as many names as a list that has each of them
  pub named_len : (m : NameMap X) (names : List (List ℕ))
      → ((name : List ℕ) (x : X) → fin.get m name ≡ Some x → In name names) → fin.len m ≤ length names
  named_len m names all =
      let l = length_most (map (λ (e : List ℕ × X). e.0) (fin.entries m)) names
      (keys_from (fin.entries m) (sorted_entries m)) (λ name h.
      let (e, i, is) = in_map_back (λ (e : List ℕ × X). e.0) name (fin.entries m) h in
      subst (λ (n : List ℕ). In n names) is (all e.0 e.1 (entry_get m e i))) in
      let k = length-map (fin.entries m) (λ (e : List ℕ × X). e.0) in
      omega (arith, l, k, len-entries m)

  -- a map that has less than another one weighs at most as much
  pub named_sum : (g : List ℕ × X → ℕ) (m n : NameMap X)
      → ((name : List ℕ) (x : X) → fin.get m name ≡ Some x → fin.get n name ≡ Some x)
      → sum_by g (fin.entries m) ≤ sum_by g (fin.entries n)
  named_sum g m n all =
      sum_most g (λ (e : List ℕ × X). e.0) (fin.entries m) (fin.entries n) (entries_apart m)
      (λ e h. inr (e, in_entries n e.0 e.1 (all e.0 e.1 (entry_get m e h)), refl, refl))

  -- A part of a table is put in its place

  -- a part that is empty is taken away, and another is put
  with_if : (b : Bool) (t : Table X) (a q : List ℕ) (m : NameMap X) → eqb (fin.len m) 0 ≡ b
      → fin.get (cond b (fin.remove t a) (fin.insert t a m)) q
      ≡ cond (eq_by_cmp (slice_cmp nat_cmp) q a) (cond b None (Some m)) (fin.get t q)
  with_if true t a q m e = get-remove nat_list_cmp_total t a q
  with_if false t a q m e = get-insert nat_list_cmp_total t a m q

  -- what a first name stands for then
  pub get_with : (t : Table X) (a q : List ℕ) (m : NameMap X)
      → fin.get (with_part t a m) q ≡ cond (eq_by_cmp (slice_cmp nat_cmp) q a) (whole m) (fin.get t q)
  get_with t a q m = with_if (eqb (fin.len m) 0) t a q m refl

  -- a first name has the part that was put, or its own
  pub part_with : (t : Table X) (a q : List ℕ) (m : NameMap X)
      → ((q ≡ a) × (part_of (with_part t a m) q ≡ m)) ⊎ (part_of (with_part t a m) q ≡ part_of t q)
  part_with t a q m =
      elim (cases_Bool (eq_by_cmp (slice_cmp nat_cmp) q a)) [
        | inl e ↦ inl (
          same_bytes q a e,
          ap or_empty (get_with t a q m ∙ ap (λ b. cond b (whole m) (fin.get t q)) e) ∙ part_whole m,
        )
        | inr e ↦ inr (ap or_empty (get_with t a q m ∙ ap (λ b. cond b (whole m) (fin.get t q)) e))
      ]

  -- a part that is put isn't empty
  some_whole : (b : Bool) (m : NameMap X) → eqb (fin.len m) 0 ≡ b → IfSome (cond b None (Some m)) (λ m. fin.len m ≢ 0)
  some_whole true m e = tt
  some_whole false m e = eqb-false (fin.len m) 0 e

  -- what stands there isn't empty
  some_if : (b : Bool) (m : NameMap X) (o : Option (NameMap X)) → IfSome o (λ m. fin.len m ≢ 0)
      → IfSome (cond b (whole m) o) (λ m. fin.len m ≢ 0)
  some_if true m o h = some_whole (eqb (fin.len m) 0) m refl
  some_if false m o h = h

  -- no first name stands for nothing
  pub some_with : (t : Table X) (a q : List ℕ) (m : NameMap X) → IfSome (fin.get t q) (λ m. fin.len m ≢ 0)
      → IfSome (fin.get (with_part t a m) q) (λ m. fin.len m ≢ 0)
  some_with t a q m h = subst (λ (o : Option (NameMap X)). IfSome o (λ m. fin.len m ≢ 0)) (sym (get_with t a q m))
      (some_if (eq_by_cmp (slice_cmp nat_cmp) q a) m (fin.get t q) h)

  -- what is there is the name that was put, or was there
  there_if : (b : Bool) (q a : List ℕ) (m : NameMap X) (o : Option (NameMap X))
      → eq_by_cmp (slice_cmp nat_cmp) q a ≡ b → is_some (cond b (whole m) o) ≡ true → (q ≡ a) ⊎ (is_some o ≡ true)
  there_if true q a m o e h = inl (same_bytes q a e)
  there_if false q a m o e h = inr h

  -- a first name that is there was there, or is the one that was put
  pub there_with : (t : Table X) (a q : List ℕ) (m : NameMap X) → is_some (fin.get (with_part t a m) q) ≡ true
      → (q ≡ a) ⊎ (is_some (fin.get t q) ≡ true)
  there_with t a q m h = there_if (eq_by_cmp (slice_cmp nat_cmp) q a) q a m (fin.get t q) refl
      (ap is_some (sym (get_with t a q m)) ∙ h)

  -- One value

  -- what is found is what was put, or was found
  insert_if : (c : Bool) (k b : List ℕ) (x y : X) (o : Option X) → eq_by_cmp (slice_cmp nat_cmp) k b ≡ c
      → cond c (Some x) o ≡ Some y → ((k ≡ b) × (x ≡ y)) ⊎ (o ≡ Some y)
  insert_if true k b x y o e f = inl (same_bytes k b e, cc)
  insert_if false k b x y o e f = inr f

  -- what is found was found
  remove_if : (c : Bool) (y : X) (o : Option X) → cond c None o ≡ Some y → o ≡ Some y
  remove_if true y o f = absurd (cc)
  remove_if false y o f = f

  -- what a map without a key has, it had
  pub get_removed : (m : NameMap X) (b k : List ℕ) (y : X) → fin.get (fin.remove m b) k ≡ Some y → fin.get m k ≡ Some y
  get_removed m b k y e = remove_if (eq_by_cmp (slice_cmp nat_cmp) k b) y (fin.get m k)
      (sym (get-remove nat_list_cmp_total m b k) ∙ e)

  -- a value that stands there is the one that was put, or stood there
  pub value_with : (t : Table X) (a b : List ℕ) (x : X) (q k : List ℕ) (y : X)
      → value_of (with_value t a b x) q k ≡ Some y → ((q ≡ a) × (k ≡ b) × (x ≡ y)) ⊎ (value_of t q k ≡ Some y)
  value_with t a b x q k y e =
      elim (part_with t a q (fin.insert (part_of t a) b x)) [
        | inr f ↦ inr (ap (λ (m : NameMap X). fin.get m k) (sym f) ∙ e)
        | inl (same, f) ↦
            let g : cond (eq_by_cmp (slice_cmp nat_cmp) k b) (Some x) (fin.get (part_of t a) k) ≡ Some y =
            sym (get-insert nat_list_cmp_total (part_of t a) b x k) ∙ ap (λ (m : NameMap X). fin.get m k) (sym f) ∙ e in
            elim (insert_if (eq_by_cmp (slice_cmp nat_cmp) k b) k b x y (fin.get (part_of t a) k) refl g) [
              | inl (l, is) ↦ inl (same, l, is)
              | inr was ↦ inr (ap (λ (a : List ℕ). value_of t a k) same ∙ was)
            ]
      ]

  -- what stands there after a value was taken away stood there
  pub value_without : (t : Table X) (a b q k : List ℕ) (y : X) → value_of (without_value t a b) q k ≡ Some y
      → value_of t q k ≡ Some y
  value_without t a b q k y e =
      elim (part_with t a q (fin.remove (part_of t a) b)) [
        | inr f ↦ ap (λ (m : NameMap X). fin.get m k) (sym f) ∙ e
        | inl (same, f) ↦ ap (λ (a : List ℕ). value_of t a k) same
            ∙ get_removed (part_of t a) b k y (ap (λ (m : NameMap X). fin.get m k) (sym f) ∙ e)
      ]
