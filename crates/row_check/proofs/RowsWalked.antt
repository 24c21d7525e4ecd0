-- The rows whose keys begin with a front, from the first key that may begin so on. Callers want `starts`, `takes`,
-- `stops`, `ends`, `first_tells`, `find_after`, `none_there`, `after_get` and `in_after`.
use Rattle.std.proofs.Common.{◌≡◌, ◌≢◌, ℕ, Bool, true, false, cond, eqb, List, [], ◌∷◌, ◌++◌, map, Option, Some, None}
use Rattle.std.proofs.Common.{sym, ap, subst, ◌∙◌, refl, inl, inr}
use Rattle.std.specs.Borrow.{Bor}
use Rattle.std.specs.Prelude.{MatchOption}
use Rattle.std.specs.Option.{option_map, is_some}
use Rattle.std.specs.BTreeMap.Range.{entries_between}
use Rattle.std.specs.Cmp.Lexicographic.{slice_cmp}
use Rattle.std.specs.FinMap as fin
use Rattle.std.specs.FinMap.{get-entries}
use Rattle.std.specs.List.{filter, AllByRecursion}
use Rattle.std.specs.List.Sorted.{IsStrictlySortedBy}
use Rattle.std.specs.Map.{keys_of}
use Rattle.std.specs.Ordering.{nat_cmp, is_eq}
use Rattle.std.specs.declared.alloc.Global.{Global}
use Rattle.std.specs.declared.cmp.Ordering.TheVariants.{Less}
use Rattle.std.specs.declared.ops.Bound.TheVariants.{Included, Unbounded}
use Rattle.std.specs.declared.vec.Vec.{Vec}
use Rattle.std.proofs.lemmas.Bool.{eqb-true, eq-eqb, false≢true}
use Rattle.std.proofs.lemmas.List.{append_assoc, append-nil}
use Rattle.apex_base.specs.Keys.{RowMap}
use Rattle.apex_base.specs.Members.{In}
use Rattle.apex_base.proofs.MemberLemmas.{each_in}
use Rattle.apex_base.proofs.RowMaps.{same_bytes, entry_get, entry_found}
use Rattle.row_map.specs.Room.{same_key}
use Rattle.row_map.specs.Rows.{shown}
use Rattle.package_store.proofs.Fronts.{at_least, front_le, between, front_cmp}
use Rattle.package_store.proofs.RowsFrom.{Rows, Entry, by_items, IsFrom, range_is_from}
use Rattle.row_check.specs.RowFronts.{rest_after, with_row, rows_after}

-- What follows a front

some_is : {A : Type 0} (x y : A) → Some x ≡ Some y → x ≡ y
some_is x y e = cc

pub rest_there : (front rest : List ℕ) → rest_after front (front ++ rest) ≡ Some rest
rest_there [] rest = refl
rest_there (b ∷ front) rest = rw (eq-eqb b b refl) (rest_there front rest)

rest_if : (t : Bool) (b c : ℕ) (front key rest : List ℕ) → eqb b c ≡ t → cond t (rest_after front key) None ≡ Some rest
    → (rest_after front key ≡ Some rest → key ≡ front ++ rest) → c ∷ key ≡ b ∷ front ++ rest
rest_if true b c front key rest same e more =
    ap (λ x. x ∷ key) (sym (eqb-true b c same)) ∙ ap (λ xs. b ∷ xs) (more e)
rest_if false b c front key rest same e more = absurd (cc e)

pub rest_is : (front key rest : List ℕ) → rest_after front key ≡ Some rest → key ≡ front ++ rest
rest_is [] key rest e = some_is key rest e
rest_is (b ∷ front) [] rest e = absurd (cc e)
rest_is (b ∷ front) (c ∷ key) rest e =
    rest_if (eqb b c) b c front key rest refl e (rest_is front key rest)

none_if : (o : Option (List ℕ)) (front key : List ℕ) → rest_after front key ≡ o
    → ((rest : List ℕ) → key ≡ front ++ rest → ⊥) → o ≡ None
none_if None front key e none = refl
none_if (Some rest) front key e none = absurd (none rest (rest_is front key rest e))

-- nothing follows in a key that doesn't begin so
pub none_after : (front key : List ℕ) → ((rest : List ℕ) → key ≡ front ++ rest → ⊥) → rest_after front key ≡ None
none_after front key none = none_if (rest_after front key) front key refl none

-- what is left of a key that begins so, or none
pub same_rest : (front key : List ℕ) (r : Option (Bor (List ℕ)))
    → MatchOption r ((rest : List ℕ) → key ≢ front ++ rest) (λ x. key ≡ front ++ x.now)
    → option_map (λ rest. rest.now) r ≡ rest_after front key
same_rest front key None none = sym (none_after front key (λ rest e. none rest e))
same_rest front key (Some x) is = sym (ap (rest_after front) is ∙ rest_there front x.now)

-- Keys in order

none_then : (front key : List ℕ) → rest_after front key ≡ None → (tail : List ℕ) → key ≡ front ++ tail → ⊥
none_then front key none tail e =
    let there : rest_after front key ≡ Some tail = ap (rest_after front) e ∙ rest_there front tail in absurd (cc (none, there))

-- after one that doesn't begin so none does
none_above : (front key q : List ℕ) → at_least front key ≡ true → rest_after front key ≡ None
    → slice_cmp nat_cmp key q ≡ Less → rest_after front q ≡ None
none_above front key q le none lt =
    none_after front q (λ rest e.
    let (tail, f) = between front key rest le (ap (slice_cmp nat_cmp key) (sym e) ∙ lt) in
    none_then front key none tail f)

-- and none before these bytes
none_below : (front key : List ℕ) → at_least front key ≡ false → rest_after front key ≡ None
none_below front key low =
    none_after front key (λ rest e.
    absurd (false≢true (sym low ∙ ap (at_least front) e ∙ front_le front rest)))

-- Lists of rows

-- where no key begins so there is no row
no_rows : (front : List ℕ) (es : Rows) → ((k : List ℕ) → In k (keys_of es) → rest_after front k ≡ None)
    → rows_after front es ≡ []
no_rows front [] none = refl
no_rows front (e ∷ es) none =
    ap (λ o. with_row o e.1 (rows_after front es)) (none e.0 (inl refl)) ∙ no_rows front es (λ k i. none k (inr i))

kept_if : (b : Bool) (front : List ℕ) (e : List ℕ × List ℕ) (es fs : Rows) → at_least front e.0 ≡ b
    → rows_after front fs ≡ rows_after front es
    → rows_after front (cond b (e ∷ fs) fs) ≡ rows_after front (e ∷ es)
kept_if true front e es fs at same = ap (with_row (rest_after front e.0) e.1) same
kept_if false front e es fs at same =
    same ∙ ap (λ o. with_row o e.1 (rows_after front es)) (sym (none_below front e.0 at))

-- rows before these bytes don't matter
later_rows : (front : List ℕ) (es : Rows)
    → rows_after front (filter (λ e. at_least front e.0) es) ≡ rows_after front es
later_rows front [] = refl
later_rows front (e ∷ es) =
    kept_if (at_least front e.0) front e es (filter (λ e. at_least front e.0) es) refl (later_rows front es)

-- The walk

-- the rows so far and those that are left are all; those that are left ascend, and come after the front
pub record Left (front : List ℕ) (all : Rows) (found : Rows) (rest : Rows) : Type 0 where
  pub joined : found ++ rows_after front rest ≡ rows_after front all
  pub up : IsStrictlySortedBy (slice_cmp nat_cmp) (keys_of rest)
  pub after : AllByRecursion (λ key. at_least front key ≡ true) (keys_of rest)

module _ (front : List ℕ) where
  -- the rows from these bytes on
  pub starts : (m : RowMap) (entries es : List Entry) (start : Vec ℕ Global) → fin.entries m ≡ shown entries
      → start.items ≡ front → es ≡ entries_between by_items (Included start) Unbounded entries
      → Left front (fin.entries m) [] (shown es)
  starts m entries es start all is some =
      let from : IsFrom front m (shown es) = range_is_from front m entries es start all is some in
      record {
        joined = ap (rows_after front) from.are ∙ later_rows front (fin.entries m);
        up = from.up;
        after = from.after;
      }

  module _ (all found : Rows) where
    -- where no row is left all are found
    pub ends : Left front all found [] → found ≡ rows_after front all
    ends l = sym (append-nil found) ∙ l.joined

    module _ (e : List ℕ × List ℕ) (rest : Rows) (l : Left front all found (e ∷ rest)) where
      -- a row whose key begins so is found
      pub takes : (key : List ℕ) (found' : Rows) → rest_after front e.0 ≡ Some key → found' ≡ found ++ (key, e.1) ∷ []
          → Left front all found' rest
      unfolding IsStrictlySortedBy
      takes key found' b is = record {
        joined = ap (λ rows. rows ++ rows_after front rest) is
            ∙ append_assoc found ((key, e.1) ∷ []) (rows_after front rest)
            ∙ ap (λ (o : Option (List ℕ)). found ++ with_row o e.1 (rows_after front rest)) (sym b) ∙ l.joined;
        up = l.up.1;
        after = l.after.1;
      }

      -- and at the first whose key doesn't, all are
      pub stops : rest_after front e.0 ≡ None → found ≡ rows_after front all
      unfolding IsStrictlySortedBy
      stops none =
          let no : rows_after front (e ∷ rest) ≡ [] =
          no_rows front (e ∷ rest) (λ q i. elim i [
            | inl same ↦ ap (rest_after front) (sym same) ∙ none
            | inr j ↦ none_above front e.0 q l.after.0 none
                (each_in (λ k. slice_cmp nat_cmp e.0 k ≡ Less) (keys_of rest) l.up.0 q j)
          ]) in
          sym (append-nil found) ∙ ap (λ rows. found ++ rows) (sym no) ∙ l.joined

  -- whether there is such a row is told by the first that is left
  pub first_tells : (all : Rows) (e : List ℕ × List ℕ) (rest : Rows) (o : Option (Bor (List ℕ)))
      → Left front all [] (e ∷ rest) → option_map (λ key. key.now) o ≡ rest_after front e.0
      → (is_some o ≡ true → rows_after front all ≢ []) × (is_some o ≡ false → rows_after front all ≡ [])
  first_tells all e rest None l is = (λ h. absurd (cc h), λ h. sym (stops all [] e rest l (sym is)))
  first_tells all e rest (Some key) l is =
      let first : rows_after front all ≡ (key.now, e.1) ∷ rows_after front rest =
      sym l.joined ∙ ap (λ (o : Option (List ℕ)). with_row o e.1 (rows_after front rest)) (sym is) in
      (λ h none. absurd (cc (first, none)), λ h. absurd (cc h))

pub map_more : {X Y : Type 0} (f : X → Y) (xs : List X) (x : X) → map f (xs ++ x ∷ []) ≡ map f xs ++ f x ∷ []
map_more f [] x = refl
map_more f (y ∷ xs) x = ap (λ ys. f y ∷ ys) (map_more f xs x)

-- What the rows are

-- keys that begin alike are the same where what follows is
pub same_after : (front a b : List ℕ) → same_key (front ++ a) (front ++ b) ≡ same_key a b
same_after front a b = ap is_eq (front_cmp front a b)

module _ (front : List ℕ) where
  other_if : (b : Bool) (q key value : List ℕ) (o : Option (List ℕ)) → same_key (front ++ q) key ≡ b
      → rest_after front key ≡ None → o ≡ cond b (Some value) o
  other_if true q key value o same none = absurd (none_then front key none q (sym (same_bytes (front ++ q) key same)))
  other_if false q key value o same none = refl

  find_if : (e : List ℕ × List ℕ) (es : Rows) (q : List ℕ) (o : Option (List ℕ)) → rest_after front e.0 ≡ o
      → fin.find (slice_cmp nat_cmp) q (rows_after front es) ≡ fin.find (slice_cmp nat_cmp) (front ++ q) es
      → fin.find (slice_cmp nat_cmp) q (with_row o e.1 (rows_after front es))
      ≡ fin.find (slice_cmp nat_cmp) (front ++ q) (e ∷ es)
  find_if e es q None is more = more ∙ other_if (same_key (front ++ q) e.0) q e.0 e.1 _ refl is
  find_if e es q (Some key) is more =
      let same : same_key q key ≡ same_key (front ++ q) e.0 =
      sym (same_after front q key) ∙ ap (λ (k : List ℕ). same_key (front ++ q) k) (sym (rest_is front e.0 key is)) in
      ap (λ (b : Bool). cond b (Some e.1) (fin.find (slice_cmp nat_cmp) q (rows_after front es))) same
      ∙ ap (λ (o : Option (List ℕ)). cond (same_key (front ++ q) e.0) (Some e.1) o) more

  find_rows : (es : Rows) (q : List ℕ)
      → fin.find (slice_cmp nat_cmp) q (rows_after front es) ≡ fin.find (slice_cmp nat_cmp) (front ++ q) es
  find_rows [] q = refl
  find_rows (e ∷ es) q = find_if e es q (rest_after front e.0) refl (find_rows es q)

  -- what is found among them under a key
  pub find_after : (m : RowMap) (q : List ℕ)
      → fin.find (slice_cmp nat_cmp) q (rows_after front (fin.entries m)) ≡ fin.get m (front ++ q)
  find_after m q = find_rows (fin.entries m) q ∙ sym (get-entries m (front ++ q))

  -- where none of them is there, no key begins so
  pub none_there : (m : RowMap) → rows_after front (fin.entries m) ≡ [] → (q : List ℕ) → fin.get m (front ++ q) ≡ None
  none_there m none q = sym (find_after m q) ∙ ap (fin.find (slice_cmp nat_cmp) q) none

  in_if : (e row : List ℕ × List ℕ) (es : Rows) (o : Option (List ℕ)) → rest_after front e.0 ≡ o
      → In row (with_row o e.1 (rows_after front es)) → (In row (rows_after front es) → In (front ++ row.0, row.1) es)
      → In (front ++ row.0, row.1) (e ∷ es)
  in_if e row es None is i more = inr (more i)
  in_if e row es (Some key) is (inl same) more =
      inl (subst (λ (r : List ℕ × List ℕ). e ≡ (front ++ r.0, r.1)) same
      (ap (λ (k : List ℕ). (k, e.1)) (rest_is front e.0 key is)))
  in_if e row es (Some key) is (inr i) more = inr (more i)

  in_rows : (es : Rows) (row : List ℕ × List ℕ) → In row (rows_after front es) → In (front ++ row.0, row.1) es
  in_rows [] row i = absurd i
  in_rows (e ∷ es) row i = in_if e row es (rest_after front e.0) refl i (in_rows es row)

  -- each of them is there
  pub after_get : (m : RowMap) (row : List ℕ × List ℕ) → In row (rows_after front (fin.entries m))
      → fin.get m (front ++ row.0) ≡ Some row.1
  after_get m row i = entry_get m (front ++ row.0, row.1) (in_rows (fin.entries m) row i)

  -- and each that is there is one of them
  pub in_after : (m : RowMap) (key value : List ℕ) → fin.get m (front ++ key) ≡ Some value
      → In (key, value) (rows_after front (fin.entries m))
  in_after m key value e =
      entry_found key value (rows_after front (fin.entries m)) (find_after m key ∙ e)
