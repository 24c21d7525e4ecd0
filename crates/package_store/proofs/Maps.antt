-- Rows as a finite map, and what a change makes of a key.
use Rattle.std.proofs.Common.{T, ◌≡◌, ℕ, Bool, List, [], ◌∷◌, true, false, cond, Option, Some, None, map, ap, sym}
use Rattle.std.proofs.Common.{◌∙◌, refl}
use Rattle.std.specs.Prelude.{IsTrue}
use Rattle.std.specs.Cmp.{eq_by_cmp_equiv}
use Rattle.std.specs.Cmp.Lexicographic.{slice_cmp, nat_list_cmp_total}
use Rattle.std.specs.FinMap as fin
use Rattle.std.specs.FinMap.{is_sorted, get-insert, get-remove, get-entries, get-from_entries, get-from_sorted}
use Rattle.std.specs.FinMap.{entries-from_sorted}
use Rattle.std.specs.FinMap.Entries.{below_all}
use Rattle.std.specs.List.{AllByRecursion}
use Rattle.std.specs.List.Sorted.{IsStrictlySortedBy}
use Rattle.std.specs.Map.{keys_of, lookup, KeepsOthers}
use Rattle.std.specs.BTreeMap.{is_at}
use Rattle.std.specs.Ordering.{nat_cmp, is_eq, is_lt, eq_by_cmp}
use Rattle.std.specs.declared.alloc.Global.{Global}
use Rattle.std.specs.declared.cmp.Ordering.{Ordering}
use Rattle.std.specs.declared.cmp.Ordering.TheVariants.{Less, Equal, Greater}
use Rattle.std.specs.declared.vec.Vec.{Vec}
use Rattle.std.proofs.lemmas.Bool.{and_parts}
use Rattle.apex_base.specs.Keys.{RowMap}
use Rattle.apex_base.specs.Tables.{NameMap}
use Rattle.apex_base.proofs.RowMaps.{same_bytes, same_names}
use Rattle.row_map.specs.Rows.{changed_at}

abbrev pub same_key : List ℕ → List ℕ → Bool
same_key = eq_by_cmp (slice_cmp nat_cmp)

-- how bytes compare to a key
abbrev pub by : List ℕ → Vec ℕ Global → Ordering
by q key = slice_cmp nat_cmp q key.items

-- the map of the entries of a `BTreeMap`
abbrev pub from_seen : {X : Type 0} → List (Vec ℕ Global × X) → NameMap X
from_seen {X} es = fin.from_entries (map (λ (e : Vec ℕ Global × X). (e.0.items, e.1)) es)

pub at_insert : {X : Type 0} (m : NameMap X) (key : List ℕ) (value : X) (q : List ℕ)
    → fin.get (fin.insert m key value) q ≡ cond (same_key q key) (Some value) (fin.get m q)
at_insert m key value q = get-insert nat_list_cmp_total m key value q

pub at_remove : {X : Type 0} (m : NameMap X) (key q : List ℕ)
    → fin.get (fin.remove m key) q ≡ cond (same_key q key) None (fin.get m q)
at_remove m key q = get-remove nat_list_cmp_total m key q

-- what a change leaves at each key
pub at_change : (m : RowMap) (key : List ℕ) (value : Option (List ℕ)) (q : List ℕ)
    → fin.get (changed_at m key value) q ≡ cond (same_key q key) value (fin.get m q)
at_change m key None q = get-remove nat_list_cmp_total m key q
at_change m key (Some value) q = get-insert nat_list_cmp_total m key value q

pub turned : (q key : List ℕ) → same_key q key ≡ same_key key q
turned q key = (eq_by_cmp_equiv nat_list_cmp_total).symm q key

-- a key that is below others isn't one of them
pub not_below : {X : Type 0} (key : List ℕ) (es : List (List ℕ × X))
    → AllByRecursion (λ k. slice_cmp nat_cmp key k ≡ Less) (keys_of es) → fin.find (slice_cmp nat_cmp) key es ≡ None
not_below key [] all = refl
not_below key (e ∷ es) all = rw all.0 (not_below key es all.1)

is_less : (o : Ordering) → is_lt o ≡ true → o ≡ Less
is_less Less e = refl
is_less Equal e = absurd (cc)
is_less Greater e = absurd (cc)

is_T : (b : Bool) → IsTrue b → T b
is_T true e = tt
is_T false e = absurd (cc)

module _ {X : Type 0} where
  -- what a `BTreeMap` finds is what the map of its entries has
  find_seen : (q : List ℕ) (es : List (Vec ℕ Global × X))
      → fin.find (slice_cmp nat_cmp) q (map (λ (e : Vec ℕ Global × X). (e.0.items, e.1)) es)
      ≡ lookup (is_at (by q)) es
  find_seen q [] = refl
  find_seen q (e ∷ es) = ap (cond (is_at (by q) e.0) (Some e.1)) (find_seen q es)

  pub get_seen : (es : List (Vec ℕ Global × X)) (q : List ℕ)
      → fin.get (from_seen es) q ≡ lookup (is_at (by q)) es
  get_seen es q =
      get-from_entries nat_list_cmp_total (map (λ (e : Vec ℕ Global × X). (e.0.items, e.1)) es) q ∙ find_seen q es

  -- what a change at a key leaves at each key
  updated_by : (es fs : List (Vec ℕ Global × X)) (key q : List ℕ) (value : Option X) (b : Bool)
      → same_key q key ≡ b → lookup (is_at (by key)) fs ≡ value
      → KeepsOthers (eq_by_cmp (λ (x y : Vec ℕ Global). slice_cmp nat_cmp x.items y.items)) (is_at (by key)) es fs
      → lookup (is_at (by q)) fs ≡ cond b value (lookup (is_at (by q)) es)
  unfolding KeepsOthers
  updated_by es fs key q value true e here others =
      ap (λ (k : List ℕ). lookup (is_at (by k)) fs) (same_bytes q key e) ∙ here
  updated_by es fs key q value false e here others = others (is_at (by q))
      (λ x y at_x. ap (λ (k : List ℕ). is_eq (slice_cmp nat_cmp k y.items)) (same_bytes q x.items at_x))
      (λ k at_k. ap (λ (l : List ℕ). same_key q l) (sym (same_bytes key k.items at_k)) ∙ e)

  pub updated : (es fs : List (Vec ℕ Global × X)) (key : List ℕ) (value : Option X) → lookup (is_at (by key)) fs ≡ value
      → KeepsOthers (eq_by_cmp (λ (x y : Vec ℕ Global). slice_cmp nat_cmp x.items y.items)) (is_at (by key)) es fs
      → (q : List ℕ) → fin.get (from_seen fs) q ≡ cond (same_key q key) value (fin.get (from_seen es) q)
  updated es fs key value here others q =
      get_seen fs q ∙ updated_by es fs key q value (same_key q key) refl here others
      ∙ ap (λ (o : Option X). cond (same_key q key) value o) (sym (get_seen es q))

  -- the keys ascend as bytes do
  below : (key : Vec ℕ Global) (es : List (Vec ℕ Global × X))
      → AllByRecursion (λ (k : Vec ℕ Global). slice_cmp nat_cmp key.items k.items ≡ Less) (keys_of es)
      → AllByRecursion (λ (k : List ℕ). slice_cmp nat_cmp key.items k ≡ Less)
      (keys_of (map (λ (e : Vec ℕ Global × X). (e.0.items, e.1)) es))
  below key [] all = tt
  below key (e ∷ es) all = (all.0, below key es all.1)

  pub ascending : (es : List (Vec ℕ Global × X))
      → IsStrictlySortedBy (λ (x y : Vec ℕ Global). slice_cmp nat_cmp x.items y.items) (keys_of es)
      → IsStrictlySortedBy (slice_cmp nat_cmp) (keys_of (map (λ (e : Vec ℕ Global × X). (e.0.items, e.1)) es))
  unfolding IsStrictlySortedBy
  ascending [] up = tt
  ascending (e ∷ es) up = (below e.0 es up.0, ascending es up.1)

  -- the map of a map's entries is the map
  pub entries_again : (m : NameMap X) → fin.from_entries (fin.entries m) ≡ m
  entries_again m = same_names (fin.from_entries (fin.entries m)) m
      (λ q. get-from_entries nat_list_cmp_total (fin.entries m) q ∙ sym (get-entries m q))

  below_keys : (key : List ℕ) (es : List (List ℕ × X)) → below_all (slice_cmp nat_cmp) key es ≡ true
      → AllByRecursion (λ q. slice_cmp nat_cmp key q ≡ Less) (keys_of es)
  below_keys key [] e = tt
  below_keys key (x ∷ es) e = let (a, b) = and_parts _ _ e in (is_less _ a, below_keys key es b)

  -- the keys of entries in order ascend
  pub ascend : (es : List (List ℕ × X)) → is_sorted (slice_cmp nat_cmp) es ≡ true
      → IsStrictlySortedBy (slice_cmp nat_cmp) (keys_of es)
  unfolding IsStrictlySortedBy
  ascend [] e = tt
  ascend (x ∷ es) e = let (a, b) = and_parts _ _ e in (below_keys x.0 es a, ascend es b)

  not_above : (key : List ℕ) (es : List (List ℕ × X))
      → AllByRecursion (λ q. slice_cmp nat_cmp key q ≡ Less) (keys_of es)
      → IsTrue (below_all (slice_cmp nat_cmp) key es)
  not_above key [] all = refl
  not_above key (e ∷ es) all = rw all.0 (not_above key es all.1)

  sorted : (es : List (List ℕ × X)) → IsStrictlySortedBy (slice_cmp nat_cmp) (keys_of es)
      → IsTrue (is_sorted (slice_cmp nat_cmp) es)
  unfolding IsStrictlySortedBy
  sorted [] up = refl
  sorted (e ∷ es) up = rw (not_above e.0 es up.0) (sorted es up.1)

  -- the entries of a map of entries in order
  pub in_order : (es : List (List ℕ × X)) → IsStrictlySortedBy (slice_cmp nat_cmp) (keys_of es)
      → fin.entries {R = slice_cmp nat_cmp} (fin.from_entries es) ≡ es
  in_order es up =
      let t = is_T _ (sorted es up) in
      let same : ◌≡◌ {A = NameMap X} (fin.from_entries es) (fin.from_sorted es) =
      same_names (fin.from_entries es) (fin.from_sorted es) (λ q. get-from_entries nat_list_cmp_total es q
      ∙ sym (get-from_sorted (slice_cmp nat_cmp) es q t)) in
      ap fin.entries same ∙ entries-from_sorted (slice_cmp nat_cmp) es t
