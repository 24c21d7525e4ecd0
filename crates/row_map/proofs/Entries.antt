-- The entries of a `BTreeMap` with keys of bytes, as a finite map.
use Rattle.std.proofs.Common.{◌≡◌, ℕ, List, [], ◌∷◌, Bool, true, false, cond, map, Option, Some, sym, ap, ◌∙◌, refl}
use Rattle.std.specs.Cmp.Lexicographic.{slice_cmp, nat_list_cmp_total}
use Rattle.std.specs.Ordering.{nat_cmp, is_eq, eq_by_cmp}
use Rattle.std.specs.declared.cmp.Ordering.{Ordering}
use Rattle.std.specs.declared.vec.Vec.{Vec}
use Rattle.std.specs.declared.alloc.Global.{Global}
use Rattle.std.specs.BTreeMap.{is_at}
use Rattle.std.specs.declared.cmp.Ordering.TheVariants.{Less}
use Rattle.std.specs.List.{AllByRecursion}
use Rattle.std.specs.List.Sorted.{IsStrictlySortedBy}
use Rattle.std.specs.Map.{keys_of, lookup, KeepsOthers}
use Rattle.std.specs.FinMap as fin
use Rattle.std.specs.FinMap.{get-from_entries}
use Rattle.row_map.specs.Rows.{rows_of, shown}
use Rattle.row_map.specs.Room.{same_key}
use Rattle.row_map.proofs.Maps.{key_is}

abbrev Entry : Type 0
Entry = Vec ℕ Global × List ℕ

-- how bytes compare to a key
abbrev pub by : List ℕ → Vec ℕ Global → Ordering
by q key = slice_cmp nat_cmp q key.items

find_seen : (q : List ℕ) (es : List Entry) → fin.find (slice_cmp nat_cmp) q (map (λ (e : Entry). (e.0.items, e.1)) es)
    ≡ lookup (is_at (by q)) es
find_seen q [] = refl
find_seen q (e ∷ es) = ap (cond (is_at (by q) e.0) (Some e.1)) (find_seen q es)

pub get_seen : (es : List Entry) (q : List ℕ) → fin.get (rows_of es) q ≡ lookup (is_at (by q)) es
get_seen es q = get-from_entries nat_list_cmp_total (map (λ (e : Entry). (e.0.items, e.1)) es) q ∙ find_seen q es

-- what a change at a key leaves at each key
updated_by : (es fs : List Entry) (key q : List ℕ) (value : Option (List ℕ)) (b : Bool) → same_key q key ≡ b
    → lookup (is_at (by key)) fs ≡ value
    → KeepsOthers (eq_by_cmp (λ (x y : Vec ℕ Global). slice_cmp nat_cmp x.items y.items)) (is_at (by key)) es fs
    → lookup (is_at (by q)) fs ≡ cond b value (lookup (is_at (by q)) es)
unfolding KeepsOthers
updated_by es fs key q value true e here others = ap (λ (k : List ℕ). lookup (is_at (by k)) fs) (key_is q key e) ∙ here
updated_by es fs key q value false e here others = others (is_at (by q))
    (λ x y at_x. ap (λ (k : List ℕ). is_eq (slice_cmp nat_cmp k y.items)) (key_is q x.items at_x))
    (λ k at_k. ap (λ (l : List ℕ). same_key q l) (sym (key_is key k.items at_k)) ∙ e)

pub updated : (es fs : List Entry) (key : List ℕ) (value : Option (List ℕ)) → lookup (is_at (by key)) fs ≡ value
    → KeepsOthers (eq_by_cmp (λ (x y : Vec ℕ Global). slice_cmp nat_cmp x.items y.items)) (is_at (by key)) es fs
    → (q : List ℕ) → fin.get (rows_of fs) q ≡ cond (same_key q key) value (fin.get (rows_of es) q)
updated es fs key value here others q =
    get_seen fs q ∙ updated_by es fs key q value (same_key q key) refl here others
    ∙ ap (λ (o : Option (List ℕ)). cond (same_key q key) value o) (sym (get_seen es q))

-- the keys ascend as bytes do
below : (key : Vec ℕ Global) (es : List Entry)
    → AllByRecursion (λ (k : Vec ℕ Global). slice_cmp nat_cmp key.items k.items ≡ Less) (keys_of es)
    → AllByRecursion (λ (k : List ℕ). slice_cmp nat_cmp key.items k ≡ Less) (keys_of (shown es))
below key [] all = tt
below key (e ∷ es) all = (all.0, below key es all.1)

pub ascending : (es : List Entry)
    → IsStrictlySortedBy (λ (x y : Vec ℕ Global). slice_cmp nat_cmp x.items y.items) (keys_of es)
    → IsStrictlySortedBy (slice_cmp nat_cmp) (keys_of (shown es))
unfolding IsStrictlySortedBy
ascending [] up = tt
ascending (e ∷ es) up = (below e.0 es up.0, ascending es up.1)
