-- The rows from a key on, ascending, as `range` of a `BTreeMap` gives them. Callers want `IsFrom` and `range_is_from`.
use Rattle.std.proofs.Common.{◌≡◌, ℕ, Bool, true, false, cond, ◌&&◌, List, [], ◌∷◌, sym, ap, subst, ◌∙◌, refl}
use Rattle.std.proofs.Math.Bool.{and-true}
use Rattle.std.proofs.lemmas.List.Elements.{filter_agree}
use Rattle.std.proofs.lemmas.List.Kept.{IsStrictlySortedBy-filter}
use Rattle.std.specs.BTreeMap.Range.{entries_between}
use Rattle.std.specs.Cmp.Lexicographic.{slice_cmp}
use Rattle.std.specs.FinMap as fin
use Rattle.std.specs.List.{filter, AllByRecursion}
use Rattle.std.specs.List.Sorted.{IsStrictlySortedBy}
use Rattle.std.specs.Map.{keys_of}
use Rattle.std.specs.Ordering.{nat_cmp, is_le}
use Rattle.std.specs.declared.alloc.Global.{Global}
use Rattle.std.specs.declared.cmp.Ordering.{Ordering}
use Rattle.std.specs.declared.ops.Bound.TheVariants.{Included, Unbounded}
use Rattle.std.specs.declared.vec.Vec.{Vec}
use Rattle.apex_base.specs.Keys.{RowMap}
use Rattle.apex_base.proofs.RowMaps.{sorted_entries}
use Rattle.row_map.specs.Rows.{shown}
use Rattle.package_store.proofs.Fronts.{at_least}
use Rattle.package_store.proofs.Maps.{ascend}

abbrev pub Rows : Type 0
Rows = List (List ℕ × List ℕ)

abbrev pub Entry : Type 0
Entry = Vec ℕ Global × List ℕ

abbrev pub by_items : Vec ℕ Global → Vec ℕ Global → Ordering
by_items a b = slice_cmp nat_cmp a.items b.items

shown_if : (b : Bool) (e : Entry) (es : List Entry) (rows : Rows) → shown es ≡ rows
    → shown (cond b (e ∷ es) es) ≡ cond b ((e.0.items, e.1) ∷ rows) rows
shown_if true e es rows same = ap (λ (rows : Rows). (e.0.items, e.1) ∷ rows) same
shown_if false e es rows same = same

shown_filter : (p : List ℕ → Bool) (es : List Entry)
    → shown (filter (λ e. p e.0.items) es) ≡ filter (λ e. p e.0) (shown es)
shown_filter p [] = refl
shown_filter p (e ∷ es) =
    shown_if (p e.0.items) e (filter (λ e. p e.0.items) es) (filter (λ e. p e.0) (shown es)) (shown_filter p es)

keys_if : (b : Bool) (e : List ℕ × List ℕ) (es : Rows) (keys : List (List ℕ)) → keys_of es ≡ keys
    → keys_of (cond b (e ∷ es) es) ≡ cond b (e.0 ∷ keys) keys
keys_if true e es keys same = ap (λ (keys : List (List ℕ)). e.0 ∷ keys) same
keys_if false e es keys same = same

-- the keys of rows that are filtered by their keys
pub keys_filter : (p : List ℕ → Bool) (es : Rows) → keys_of (filter (λ e. p e.0) es) ≡ filter p (keys_of es)
keys_filter p [] = refl
keys_filter p (e ∷ es) = keys_if (p e.0) e (filter (λ e. p e.0) es) (filter p (keys_of es)) (keys_filter p es)

after_if : (test : List ℕ → Bool) (b : Bool) (e : List ℕ × List ℕ) (es : Rows) → test e.0 ≡ b
    → AllByRecursion (λ key. test key ≡ true) (keys_of es)
    → AllByRecursion (λ key. test key ≡ true) (keys_of (cond b (e ∷ es) es))
after_if test true e es is all = (is, all)
after_if test false e es is all = all

filter_after : (test : List ℕ → Bool) (es : Rows)
    → AllByRecursion (λ key. test key ≡ true) (keys_of (filter (λ e. test e.0) es))
filter_after test [] = tt
filter_after test (e ∷ es) = after_if test (test e.0) e (filter (λ e. test e.0) es) refl (filter_after test es)

-- the rows of a map whose keys don't come before these bytes; they ascend
pub record IsFrom (front : List ℕ) (m : RowMap) (rows : Rows) : Type 0 where
  pub are : rows ≡ filter (λ e. at_least front e.0) (fin.entries m)
  pub up : IsStrictlySortedBy (slice_cmp nat_cmp) (keys_of rows)
  pub after : AllByRecursion (λ key. at_least front key ≡ true) (keys_of rows)

pub range_is_from : (front : List ℕ) (m : RowMap) (entries es : List Entry) (start : Vec ℕ Global)
    → fin.entries m ≡ shown entries → start.items ≡ front
    → es ≡ entries_between by_items (Included start) Unbounded entries → IsFrom front m (shown es)
range_is_from front m entries es start all is some =
    let kept : shown es ≡ filter (λ e. at_least front e.0) (fin.entries m) =
    ap shown some ∙ shown_filter (λ key. is_le (slice_cmp nat_cmp start.items key) && true) entries
    ∙ ap (filter (λ e. is_le (slice_cmp nat_cmp start.items e.0) && true)) (sym all)
    ∙ filter_agree (λ e. is_le (slice_cmp nat_cmp start.items e.0) && true) (λ e. at_least front e.0)
    (λ e. and-true _ ∙ ap (λ bytes. at_least bytes e.0) is) (fin.entries m) in
    record {
      are = kept;
      up = subst (λ (rows : Rows). IsStrictlySortedBy (slice_cmp nat_cmp) (keys_of rows)) (sym kept)
          (subst (IsStrictlySortedBy (slice_cmp nat_cmp)) (sym (keys_filter (at_least front) (fin.entries m)))
          (IsStrictlySortedBy-filter (slice_cmp nat_cmp) (at_least front) (keys_of (fin.entries m))
          (ascend (fin.entries m) (sorted_entries m))));
      after = subst (λ (rows : Rows). AllByRecursion (λ key. at_least front key ≡ true) (keys_of rows)) (sym kept)
          (filter_after (at_least front) (fin.entries m));
    }
