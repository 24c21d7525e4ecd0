-- Changes in the order of their keys, and what they make of rows. Callers want `keys_ascend`, `all_made` and
-- `all_change`.
use Rattle.std.proofs.Common.{◌≡◌, ℕ, Bool, true, false, cond, List, [], ◌∷◌, map, Option, Some, None, sym, ap, subst}
use Rattle.std.proofs.Common.{◌∙◌, refl, inl, inr}
use Rattle.std.proofs.lemmas.Bool.{and_parts, false≢true}
use Rattle.std.proofs.lemmas.Slice.Eq.{bytes_eq-Decides}
use Rattle.std.specs.Cmp.Lexicographic.{slice_cmp}
use Rattle.std.specs.FinMap as fin
use Rattle.std.specs.FinMap.{is_sorted, get-entries}
use Rattle.std.specs.FinMap.Entries.{below_all}
use Rattle.std.specs.List.{AllByRecursion}
use Rattle.std.specs.List.Sorted.{IsStrictlySortedBy}
use Rattle.std.specs.Map.{keys_of}
use Rattle.std.specs.Ordering.{nat_cmp, is_lt, is_eq}
use Rattle.std.specs.declared.cmp.Ordering.{Ordering}
use Rattle.std.specs.declared.cmp.Ordering.TheVariants.{Less, Equal, Greater}
use Rattle.apex_base.specs.Keys.{RowMap}
use Rattle.apex_base.specs.Members.{In}
use Rattle.apex_base.proofs.RowMaps.{same_bytes, entry_get, sorted_entries}
use Rattle.row_codec.specs.Batch as batch
use Rattle.row_map.specs.Rows.{changed, changed_at}
use Rattle.package_store.specs.Settled.{IsChange}
use Rattle.package_store.specs.Spelled.{ChangeMap, change_of, listed, is_same, change_to}
use Rattle.package_store.proofs.Maps.{same_key, at_change}

abbrev Notes : Type 0
Notes = List (List ℕ × Option (List ℕ))

same_keys : (es : Notes) → keys_of es ≡ batch.keys_of (map change_of es)
same_keys [] = refl
same_keys (e ∷ es) = ap (λ (ks : List (List ℕ)). e.0 ∷ ks) (same_keys es)

-- the rows ascend by key
pub keys_ascend : (es : Notes) → IsStrictlySortedBy (slice_cmp nat_cmp) (keys_of es)
    → IsStrictlySortedBy (slice_cmp nat_cmp) (batch.keys_of (map change_of es))
keys_ascend es up = subst (λ (ks : List (List ℕ)). IsStrictlySortedBy (slice_cmp nat_cmp) ks) (same_keys es) up

-- what a noted change makes of a value
abbrev made : Option (Option (List ℕ)) → Option (List ℕ) → Option (List ℕ)
made None before = before
made (Some after) before = after

first_below : {X : Type 0} (o : Ordering) (value rest : Option X) → is_lt o ≡ true → rest ≡ None
    → cond (is_eq o) value rest ≡ None
first_below Less value rest low none = none
first_below Equal value rest low none = absurd (cc)
first_below Greater value rest low none = absurd (cc)

none_below : (key : List ℕ) (es : Notes) → below_all (slice_cmp nat_cmp) key es ≡ true
    → fin.find (slice_cmp nat_cmp) key es ≡ None
none_below key [] low = refl
none_below key (e ∷ es) low =
    let both = and_parts _ _ low in
    first_below (slice_cmp nat_cmp key e.0) (Some e.1) (fin.find (slice_cmp nat_cmp) key es) both.0
    (none_below key es both.1)

first_made : (b : Bool) (q : List ℕ) (e : List ℕ × Option (List ℕ)) (es : Notes) (before : Option (List ℕ))
    → same_key q e.0 ≡ b → fin.find (slice_cmp nat_cmp) e.0 es ≡ None
    → made (fin.find (slice_cmp nat_cmp) q es) (cond b e.1 before)
    ≡ made (cond b (Some e.1) (fin.find (slice_cmp nat_cmp) q es)) before
first_made true q e es before same none =
    ap (λ (o : Option (Option (List ℕ))). made o e.1)
    (ap (λ (k : List ℕ). fin.find (slice_cmp nat_cmp) k es) (same_bytes q e.0 same) ∙ none)
first_made false q e es before same none = refl

made_by : (es : Notes) (rows : RowMap) (q : List ℕ) → is_sorted (slice_cmp nat_cmp) es ≡ true
    → fin.get (changed rows (map change_of es)) q ≡ made (fin.find (slice_cmp nat_cmp) q es) (fin.get rows q)
made_by [] rows q up = refl
made_by (e ∷ es) rows q up =
    let both = and_parts _ _ up in
    made_by es (changed_at rows e.0 e.1) q both.1
    ∙ ap (made (fin.find (slice_cmp nat_cmp) q es)) (at_change rows e.0 e.1 q)
    ∙ first_made (same_key q e.0) q e es (fin.get rows q) refl (none_below e.0 es both.0)

same_if : (a b : Option (List ℕ)) → is_same a b ≡ true → a ≡ b
same_if None None e = refl
same_if None (Some b) e = absurd (cc)
same_if (Some a) None e = absurd (cc)
same_if (Some a) (Some b) e = ap (λ (x : List ℕ). Some x) ((bytes_eq-Decides a b).0 e)

pub same_itself : (a : Option (List ℕ)) → is_same a a ≡ true
same_itself None = refl
same_itself (Some a) = (bytes_eq-Decides a a).1 refl

made_if : (b : Bool) (before after : Option (List ℕ)) → is_same before after ≡ b
    → made (cond b None (Some after)) before ≡ after
made_if true before after e = same_if before after e
made_if false before after e = refl

some_is : {A : Type 0} (x y : A) → Some x ≡ Some y → x ≡ y
some_is x y e = cc

differs_if : (b : Bool) (before after value : Option (List ℕ)) → is_same before after ≡ b
    → cond b None (Some after) ≡ Some value → before ≡ value → ⊥
differs_if true before after value e f same = absurd (cc)
differs_if false before after value e f same =
    let is : after ≡ value = some_is after value f in
    false≢true (sym e ∙ ap (is_same before) (is ∙ sym same) ∙ same_itself before)

module _ (rows : RowMap) (changes : ChangeMap) (after : List ℕ → Option (List ℕ))
    (noted : (q : List ℕ) → fin.get changes q ≡ change_to (fin.get rows q) (after q)) where
  -- the noted changes lead to these values
  pub all_made : (q : List ℕ) → fin.get (changed rows (listed changes)) q ≡ after q
  all_made q =
      made_by (fin.entries changes) rows q (sorted_entries changes)
      ∙ ap (λ (o : Option (Option (List ℕ))). made o (fin.get rows q)) (sym (get-entries changes q) ∙ noted q)
      ∙ made_if (is_same (fin.get rows q) (after q)) (fin.get rows q) (after q) refl

  change_by : (es : Notes) → ((e : List ℕ × Option (List ℕ)) → In e es → fin.get changes e.0 ≡ Some e.1)
      → AllByRecursion (IsChange rows) (map change_of es)
  change_by [] there = tt
  change_by (e ∷ es) there = (
    differs_if (is_same (fin.get rows e.0) (after e.0)) (fin.get rows e.0) (after e.0) e.1 refl
        (sym (noted e.0) ∙ there e (inl refl)),
    change_by es (λ x h. there x (inr h)),
  )

  -- and each of them changes something
  pub all_change : AllByRecursion (IsChange rows) (listed changes)
  all_change = change_by (fin.entries changes) (entry_get changes)
