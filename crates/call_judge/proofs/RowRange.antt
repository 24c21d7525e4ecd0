-- Taking the rows whose keys begin alike, from the first key that may begin so on. Callers want `starts`, `takes`,
-- `ends` and `stops`.
use Rattle.std.proofs.Common.{◌≡◌, ℕ, Bool, true, false, cond, eqb, List, [], ◌∷◌, ◌++◌, map, sym, ap, ◌∙◌}
use Rattle.std.proofs.Common.{refl, inl, inr}
use Rattle.std.specs.Cmp.Lexicographic.{slice_cmp}
use Rattle.std.specs.declared.alloc.Global.{Global}
use Rattle.std.specs.declared.cmp.Ordering.TheVariants.{Less}
use Rattle.std.specs.declared.vec.Vec.{Vec}
use Rattle.std.specs.FinMap as fin
use Rattle.std.specs.List.{filter, starts_with, AllByRecursion}
use Rattle.std.specs.List.Sorted.{IsStrictlySortedBy}
use Rattle.std.specs.Map.{keys_of}
use Rattle.std.specs.Ordering.{nat_cmp}
use Rattle.std.specs.BTreeMap.Range.{entries_between}
use Rattle.std.specs.declared.ops.Bound.TheVariants.{Included, Unbounded}
use Rattle.apex_base.specs.Members.{In}
use Rattle.std.proofs.lemmas.Bool.{false≢true, false_from_ne_true}
use Rattle.std.proofs.lemmas.Bool.Decides.{Decides-eqb}
use Rattle.std.proofs.lemmas.List.{append_assoc, append-nil}
use Rattle.std.proofs.lemmas.Slice.Eq.{starts_is}
use Rattle.apex_base.specs.Keys.{RowMap}
use Rattle.apex_base.proofs.MemberLemmas.{each_in}
use Rattle.package_store.proofs.Fronts.{at_least, front_le, between}
use Rattle.package_store.proofs.RowsFrom.{Rows, Entry, by_items, range_is_from, keys_filter}
use Rattle.row_codec.specs.declared.batch.Row.{Row}
use Rattle.row_map.specs.Rows.{shown}
use Rattle.call_judge.specs.Taken.{deletion, taken}

abbrev begins : List ℕ → List ℕ → Bool
begins front key = starts_with eqb key front

begins_after : (front key : List ℕ) → begins front key ≡ true → at_least front key ≡ true
begins_after front key e =
    ap (at_least front) ((starts_is Decides-eqb key front (begins front key) refl).0 e) ∙ front_le front _

-- after one that doesn't begin so none does
none_above : (front key q : List ℕ) → at_least front key ≡ true → begins front key ≡ false
    → slice_cmp nat_cmp key q ≡ Less → begins front q ≡ false
none_above front key q le e lt =
    false_from_ne_true (begins front q) (λ b.
    let is = (starts_is Decides-eqb q front (begins front q) refl).0 b in
    let (tail, f) = between front key _ le (ap (slice_cmp nat_cmp key) (sym is) ∙ lt) in
    absurd (false≢true (sym e ∙ (starts_is Decides-eqb key front (begins front key) refl).1 tail f)))

-- Lists that are filtered

filter_none : {X : Type 0} (p : X → Bool) (xs : List X) → ((x : X) → In x xs → p x ≡ false) → filter p xs ≡ []
filter_none p [] none = refl
filter_none p (x ∷ xs) none =
    ap (λ b. cond b (x ∷ filter p xs) (filter p xs)) (none x (inl refl)) ∙ filter_none p xs (λ y i. none y (inr i))

twice_if : {X : Type 0} (p q : X → Bool) (x : X) (xs ys : List X) (a b : Bool) → p x ≡ a → q x ≡ b
    → (p x ≡ true → q x ≡ true) → filter p xs ≡ filter p ys
    → filter p (cond b (x ∷ xs) xs) ≡ cond a (x ∷ filter p ys) (filter p ys)
twice_if p q x xs ys true true e f less same = rw e (ap (λ zs. x ∷ zs) same)
twice_if p q x xs ys true false e f less same = absurd (false≢true (sym f ∙ less e))
twice_if p q x xs ys false true e f less same = rw e same
twice_if p q x xs ys false false e f less same = same

-- what passes the one test passes the other too
filter_twice : {X : Type 0} (p q : X → Bool) → ((x : X) → p x ≡ true → q x ≡ true) → (xs : List X)
    → filter p (filter q xs) ≡ filter p xs
filter_twice p q less [] = refl
filter_twice p q less (x ∷ xs) =
    twice_if p q x (filter q xs) xs (p x) (q x) refl refl (less x) (filter_twice p q less xs)

-- The walk

-- the batch, and what is left to take, is all that is to be taken; what is left ascends, and comes after these bytes
pub record Left (front : List ℕ) (old : List Row) (keys : List (List ℕ)) (batch : List Row) (rest : Rows)
    : Type 0 where
  pub joined : batch ++ taken front (keys_of rest) ≡ old ++ taken front keys
  pub up : IsStrictlySortedBy (slice_cmp nat_cmp) (keys_of rest)
  pub after : AllByRecursion (λ key. at_least front key ≡ true) (keys_of rest)

module _ (front : List ℕ) (old : List Row) where
  -- the rows from these bytes on
  pub starts : (m : RowMap) (entries es : List Entry) (start : Vec ℕ Global) → fin.entries m ≡ shown entries
      → start.items ≡ front → es ≡ entries_between by_items (Included start) Unbounded entries
      → Left front old (fin.keys m) old (shown es)
  starts m entries es start all is some =
      let from = range_is_from front m entries es start all is some in
      let kept : keys_of (shown es) ≡ filter (at_least front) (fin.keys m) =
      ap (λ (rows : Rows). keys_of rows) from.are ∙ keys_filter (at_least front) (fin.entries m) in
      record {
        joined = ap (λ ks. old ++ map deletion ks) (ap (filter (begins front)) kept
            ∙ filter_twice (begins front) (at_least front) (begins_after front) (fin.keys m));
        up = from.up;
        after = from.after;
      }

  module _ (keys : List (List ℕ)) (batch : List Row) where
    -- where no row is left all is taken
    pub ends : Left front old keys batch [] → batch ≡ old ++ taken front keys
    ends l = sym (append-nil batch) ∙ l.joined

    module _ (e : List ℕ × List ℕ) (rest : Rows) (l : Left front old keys batch (e ∷ rest)) where
      -- a row whose key begins so is taken
      pub takes : (batch' : List Row) → begins front e.0 ≡ true → batch' ≡ batch ++ deletion e.0 ∷ []
          → Left front old keys batch' rest
      unfolding IsStrictlySortedBy
      takes batch' b is = record {
        joined = ap (λ rows. rows ++ taken front (keys_of rest)) is
            ∙ append_assoc batch (deletion e.0 ∷ []) (taken front (keys_of rest))
            ∙ ap (λ (c : Bool). batch ++ map deletion (cond c (e.0 ∷ filter (begins front) (keys_of rest))
            (filter (begins front) (keys_of rest)))) (sym b) ∙ l.joined;
        up = l.up.1;
        after = l.after.1;
      }

      -- and at the first whose key doesn't, all is taken
      pub stops : begins front e.0 ≡ false → batch ≡ old ++ taken front keys
      unfolding IsStrictlySortedBy
      stops b =
          let none : filter (begins front) (keys_of (e ∷ rest)) ≡ [] =
          filter_none (begins front) (keys_of (e ∷ rest)) (λ q i. elim i [
            | inl same ↦ ap (begins front) (sym same) ∙ b
            | inr j ↦ none_above front e.0 q l.after.0 b
                (each_in (λ k. slice_cmp nat_cmp e.0 k ≡ Less) (keys_of rest) l.up.0 q j)
          ]) in
          sym (append-nil batch) ∙ ap (λ ks. batch ++ map deletion ks) (sym none) ∙ l.joined
