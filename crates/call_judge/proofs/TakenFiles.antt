-- The rows that go with a module. Callers want `taken_in`, `not_taken`, `not_first`, `not_second`,
-- `all_ascend` and `IsBelowFiles`.
use Rattle.std.proofs.Common.{◌≡◌, ℕ, Bool, true, false, eqb, List, [], ◌∷◌, ◌++◌, map, length, drop, Option}
use Rattle.std.proofs.Common.{Some, None, sym, ap, subst, ◌∙◌, refl, inl, inr, ◌||◌}
use Rattle.std.specs.Cmp.Lexicographic.{slice_cmp}
use Rattle.std.specs.declared.cmp.Ordering.TheVariants.{Less}
use Rattle.std.specs.FinMap as fin
use Rattle.std.specs.List.{filter, starts_with}
use Rattle.std.specs.List.Sorted.{IsStrictlySortedBy}
use Rattle.std.specs.Ordering.{nat_cmp}
use Rattle.std.proofs.lemmas.Bool.{false≢true}
use Rattle.std.proofs.lemmas.Bool.Decides.{Decides-eqb}
use Rattle.std.proofs.lemmas.List.Kept.{IsStrictlySortedBy-filter}
use Rattle.std.proofs.lemmas.Slice.Eq.{starts_is}
use Rattle.apex_base.specs.declared.records.Target.{Target}
use Rattle.apex_base.specs.declared.records.Target.TheVariants.{Preinstalled, Module}
use Rattle.apex_base.specs.Keys.{RowMap, file_front}
use Rattle.apex_base.specs.Members.{In}
use Rattle.apex_base.proofs.Finding.{filtered}
use Rattle.apex_base.proofs.MemberLemmas.{in_map, in_map_back, in_filter, in_each, each_in, in_append}
use Rattle.apex_base.proofs.RowMaps.{in_keys, sorted_entries}
use Rattle.package_store.proofs.Maps.{ascend}
use Rattle.row_codec.specs.declared.batch.Row.{Row}
use Rattle.row_codec.specs.Batch.{keys_of}
use Rattle.row_map.specs.Room.{in_batch, same_key}
use Rattle.call_judge.specs.Taken.{deletion, taken, files_taken}
use Rattle.stored_world.proofs.BatchRows.{in_batch_row}

neither_if : (a b c : Bool) → (a || b) ≡ false → (b ≡ false → c ≡ false) → (a || c) ≡ false
neither_if true b c e more = absurd (false≢true (sym e))
neither_if false b c e more = more e

-- what is in neither of two batches is not in the first, and not in the second
pub not_first : (q : List ℕ) (xs ys : List Row) → in_batch q (xs ++ ys) ≡ false → in_batch q xs ≡ false
not_first q [] ys e = refl
not_first q (x ∷ xs) ys e =
    neither_if (same_key q x.key) (in_batch q (xs ++ ys)) (in_batch q xs) e (not_first q xs ys)

second_if : (a b c : Bool) → (a || b) ≡ false → (b ≡ false → c ≡ false) → c ≡ false
second_if true b c e more = absurd (false≢true (sym e))
second_if false b c e more = more e

pub not_second : (q : List ℕ) (xs ys : List Row) → in_batch q (xs ++ ys) ≡ false → in_batch q ys ≡ false
not_second q [] ys e = e
not_second q (x ∷ xs) ys e =
    second_if (same_key q x.key) (in_batch q (xs ++ ys)) (in_batch q ys) e (not_second q xs ys)

-- The rows whose keys begin alike

module _ (front : List ℕ) (m : RowMap) where
  begins : List ℕ → Bool
  begins key = starts_with eqb key front

  -- a row that is taken is one whose key begins so
  pub taken_in : (row : Row) → In row (taken front (fin.keys m))
      → (row ≡ deletion row.key) × (row.key ≡ front ++ drop (length front) row.key)
  unfolding begins
  taken_in row i =
      let (key, j, e) = in_map_back deletion row (filter begins (fin.keys m)) i in
      let b = (in_filter begins key (fin.keys m) j).1 in
      let same : key ≡ row.key = ap (λ (r : Row). r.key) e in (
        sym e ∙ ap deletion same,
        subst (λ (q : List ℕ). q ≡ front ++ drop (length front) q) same
            ((starts_is Decides-eqb key front (begins key) refl).0 b),
      )

  taken_has : (q rest v : List ℕ) → q ≡ front ++ rest → fin.get m q ≡ Some v
      → in_batch q (taken front (fin.keys m)) ≡ true
  unfolding begins
  taken_has q rest v e f =
      in_batch_row (deletion q) (taken front (fin.keys m)) (in_map deletion q (filter begins (fin.keys m))
      (filtered begins q (fin.keys m) (in_keys m q v f) ((starts_is Decides-eqb q front (begins q) refl).1 rest e)))

  not_taken_if : (q rest : List ℕ) (o : Option (List ℕ)) → fin.get m q ≡ o → q ≡ front ++ rest
      → in_batch q (taken front (fin.keys m)) ≡ false → o ≡ None
  not_taken_if q rest None f e none = refl
  not_taken_if q rest (Some v) f e none = absurd (false≢true (sym none ∙ taken_has q rest v e f))

  -- and where one whose key begins so isn't taken, it isn't there
  pub not_taken : (q rest : List ℕ) → q ≡ front ++ rest → in_batch q (taken front (fin.keys m)) ≡ false
      → fin.get m q ≡ None
  not_taken q rest e none = not_taken_if q rest (fin.get m q) refl e none

-- They ascend

keys_again : (keys : List (List ℕ)) → keys_of (map deletion keys) ≡ keys
keys_again [] = refl
keys_again (key ∷ keys) = ap (λ ks. key ∷ ks) (keys_again keys)

taken_ascend : (front : List ℕ) (m : RowMap)
    → IsStrictlySortedBy (slice_cmp nat_cmp) (keys_of (taken front (fin.keys m)))
taken_ascend front m =
    subst (IsStrictlySortedBy (slice_cmp nat_cmp))
    (sym (keys_again (filter (λ key. starts_with eqb key front) (fin.keys m))))
    (IsStrictlySortedBy-filter (slice_cmp nat_cmp) (λ key. starts_with eqb key front) (fin.keys m)
    (ascend (fin.entries m) (sorted_entries m)))

-- below each key of a file
abbrev pub IsBelowFiles : List ℕ → Type 0
IsBelowFiles key = (rest : List ℕ) → slice_cmp nat_cmp key (5 ∷ rest) ≡ Less

files_ascend : (m : RowMap) (t : Target) → IsStrictlySortedBy (slice_cmp nat_cmp) (keys_of (files_taken m t))
unfolding IsStrictlySortedBy
files_ascend m Preinstalled = tt
files_ascend m (Module session part version) = taken_ascend (file_front session part []) m

below_files : (m : RowMap) (t : Target) (key : List ℕ) → IsBelowFiles key → (q : List ℕ)
    → In q (keys_of (files_taken m t)) → slice_cmp nat_cmp key q ≡ Less
below_files m Preinstalled key less q i = absurd i
below_files m (Module session part version) key less q i =
    let front = file_front session part [] in
    let (row, j, e) = in_map_back (λ (r : Row). r.key) q (taken front (fin.keys m)) i in
    let begun = (taken_in front m row j).1 in
    ap (slice_cmp nat_cmp key) (sym e ∙ begun) ∙ less _

-- rows below all files, and then files, ascend
pub all_ascend : (m : RowMap) (t : Target) (head : List Row) → IsStrictlySortedBy (slice_cmp nat_cmp) (keys_of head)
    → ((row : Row) → In row head → IsBelowFiles row.key)
    → IsStrictlySortedBy (slice_cmp nat_cmp) (keys_of (head ++ files_taken m t))
unfolding IsStrictlySortedBy
all_ascend m t [] up less = files_ascend m t
all_ascend m t (row ∷ head) up less = (
  in_each (λ q. slice_cmp nat_cmp row.key q ≡ Less) (keys_of (head ++ files_taken m t)) (λ q i.
      let (r, j, e) = in_map_back (λ (r : Row). r.key) q (head ++ files_taken m t) i in
      elim (in_append r head (files_taken m t) j) [
        | inl k ↦ each_in (λ q. slice_cmp nat_cmp row.key q ≡ Less) (keys_of head) up.0 q
            (subst (λ q. In q (keys_of head)) e (in_map (λ (r : Row). r.key) r head k))
        | inr k ↦ below_files m t row.key (less row (inl refl)) q
            (subst (λ q. In q (keys_of (files_taken m t))) e (in_map (λ (r : Row). r.key) r (files_taken m t) k))
      ]),
  all_ascend m t head up.1 (λ r j. less r (inr j)),
)
