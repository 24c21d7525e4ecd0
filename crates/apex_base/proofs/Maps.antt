-- Modules as maps. Callers want `entries_of`, `empty_module`, `put_module`, `less_module` and `weight_below`.
use Rattle.std.proofs.Common.{T, ◌≡◌, ℕ, suc, ◌+◌, ◌-◌, ◌*◌, ◌≤◌, Bool, true, false, cond, ◌&&◌, not, List, [], ◌∷◌}
use Rattle.std.proofs.Common.{length, map, sum, Some, None, Option, sym, ap, subst, ◌∙◌, refl, arith}
use Rattle.std.specs.Prelude.{IfSome, IsTrue, OnOk, OnErr, Result, Ok, Err, nat_le, nat_lt}
use Rattle.std.specs.List.{AllByRecursion}
use Rattle.std.specs.List.Sorted.{IsStrictlySortedBy}
use Rattle.std.specs.declared.cmp.Ordering.{Ordering}
use Rattle.std.specs.declared.cmp.Ordering.TheVariants.{Less, Equal, Greater}
use Rattle.std.specs.FinMap.Entries.{below_all}
use Rattle.std.specs.Ordering.{nat_cmp, eq_by_cmp, is_eq}
use Rattle.std.specs.Cmp.Lexicographic.{slice_cmp, nat_list_cmp_total}
use Rattle.std.specs.FinMap as fin
use Rattle.std.specs.FinMap.{is_sorted, same_map, slice_cmp-IsAntisymmetric, nat_cmp-IsAntisymmetric, get-empty}
use Rattle.std.specs.FinMap.{get-insert, get-remove, get-from_entries, get-from_sorted, entries-from_sorted, len-empty}
use Rattle.std.specs.FinMap.{len-insert, len-remove, len-entries}
use Rattle.std.specs.Map.{keys_of, values_of, lookup}
use Rattle.std.specs.List.{sum_by}
use Rattle.std.proofs.lemmas.List.Sums.{sum-map, sum_by-cons}
use Rattle.std.specs.Cmp.{eq_by_cmp_equiv}
use Rattle.std.proofs.lemmas.Map.Keys.{IsDistinct-from_sorted}
use Rattle.std.proofs.lemmas.Map.Views.{All-values_from_lookup}
use Rattle.std.proofs.lemmas.List.Elements.{recursion_from_All}
use Rattle.std.proofs.lemmas.Bool.Decides.{nat_tests}
use Rattle.apex_base.specs.Modules.{FileMap, IsModule, HoldsModule, put_fault, file_weight}
use Rattle.apex_base.specs.declared.module.PutWhy.TheVariants.{Files, Large}
use Rattle.apex_base.specs.Text.{is_path}

pub same_files : (m n : FileMap) → ((q : List ℕ) → fin.get m q ≡ fin.get n q) → m ≡ n
same_files = same_map nat_list_cmp_total (slice_cmp-IsAntisymmetric nat_cmp-IsAntisymmetric)

-- the keys of a list that ascends are in order

pub below : {X : Type 0} (path : List ℕ) (es : List (List ℕ × X))
    → AllByRecursion (λ q. slice_cmp nat_cmp path q ≡ Less) (keys_of es)
    → IsTrue (below_all (slice_cmp nat_cmp) path es)
below path [] all = refl
below path (e ∷ es) all = rw all.0 (below path es all.1)

pub sorted : {X : Type 0} (es : List (List ℕ × X)) → IsStrictlySortedBy (slice_cmp nat_cmp) (keys_of es)
    → IsTrue (is_sorted (slice_cmp nat_cmp) es)
unfolding IsStrictlySortedBy
sorted [] s = refl
sorted (e ∷ es) s = rw (below e.0 es s.0) (sorted es s.1)

pub is_T : (b : Bool) → IsTrue b → T b
is_T true e = tt
is_T false e = absurd (cc)

-- the entries of a map of entries in order
pub entries_of : (es : List (List ℕ × List ℕ)) → IsStrictlySortedBy (slice_cmp nat_cmp) (keys_of es)
    → fin.entries {R = slice_cmp nat_cmp} (fin.from_entries es) ≡ es
entries_of es s =
    let in_order = is_T _ (sorted es s) in
    let same : ◌≡◌ {A = FileMap} (fin.from_entries es) (fin.from_sorted es) =
    same_files _ _ (λ q. get-from_entries nat_list_cmp_total es q
    ∙ sym (get-from_sorted (slice_cmp nat_cmp) es q in_order)) in
    ap fin.entries same ∙ entries-from_sorted (slice_cmp nat_cmp) es in_order

pub empty_module : IsModule fin.empty
empty_module = record {
  few = rw (len-empty (slice_cmp nat_cmp) (List ℕ)) (omega arith);
  short = λ path. rw (get-empty {X = List ℕ} (slice_cmp nat_cmp) path) tt;
  paths = λ path. rw (get-empty {X = List ℕ} (slice_cmp nat_cmp) path) tt;
}

equal : (o : Ordering) → is_eq o ≡ true → o ≡ Equal
equal Less e = absurd (cc)
equal Equal e = refl
equal Greater e = absurd (cc)

if_some : {X : Type 0} (P : X → Type 0) (b : Bool) (x : Option X) (y : Option X) → IfSome x P → IfSome y P
    → IfSome (cond b x y) P
if_some P true x y p q = p
if_some P false x y p q = q

same_path : (q path : List ℕ) → eq_by_cmp (slice_cmp nat_cmp) q path ≡ true → q ≡ path
same_path q path e = slice_cmp-IsAntisymmetric nat_cmp-IsAntisymmetric q path (equal _ e)

named_at : (m : FileMap) (path content q : List ℕ) (b : Bool) → eq_by_cmp (slice_cmp nat_cmp) q path ≡ b → IsModule m
    → IsTrue (is_path path) → IfSome (cond b (Some content) (fin.get m q)) (λ _. IsTrue (is_path q))
named_at m path content q true e h named = rw (same_path q path e) named
named_at m path content q false e h named = h.paths q

less_room : (b : Bool) (n k : ℕ) → k ≡ cond b (n - 1) n → n ≤ 64 → k ≤ 64
less_room true n k e few = omega (arith, e, few)
less_room false n k e few = omega (arith, e, few)

long_faults : (b : Bool) (l : ℕ) → cond b (Some Files) (Some (Large l)) ≡ None → ⊥
long_faults true l e = absurd (cc)
long_faults false l e = absurd (cc)

room_by : (present full long : Bool) (n l k : ℕ) → nat_le 64 n ≡ full → nat_lt 1048576 l ≡ long
    → k ≡ cond present n (n + 1) → n ≤ 64
    → cond (not present && full) (Some Files) (cond long (Some (Large l)) None) ≡ None → (k ≤ 64) × (l ≤ 1048576)
room_by present full true n l k f g e few free = absurd (long_faults (not present && full) l free)
room_by true full false n l k f g e few free = (omega (arith, e, few), grind (arith, nat_tests, g))
room_by false true false n l k f g e few free = absurd (cc)
room_by false false false n l k f g e few free = (grind (arith, nat_tests, f, e), grind (arith, nat_tests, g))

-- a file more, where it may be put
pub put_module : (m : FileMap) (path content : List ℕ) → IsModule m → IsTrue (is_path path) → length content ≤ 1048576
    → fin.len (fin.insert m path content) ≤ 64 → IsModule (fin.insert m path content)
put_module m path content h named fits room = record {
  few = room;
  short = λ q. rw (get-insert nat_list_cmp_total m path content q)
      (if_some _ (eq_by_cmp (slice_cmp nat_cmp) q path) (Some content) (fin.get m q) fits (h.short q));
  paths = λ q. rw (get-insert nat_list_cmp_total m path content q)
      (named_at m path content q (eq_by_cmp (slice_cmp nat_cmp) q path) refl h named);
}

pub less_module : (m : FileMap) (path : List ℕ) → IsModule m → IsModule (fin.remove m path)
less_module m path h = record {
  few = less_room (fin.contains_key m path) (fin.len m) (fin.len (fin.remove m path))
      (len-remove nat_list_cmp_total m path) h.few;
  short = λ q. rw (get-remove nat_list_cmp_total m path q)
      (if_some _ (eq_by_cmp (slice_cmp nat_cmp) q path) None (fin.get m q) tt (h.short q));
  paths = λ q. rw (get-remove nat_list_cmp_total m path q)
      (if_some _ (eq_by_cmp (slice_cmp nat_cmp) q path) None (fin.get m q) tt (h.paths q));
}

-- a file that may be put has room
pub room_for : (m : FileMap) (path content : List ℕ) → IsModule m → put_fault m path content ≡ None
    → (fin.len (fin.insert m path content) ≤ 64) × (length content ≤ 1048576)
room_for m path content h free =
    room_by (fin.contains_key m path) (nat_le 64 (fin.len m)) (nat_lt 1048576 (length content)) _ _
    (fin.len (fin.insert m path content)) refl refl (len-insert nat_list_cmp_total m path content) h.few free

-- what a write leaves in memory, whether it could be done or not
pub put_holds : {X Y : Type 0} (r : Result X Y) (old new : List (List ℕ × List ℕ)) (path content : List ℕ)
    → HoldsModule old → IsTrue (is_path path) → put_fault (fin.from_entries old) path content ≡ None
    → IsStrictlySortedBy (slice_cmp nat_cmp) (keys_of new)
    → OnOk r (◌≡◌ {A = FileMap} (fin.from_entries new) (fin.insert (fin.from_entries old) path content))
    → OnErr r (new ≡ old) → HoldsModule new
put_holds (Ok x) old new path content h named free s put same =
    let room = room_for _ path content h.whole free in
    record { ascending = s; whole = subst IsModule (sym put) (put_module _ path content h.whole named room.1 room.0) }
put_holds (Err e) old new path content h named free s put same = subst HoldsModule (sym same) h

find_lookup : (q : List ℕ) (es : List (List ℕ × List ℕ))
    → lookup (eq_by_cmp (slice_cmp nat_cmp) q) es ≡ fin.find (slice_cmp nat_cmp) q es
find_lookup q [] = refl
find_lookup q (e ∷ es) = rw (find_lookup q es) refl

weight_most : (es : List (List ℕ × List ℕ)) → AllByRecursion (λ b. length b ≤ 1048576) (values_of es)
    → sum_by (λ f. file_weight f.1) es ≤ length es * 1048832
weight_most [] a = omega arith
weight_most (e ∷ es) a =
    let first : length e.1 ≤ 1048576 = a.0 in
    let count : length (e ∷ es) ≡ suc (length es) = refl in
    omega (arith, sum_by-cons (λ f. file_weight f.1) e es, first, count, weight_most es a.1)

-- a module weighs less than a number of 27 bits
pub weight_below : (es : List (List ℕ × List ℕ)) → HoldsModule es → sum (map (λ f. file_weight f.1) es) ≤ 67125248
weight_below es h =
    let each = All-values_from_lookup (eq_by_cmp_equiv nat_list_cmp_total) (λ b. length b ≤ 1048576) es
    (IsDistinct-from_sorted (slice_cmp nat_cmp) (keys_of es) h.ascending)
    (λ q. rw (find_lookup q es, ← get-from_entries nat_list_cmp_total es q) (h.whole.short q)) in
    let few : length es ≤ 64 = omega (
      arith,
      h.whole.few,
      len-entries {R = slice_cmp nat_cmp} (fin.from_entries es),
      ap length (entries_of es h.ascending),
    ) in
    omega (
      arith,
      sum-map (λ f. file_weight f.1) es,
      weight_most es (recursion_from_All (λ (b : List ℕ). length b ≤ 1048576) (values_of es) each),
      few,
    )
