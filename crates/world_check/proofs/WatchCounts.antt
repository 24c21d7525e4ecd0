-- Watches are as many as their rows, and end as these say. Callers want `watches_decided`.
use Rattle.std.proofs.Common.{T, ◌≡◌, ◌≢◌, ℕ, ◌-◌, ◌*◌, ◌≤◌, Bool, true, false, cond, eqb, List, [], ◌∷◌, length}
use Rattle.std.proofs.Common.{map, filter, flat_map, Option, Some, None, sym, ap, subst, ◌∙◌, refl, inl, inr, arith}
use Rattle.std.proofs.Common.{Decides, is_some}
use Rattle.std.specs.Ordering.{nat_cmp}
use Rattle.std.specs.Cmp.Lexicographic.{slice_cmp}
use Rattle.std.specs.FinMap as fin
use Rattle.std.specs.FinMap.{is_sorted, entries_sorted, len-entries}
use Rattle.std.specs.FinMap.Entries.{is_sorted-where_key}
use Rattle.std.proofs.lemmas.Bool.{true≢false, and_parts, leb-true, le-leb, eqb-true, eq-eqb}
use Rattle.std.specs.List.{sum_by}
use Rattle.std.proofs.lemmas.List.{length-append, length-map}
use Rattle.std.proofs.lemmas.List.Sums.{sum_by-cons, sum-map}
use Rattle.apex_base.specs.declared.numbers.Scale.{Scale}
use Rattle.apex_base.specs.Keys.{WatchOf, RowMap, watch_front}
use Rattle.apex_base.specs.Members.{In}
use Rattle.apex_base.specs.Numbers.{scale_modules}
use Rattle.apex_base.specs.RowSums.{has_tag}
use Rattle.apex_base.specs.Tables.{NameMap, Table, or_empty, value_of}
use Rattle.apex_base.proofs.Finding.{filtered}
use Rattle.apex_base.proofs.KeyLemmas.{same_key}
use Rattle.apex_base.proofs.MemberLemmas.{in_map, in_map_back, in_flat_map, in_flat_map_back, in_filter}
use Rattle.apex_base.proofs.RowMaps.{below_in, sorted_entries, entry_get, in_entries, in_keys}
use Rattle.apex_base.proofs.SumLemmas.{length_most}
use Rattle.apex_world.specs.Bounds.{table_len}
use Rattle.apex_world.specs.Opened.{opened, opened_watches, end_of}
use Rattle.world_facts.proofs.facts.RowWeightLemmas.{key_first, key_last}
use Rattle.world_facts.proofs.facts.WorldRows.{in_part}
use Rattle.row_check.specs.BadRows.{opened_rows}
use Rattle.world_check.specs.LawfulParts.{HasLawfulWatches}
use Rattle.world_check.specs.WatchRows.{is_in_time, left_after_all}
use Rattle.world_check.proofs.Differing.{Differ, append_differ, keys_differ, mapped_differ}
use Rattle.world_check.proofs.KeyForms.{IsOfWatch, watch_there, watch_back}

abbrev Row : Type 0
Row = List ℕ × List ℕ

-- Keys of watches

abbrev part_keys : List ℕ × NameMap ℕ → List (List ℕ)
part_keys e = map (watch_front e.0) (fin.keys e.1)

abbrev keys_of : List (List ℕ × NameMap ℕ) → List (List ℕ)
keys_of es = flat_map part_keys es

one_key : (a b c d : List ℕ) → watch_front a b ≡ watch_front c d → (a ≡ c) × (b ≡ d)
one_key a b c d e =
    let same = same_key (WatchOf a b) (WatchOf c d) tt tt e in (ap key_first same, ap key_last same)

watch_keys_differ : (es : List (List ℕ × NameMap ℕ)) → is_sorted (slice_cmp nat_cmp) es ≡ true → Differ (keys_of es)
watch_keys_differ [] s = tt
watch_keys_differ (e ∷ es) s =
    append_differ (part_keys e) (keys_of es)
    (mapped_differ (watch_front e.0) (fin.keys e.1) (keys_differ (fin.entries e.1) (sorted_entries e.1))
    (λ a b h i f. (one_key e.0 a e.0 b f).1))
    (watch_keys_differ es (and_parts _ _ s).1) (λ k h i.
    let (a, j, is) = in_map_back (watch_front e.0) k (fin.keys e.1) h in
    let (f, l, n) = in_flat_map_back part_keys k es i in
    let (b, o, was) = in_map_back (watch_front f.0) k (fin.keys f.1) n in
    below_in e.0 es f (and_parts _ _ s).0 l (one_key e.0 a f.0 b (is ∙ sym was)).0)

abbrev part_len : List ℕ × NameMap ℕ → ℕ
part_len e = fin.len e.1

keys_length : (es : List (List ℕ × NameMap ℕ)) → length (keys_of es) ≡ sum_by part_len es
keys_length [] = refl
keys_length (e ∷ es) =
    let r = keys_length es in
    let a = length-append (part_keys e) (keys_of es) in
    let b = length-map (fin.keys e.1) (watch_front e.0) in
    let c = length-map (fin.entries e.1) (λ (e : List ℕ × ℕ). e.0) in
    let d = len-entries e.1 in
    let f = sum_by-cons part_len e es in
    omega (arith, r, a, b, c, d, f)

-- Rows of watches

abbrev is_watch : Row → Bool
is_watch row = has_tag 9 row.0

abbrev watch_rows : List Row → List Row
watch_rows rows = filter is_watch rows

-- each ends in time
abbrev AreInTime : List Row → Type 0
AreInTime rows = (row : Row) → In row rows → is_watch row ≡ true → is_in_time (end_of row.1) ≡ true

abbrev AreWithin : ℕ → List Row → Type 0
AreWithin left rows = AreInTime rows × (length (watch_rows rows) ≤ left)

more_within : (b : Bool) (left : ℕ) (row : Row) (rows : List Row) → is_watch row ≡ b → AreInTime rows
    → (b ≡ true → is_in_time (end_of row.1) ≡ true) → length (cond b (row ∷ watch_rows rows) (watch_rows rows)) ≤ left
    → AreWithin left (row ∷ rows)
more_within b left row rows is each own few = (
  λ x h w. elim h [
    | inl e ↦ rw (← e) (own (sym is ∙ ap is_watch e ∙ w))
    | inr i ↦ each x i w
  ],
  rw is few,
)

step_decided : (b c d : Bool) (left : ℕ) (row : Row) (rows : List Row) → is_watch row ≡ b
    → is_in_time (end_of row.1) ≡ c → eqb left 0 ≡ d
    → ((n : ℕ) → Decides (is_some (left_after_all (Some n) rows)) (AreWithin n rows))
    → Decides (is_some (left_after_all (cond b (cond c (cond d None (Some (left - 1))) None) (Some left)) rows))
    (AreWithin left (row ∷ rows))
step_decided false c d left row rows is time none more = (
  λ e. let h = (more left).0 e in more_within false left row rows is h.0 (λ f. absurd (true≢false (sym f))) h.1,
  λ h. (more left).1 (λ x i w. h.0 x (inr i) w, rw is at h.1),
)
step_decided true false d left row rows is time none more = (
  λ e. absurd (true≢false (sym e)),
  λ h. absurd (true≢false (sym (h.0 row (inl refl) is) ∙ time)),
)
step_decided true true true left row rows is time none more = (
  λ e. absurd (true≢false (sym e)),
  λ h.
      let few : length (row ∷ watch_rows rows) ≤ left = rw is at h.1 in
      let zero = eqb-true left 0 none in
      absurd (omega (arith, few, zero)),
)
step_decided true true false left row rows is time none more = (
  λ e.
      let h = (more (left - 1)).0 e in
      let few = h.1 in
      let some : left ≢ 0 = λ z. true≢false (sym (eq-eqb left 0 z) ∙ none) in
      more_within true left row rows is h.0 (λ f. time) (omega (arith, few, some)),
  λ h.
      let few : length (row ∷ watch_rows rows) ≤ left = rw is at h.1 in
      (more (left - 1)).1 (λ x i w. h.0 x (inr i) w, omega (arith, few)),
)

-- the test of the rows
rows_decided : (rows : List Row) (left : ℕ) → Decides (is_some (left_after_all (Some left) rows)) (AreWithin left rows)
rows_decided [] left = (λ e. (λ x h w. absurd h, omega arith), λ h. refl)
rows_decided (row ∷ rows) left =
    step_decided (is_watch row) (is_in_time (end_of row.1)) (eqb left 0) left row rows refl refl refl
    (λ n. rows_decided rows n)

is_T : (b : Bool) → T b → b ≡ true
is_T true t = refl
is_T false t = absurd t

module _ (m : RowMap) (scale : Scale) (right : opened_rows m scale ≡ m) where
  abbrev t : Table ℕ
  t = opened_watches m

  abbrev row_keys : List (List ℕ)
  row_keys = map (λ (row : Row). row.0) (watch_rows (fin.entries m))

  tagged : (q v : List ℕ) → has_tag 9 q ≡ true → fin.get m q ≡ Some v → IsOfWatch m q v
  tagged [] v h e = absurd (cc h)
  tagged (tag ∷ rest) v h e =
      let nine : tag ≡ 9 = eqb-true tag 9 h in
      subst (λ (n : ℕ). IsOfWatch m (n ∷ rest) v) (sym nine)
      (watch_back m scale right rest v (ap (λ (n : ℕ). fin.get m (n ∷ rest)) (sym nine) ∙ e))

  key_there : (k : List ℕ) → In k (keys_of (fin.entries t)) → In k row_keys
  key_there k h =
      let (e, i, j) = in_flat_map_back part_keys k (fin.entries t) h in
      let (name, l, is) = in_map_back (watch_front e.0) k (fin.keys e.1) j in
      let (f, n, was) = in_map_back (λ (e : List ℕ × ℕ). e.0) name (fin.entries e.1) l in
      let value : value_of t e.0 f.0 ≡ Some f.1 =
      ap (λ (o : Option (NameMap ℕ)). fin.get (or_empty o) f.0) (entry_get t e i) ∙ entry_get e.1 f n in
      let (v, row) = watch_there m e.0 f.0 f.1 value in
      let key : watch_front e.0 f.0 ≡ k = ap (watch_front e.0) was ∙ is in
      let there = in_entries m (watch_front e.0 f.0) v row.there in
      subst (λ (k : List ℕ). In k row_keys) key
      (in_map (λ (row : Row). row.0) (watch_front e.0 f.0, v) (watch_rows (fin.entries m))
      (filtered is_watch (watch_front e.0 f.0, v) (fin.entries m) there (refl {a = true})))

  key_back : (k : List ℕ) → In k row_keys → In k (keys_of (fin.entries t))
  key_back k h =
      let (row, i, is) = in_map_back (λ (row : Row). row.0) k (watch_rows (fin.entries m)) h in
      let (j, w) = in_filter is_watch row (fin.entries m) i in
      let of = tagged row.0 row.1 w (entry_get m row j) in
      let (p, e, f) = in_part t of.observer of.name of.end of.value in
      subst (λ (k : List ℕ). In k (keys_of (fin.entries t))) (sym of.key ∙ is)
      (in_flat_map part_keys (of.observer, p) (watch_front of.observer of.name) (fin.entries t)
      (in_entries t of.observer p e)
      (in_map (watch_front of.observer) of.name (fin.keys p) (in_keys p of.name of.end f)))

  watch_order : is_sorted (slice_cmp nat_cmp) (watch_rows (fin.entries m)) ≡ true
  watch_order = is_T _ (is_sorted-where_key (slice_cmp nat_cmp) (has_tag 9) (fin.entries m) (entries_sorted m))

  -- watches are as many as their rows
  as_many : table_len t ≡ length (watch_rows (fin.entries m))
  as_many =
      let most = length_most (keys_of (fin.entries t)) row_keys (watch_keys_differ (fin.entries t) (sorted_entries t))
      key_there in
      let least = length_most row_keys (keys_of (fin.entries t)) (keys_differ (watch_rows (fin.entries m)) watch_order)
      key_back in
      let a = keys_length (fin.entries t) in
      let c = sum-map part_len (fin.entries t) in
      let b = length-map (watch_rows (fin.entries m)) (λ (row : Row). row.0) in
      omega (arith, most, least, a, b, c)

  ends_forth : AreInTime (fin.entries m) → (observer name : List ℕ) (end : ℕ) → value_of t observer name ≡ Some end
      → end ≤ 18014398509481982
  ends_forth each observer name end e =
      let (v, row) = watch_there m observer name end e in
      let there = in_entries m (watch_front observer name) v row.there in
      let time = each (watch_front observer name, v) there (refl {a = true}) in
      leb-true end 18014398509481982 (ap is_in_time (sym row.read) ∙ time)

  ends_back : ((observer name : List ℕ) (end : ℕ) → value_of t observer name ≡ Some end → end ≤ 18014398509481982)
      → AreInTime (fin.entries m)
  ends_back low row h w =
      let of = tagged row.0 row.1 w (entry_get m row h) in
      ap is_in_time of.read ∙ le-leb of.end 18014398509481982 (low of.observer of.name of.end of.value)

  -- the rows tell whether the watches are lawful
  pub watches_decided : (most : ℕ) → most ≡ 8 * scale_modules scale
      → Decides (is_some (left_after_all (Some most) (fin.entries m))) (HasLawfulWatches (opened m scale))
  watches_decided most is = (
    λ e.
        let (each, few) = (rows_decided (fin.entries m) most).0 e in
        record { ends = ends_forth each; few = omega (arith, few, is, as_many) },
    λ law. (rows_decided (fin.entries m) most).1
        (ends_back law.ends, let few = law.few in omega (arith, few, is, as_many)),
  )
