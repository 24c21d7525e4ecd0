-- What the rows of a front weigh is what the values weigh that stand after it. Callers want `front_weighs`.
use Rattle.std.proofs.Common.{◌≡◌, ◌≢◌, ◌⊎◌, ℕ, ◌+◌, Bool, true, false, cond, List, [], ◌∷◌, ◌++◌, length, map}
use Rattle.std.proofs.Common.{Option, Some, None}
use Rattle.std.proofs.Common.{sym, ap, subst, ◌∙◌, refl, inl, inr, arith}
use Rattle.std.specs.FinMap as fin
use Rattle.std.specs.FinMap.{is_sorted}
use Rattle.std.specs.List.{sum_by}
use Rattle.std.specs.Option.{option_map}
use Rattle.std.specs.Ordering.{nat_cmp}
use Rattle.std.specs.Cmp.Lexicographic.{slice_cmp}
use Rattle.std.specs.Str.{bytes_eq}
use Rattle.std.proofs.lemmas.Bool.{and_parts}
use Rattle.std.proofs.lemmas.List.{append_cancel_left, drop_at}
use Rattle.std.proofs.lemmas.List.Sums.{sum_by-cons, sum-map}
use Rattle.std.proofs.lemmas.Slice.Eq.{bytes_eq-Decides}
use Rattle.apex_base.specs.Keys.{RowMap}
use Rattle.apex_base.specs.Members.{In, EachPair}
use Rattle.apex_base.specs.RowSums.{entry_weight}
use Rattle.apex_base.specs.Tables.{NameMap}
use Rattle.apex_base.proofs.MemberLemmas.{in_map, in_map_back, in_each}
use Rattle.apex_base.proofs.RowMaps.{below_in, sorted_entries, entry_get, in_entries}
use Rattle.apex_base.proofs.SumLemmas.{Matched, sum_most}
use Rattle.apex_world.specs.Data.{part_weight}
use Rattle.world_check.specs.DataRows.{Row, value_weight, weighed, with_some, weights_in}
use Rattle.row_key.specs.Data.{front_of}
use Rattle.world_check.specs.Runs.{weight_if, key_weight}
use Rattle.world_check.proofs.Differing.{entries_differ}
use Rattle.world_check.proofs.RowRuns.{Item, AllFull, weighed_as}

module _ (front : List ℕ) where
  -- what a row weighs, if it has this front
  abbrev item_weight : Option Item → ℕ
  item_weight None = 0
  item_weight (Some x) = weight_if bytes_eq front x

  abbrev row_weight : Row → ℕ
  row_weight row = item_weight (weighed row)

  step_sum : (o : Option Item) (xs : List Item)
      → key_weight bytes_eq front (with_some o xs) ≡ item_weight o + key_weight bytes_eq front xs
  step_sum None xs = omega arith
  step_sum (Some x) xs = sum_by-cons (weight_if bytes_eq front) x xs

  rows_sum : (rows : List Row) → key_weight bytes_eq front (weights_in rows) ≡ sum_by row_weight rows
  rows_sum [] = refl
  rows_sum (row ∷ rows) =
      let r = rows_sum rows in
      let a = step_sum (weighed row) (weights_in rows) in
      let b = sum_by-cons row_weight row rows in
      omega (arith, r, a, b)

  abbrev under : Row → Row
  under e = (front ++ e.0, e.1)

  under_differ : (es : List Row) → is_sorted (slice_cmp nat_cmp) es ≡ true
      → EachPair (λ (e f : Row). e.0 ≢ f.0) (map under es)
  under_differ [] s = tt
  under_differ (e ∷ es) s = (
    in_each (λ (f : Row). front ++ e.0 ≢ f.0) (map under es) (λ f h same.
        let (g, i, is) = in_map_back under f es h in
        below_in e.0 es g (and_parts _ _ s).0 i (append_cancel_left front e.0 g.0 (same
        ∙ sym (ap (λ (r : Row). r.0) is)))),
    under_differ es (and_parts _ _ s).1,
  )

  module _ (each : (b : List ℕ) → front_of (front ++ b) ≡ Some front) where
    under_weighs : (e : Row) → row_weight (under e) ≡ entry_weight e.0 e.1
    under_weighs e =
        ap item_weight (ap (λ (o : Option (List ℕ)). option_map (λ (f : List ℕ). (f, value_weight f (under e))) o)
        (each e.0))
        ∙ ap (λ (b : Bool). cond b (value_weight front (under e)) 0) ((bytes_eq-Decides front front).1 refl)
        ∙ ap (λ (k : List ℕ). entry_weight k e.1) (drop_at front e.0 (length front) refl)

    under_sum : (es : List Row) → sum_by row_weight (map under es) ≡ sum_by (λ (e : Row). entry_weight e.0 e.1) es
    under_sum [] = refl
    under_sum (e ∷ es) =
        let r = under_sum es in
        let a = sum_by-cons row_weight (under e) (map under es) in
        let b = sum_by-cons (λ (e : Row). entry_weight e.0 e.1) e es in
        let c = under_weighs e in
        omega (arith, r, a, b, c)

    module _ (m : RowMap) (p : NameMap (List ℕ)) (full : AllFull (fin.entries m))
        (same : (key : List ℕ) → fin.get p key ≡ fin.get m (front ++ key)) where
      matched_if : (b : Bool) (row : Row) (x : Item) → In row (fin.entries m) → weighed row ≡ Some x
          → bytes_eq front x.0 ≡ b
          → (weight_if bytes_eq front x ≡ 0) ⊎ In row (map under (fin.entries p))
      matched_if false row x h w e = inl (ap (λ (b : Bool). cond b x.1 0) e)
      matched_if true row x h w e =
          let one : front ≡ x.0 = (bytes_eq-Decides front x.0).0 e in
          let is = full row x.0 h (weighed_as row x w).0 in
          let begins : row.0 ≡ front ++ is.key = is.is ∙ ap (λ (f : List ℕ). f ++ is.key) (sym one) in
          let there = in_entries p is.key row.1 (same is.key ∙ ap (fin.get m) (sym begins) ∙ entry_get m row h) in
          inr (subst (λ (q : List ℕ). In (q, row.1) (map under (fin.entries p))) (sym begins)
          (in_map under (is.key, row.1) (fin.entries p) there))

      match_with : (row : Row) → (row_weight row ≡ 0) ⊎ In row (map under (fin.entries p))
          → Matched row_weight (λ (r : Row). r.0) row (map under (fin.entries p))
      match_with row (inl zero) = inl zero
      match_with row (inr h) = inr (row, h, refl, refl)

      matched_by : (o : Option Item) (row : Row) → In row (fin.entries m) → weighed row ≡ o
          → (item_weight o ≡ 0) ⊎ In row (map under (fin.entries p))
      matched_by None row h w = inl refl
      matched_by (Some x) row h w = matched_if (bytes_eq front x.0) row x h w refl

      pub front_weighs : key_weight bytes_eq front (weights_in (fin.entries m)) ≡ part_weight p
      front_weighs =
          let most = sum_most row_weight (λ (r : Row). r.0) (map under (fin.entries p)) (fin.entries m)
          (under_differ (fin.entries p) (sorted_entries p)) (λ x h.
          let (e, i, is) = in_map_back under x (fin.entries p) h in
          let there = in_entries m (front ++ e.0) e.1 (sym (same e.0) ∙ entry_get p e i) in
          inr (x, subst (λ (r : Row). In r (fin.entries m)) is there, refl, refl)) in
          let least = sum_most row_weight (λ (r : Row). r.0) (fin.entries m) (map under (fin.entries p))
          (entries_differ (fin.entries m) (sorted_entries m))
          (λ row h. match_with row (matched_by (weighed row) row h refl)) in
          let a = rows_sum (fin.entries m) in
          let b = under_sum (fin.entries p) in
          let c = sum-map (λ (e : Row). entry_weight e.0 e.1) (fin.entries p) in
          omega (arith, most, least, a, b, c)
