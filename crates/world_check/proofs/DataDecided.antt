-- The rows tell whether data is lawful: the weights of fronts, and how often each boot has one. Callers want
-- `too_heavy` and `few_data`.
use Rattle.std.proofs.Common.{◌≡◌, ◌≢◌, ◌⊎◌, ℕ, zero, suc, ◌+◌, ◌<◌, ◌≤◌, Bool, true, false, cond, eqb, leb, List, []}
use Rattle.std.proofs.Common.{◌∷◌, length, map}
use Rattle.std.proofs.Common.{sum, None, sym, ap, subst, ◌∙◌, refl, inl, inr, arith, Decides}
use Rattle.std.specs.FinMap as fin
use Rattle.std.specs.FinMap.{get-empty}
use Rattle.std.specs.List.{range_with_len}
use Rattle.std.specs.Ordering.{nat_cmp}
use Rattle.std.specs.Cmp.Lexicographic.{slice_cmp}
use Rattle.std.specs.Str.{bytes_eq}
use Rattle.std.proofs.lemmas.Bool.{true≢false, leb-true, le-leb, eqb-true, eq-eqb}
use Rattle.std.proofs.lemmas.Slice.Eq.{bytes_eq-Decides}
use Rattle.apex_base.specs.declared.numbers.Scale.{Scale}
use Rattle.apex_base.specs.declared.records.Record.{Record}
use Rattle.apex_base.specs.Keys.{RowMap}
use Rattle.apex_base.specs.Members.{In}
use Rattle.apex_base.specs.Numbers.{scale_modules, scale_data_weight}
use Rattle.apex_base.specs.RowSums.{entry_weight}
use Rattle.apex_base.specs.Sessions.{names}
use Rattle.apex_base.specs.Tables.{part_of, value_of}
use Rattle.apex_base.proofs.MemberLemmas.{in_map, in_map_back}
use Rattle.apex_base.proofs.RowMaps.{same_names, sorted_entries, entry_get}
use Rattle.apex_base.proofs.RowWeights.{no_entries}
use Rattle.apex_world.specs.Bounds.{HasLittleData}
use Rattle.apex_world.specs.Data.{part_weight, data_weight}
use Rattle.apex_world.specs.Opened.{opened, opened_boots, opened_sessions, opened_contents, opened_eras}
use Rattle.apex_world.specs.Rows.{has_snapshot}
use Rattle.apex_world.specs.World.{Contents}
use Rattle.row_check.specs.BadRows.{opened_rows}
use Rattle.row_check.specs.KeptRows.{counting}
use Rattle.row_check.proofs.EraValues.{opened_at}
use Rattle.session_check.specs.LawfulSessions.{AreLawfulSessions}
use Rattle.world_check.specs.DataRows.{weights_in, boots_in, counted, same_boot}
use Rattle.world_check.specs.LawfulParts.{HasLawfulData}
use Rattle.world_check.specs.Runs.{are_light, key_weight}
use Rattle.world_check.proofs.BootNames.{all_full, fronts, fronts_at, count_length, contents_count, era_count}
use Rattle.world_check.proofs.BootNames.{later_none}
use Rattle.world_check.proofs.EraRows.{tag_of, tag_if, data_is, era_is, era_none, counted_back, IsDataFront}
use Rattle.world_check.proofs.EraRows.{IsSessionFront, front_kind}
use Rattle.world_check.proofs.FrontForms.{data_name, kept_name, data_front_of, kept_front_of}
use Rattle.world_check.proofs.FrontWeights.{front_weighs}
use Rattle.world_check.proofs.RowRuns.{Item, weighed_as, weight_back, rows_together, rows_begin}
use Rattle.world_check.proofs.RunSums.{weight_some, light_forth, light_back}

nothing : (b : Bool) → ◌≡◌ {A = ℕ} (cond b 0 0) 0
nothing true = refl
nothing false = refl

-- Boots in order

range_back : (a n x : ℕ) → In x (range_with_len a n) → (a ≤ x) × (x < a + n)
range_back a zero x h = absurd h
range_back a (suc n) x (inl e) = (omega (arith, e), omega (arith, e))
range_back a (suc n) x (inr h) = let (l, r) = range_back (a + 1) n x h in (omega (arith, l), omega (arith, r))

there_if : (b : Bool) (a n x : ℕ) → eqb a x ≡ b → (a ≢ x → In x (range_with_len (a + 1) n))
    → In x (range_with_len a (suc n))
there_if true a n x e more = inl (eqb-true a x e)
there_if false a n x e more = inr (more (λ same. true≢false (sym (eq-eqb a x same) ∙ e)))

range_there : (a n x : ℕ) → a ≤ x → x < a + n → In x (range_with_len a n)
range_there a zero x l r = absurd (omega (arith, l, r))
range_there a (suc n) x l r =
    there_if (eqb a x) a n x refl (λ d. range_there (a + 1) n x (omega (arith, l, d)) (omega (arith, r)))

-- A name that has no value has no weight

no_weight : (t : Contents) (name : List ℕ) → ((key : List ℕ) → value_of t name key ≡ None) → data_weight t name ≡ 0
no_weight t name none =
    let empty : part_of t name ≡ fin.empty =
    same_names (part_of t name) fin.empty (λ key. none key ∙ sym (get-empty {X = List ℕ} (slice_cmp nat_cmp) key)) in
    ap part_weight empty
    ∙ ap (λ (es : List (List ℕ × List ℕ)). sum (map (λ (e : List ℕ × List ℕ). entry_weight e.0 e.1) es)) no_entries

module _ (m : RowMap) (scale : Scale) (right : opened_rows m scale ≡ m)
    (lawful : AreLawfulSessions (opened_boots m).0 (opened_sessions m)) where
  abbrev ss : List Record
  ss = opened_sessions m

  abbrev n : ℕ
  n = (opened_boots m).0

  abbrev weights : List Item
  weights = weights_in (fin.entries m)

  -- Weights

  abbrev EachIsLight : Type 0
  EachIsLight = (q : List ℕ) → key_weight bytes_eq q weights ≤ scale_data_weight scale

  light_each : are_light bytes_eq (scale_data_weight scale) [] 0 weights ≡ true → EachIsLight
  light_each e q =
      let l = light_forth bytes_eq bytes_eq-Decides (scale_data_weight scale) [] 0 weights
      (rows_begin (fin.entries m) (all_full m scale right))
      (rows_together (fin.entries m) (sorted_entries m) (all_full m scale right)) (omega arith) e q in
      omega (arith, l)

  light_all : EachIsLight → are_light bytes_eq (scale_data_weight scale) [] 0 weights ≡ true
  light_all each =
      light_back bytes_eq bytes_eq-Decides (scale_data_weight scale) [] 0 weights
      (rows_begin (fin.entries m) (all_full m scale right))
      (rows_together (fin.entries m) (sorted_entries m) (all_full m scale right))
      (λ q. let l = each q in let z = nothing (bytes_eq q []) in omega (arith, l, z))

  contents_weigh : (name : List ℕ) → key_weight bytes_eq (data_name name) weights ≡ data_weight (opened_contents m) name
  contents_weigh name =
      front_weighs (data_name name) (data_front_of name) m (part_of (opened_contents m) name) (all_full m scale right)
      (data_is m scale right name)

  era_weighs : (r : Record) (name : List ℕ) → In r ss → names name r ≡ true → r.activation ≢ 0
      → key_weight bytes_eq (kept_name (tag_of ss r) r.id name) weights
      ≡ data_weight (opened_at m ss r.activation) name
  era_weighs r name member named some =
      front_weighs (kept_name (tag_of ss r) r.id name)
      (λ key. kept_front_of (tag_of ss r) r.id name key (tag_if (has_snapshot ss r))) m
      (part_of (opened_at m ss r.activation) name) (all_full m scale right)
      (λ key. era_is m scale right lawful r name key member named some)

  era_by : (b : ℕ) (name : List ℕ) (rs : List Record) → b ≢ 0 → EachIsLight → counting ss b name ≡ rs
      → data_weight (opened_at m ss b) name ≤ scale_data_weight scale
  era_by b name [] some each is =
      let z = no_weight (opened_at m ss b) name (λ key. era_none m scale right lawful b name key is) in
      omega (arith, z)
  era_by b name (r ∷ rs) some each is =
      let (member, act, named) = counted_back m scale right lawful b name r
      (subst (λ (rs : List Record). In r rs) (sym is) (inl refl)) in
      let weighs = era_weighs r name member named (λ z. some (sym act ∙ z)) in
      let low = each (kept_name (tag_of ss r) r.id name) in
      let at_b : data_weight (opened_at m ss r.activation) name ≡ data_weight (opened_at m ss b) name =
      ap (λ (a : ℕ). data_weight (opened_at m ss a) name) act in
      omega (arith, weighs, low, at_b)

  -- Eras

  eras_back : (c : Contents) → In c (opened_eras m ss n) → (b : ℕ) × (b ≢ 0) × (b ≤ n) × (opened_at m ss b ≡ c)
  eras_back c h =
      let (b, i, is) = in_map_back (opened_at m ss) c (range_with_len 1 n) h in
      let (l, r) = range_back 1 n b i in
      (b, λ z. omega (arith, l, z), omega (arith, r), is)

  eras_there : (b : ℕ) → b ≢ 0 → b ≤ n → In (opened_at m ss b) (opened_eras m ss n)
  eras_there b some l =
      in_map (opened_at m ss) b (range_with_len 1 n) (range_there 1 n b (omega (arith, some)) (omega (arith, l)))

  abbrev Law : Type 0
  Law = HasLawfulData (opened m scale)

  each_by : (q : List ℕ) (y : Item) → y.0 ≡ q → Law
      → IsDataFront m scale right lawful y.0 ⊎ IsSessionFront m scale right lawful y.0
      → key_weight bytes_eq q weights ≤ scale_data_weight scale
  each_by q y e law (inl d) =
      let weighs = contents_weigh d.name in
      let low = law.contents.weight d.name in
      let same : key_weight bytes_eq q weights ≡ key_weight bytes_eq (data_name d.name) weights =
      ap (λ (f : List ℕ). key_weight bytes_eq f weights) (sym e ∙ d.is) in
      omega (arith, weighs, low, same)
  each_by q y e law (inr s) =
      let weighs = era_weighs s.session s.name s.member s.named s.some in
      let little = law.eras (opened_at m ss s.session.activation) (eras_there s.session.activation s.some s.most) in
      let low = little.weight s.name in
      let same : key_weight bytes_eq q weights
      ≡ key_weight bytes_eq (kept_name (tag_of ss s.session) s.session.id s.name) weights =
      ap (λ (f : List ℕ). key_weight bytes_eq f weights) (sym e ∙ s.is) in
      omega (arith, weighs, low, same)

  law_light : Law → EachIsLight
  law_light law q =
      elim (weight_some bytes_eq bytes_eq-Decides q weights) [
        | inl none ↦ omega (arith, none)
        | inr some ↦
            let (y, h, e) = some in
            let (row, i, w) = weight_back y (fin.entries m) h in
            each_by q y e law
            (front_kind m scale right lawful row.0 row.1 y.0 (entry_get m row i) (weighed_as row y w).0)
      ]

  -- Names

  abbrev EachIsFew : Type 0
  EachIsFew = (b : ℕ) → key_weight same_boot b (counted (boots_in ss (fin.entries m))) ≤ scale_modules scale

  count_at : (b : ℕ) → key_weight same_boot b (counted (boots_in ss (fin.entries m)))
      ≡ length (fronts_at m scale right lawful b)
  count_at b = count_length ss b (fronts m scale right)

  law_forth : EachIsLight → EachIsFew → Law
  law_forth light few = record {
    contents = record {
      names = let l = few 0 in let c = count_at 0 in
          omega (arith, l, c, contents_count m scale right lawful);
      weight = λ name. let l = light (data_name name) in omega (arith, l, contents_weigh name);
    };
    eras = λ c h.
        let (b, some, most, is) = eras_back c h in
        subst (HasLittleData scale) is (record {
          names = let l = few b in let k = count_at b in
              omega (arith, l, k, era_count m scale right lawful b some);
          weight = λ name. era_by b name (counting ss b name) some light refl;
        });
  }

  few_if : (z l : Bool) (b : ℕ) → eqb b 0 ≡ z → leb b n ≡ l → Law
      → length (fronts_at m scale right lawful b) ≤ scale_modules scale
  few_if true l b e f law =
      let zero = eqb-true b 0 e in
      let c = contents_count m scale right lawful in
      let names = law.contents.names in
      let same : length (fronts_at m scale right lawful b) ≡ length (fronts_at m scale right lawful 0) =
      ap (λ (a : ℕ). length (fronts_at m scale right lawful a)) zero in
      omega (arith, c, names, same)
  few_if false true b e f law =
      let some : b ≢ 0 = λ z. true≢false (sym (eq-eqb b 0 z) ∙ e) in
      let little = law.eras (opened_at m ss b) (eras_there b some (leb-true b n f)) in
      let names = little.names in
      omega (arith, names, era_count m scale right lawful b some)
  few_if false false b e f law =
      let some : b ≢ 0 = λ z. true≢false (sym (eq-eqb b 0 z) ∙ e) in
      let none = later_none m scale right lawful b some (λ l. true≢false (sym (le-leb b n l) ∙ f)) in
      omega (arith, none)

  law_few : Law → EachIsFew
  law_few law b =
      let c = count_at b in
      let l = few_if (eqb b 0) (leb b n) b refl refl law in
      omega (arith, c, l)

  -- data that weighs too much isn't lawful
  pub too_heavy : are_light bytes_eq (scale_data_weight scale) [] 0 weights ≡ false → Decides false Law
  too_heavy e = (
    λ f. absurd (true≢false (sym f)),
    λ law. absurd (true≢false (sym (light_all (law_light law)) ∙ e)),
  )

  -- and else it is if and only if it is of few names
  pub few_data : (few : Bool) → are_light bytes_eq (scale_data_weight scale) [] 0 weights ≡ true
      → Decides few EachIsFew → Decides few Law
  few_data few e d = (λ f. law_forth (light_each e) (d.0 f), λ law. d.1 (law_few law))
