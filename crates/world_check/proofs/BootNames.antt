-- As many names have data just before a boot, or now, as there are fronts of that boot. Callers want `contents_count`,
-- `era_count` and `count_length`.
use Rattle.std.proofs.Common.{◌≡◌, ◌≢◌, ◌⊎◌, ℕ, ◌+◌, ◌≤◌, Bool, true, false, cond, eqb, List, [], ◌∷◌, ◌++◌, length}
use Rattle.std.proofs.Common.{map, filter, flat_map}
use Rattle.std.proofs.Common.{drop, Option, Some, None, sym, ap, subst, ◌∙◌, refl, inl, inr, arith}
use Rattle.std.specs.Prelude.{fold, IfSome}
use Rattle.std.specs.FinMap as fin
use Rattle.std.specs.FinMap.{get-empty, get-insert, get-remove, len-entries}
use Rattle.std.specs.Option.{option_map}
use Rattle.std.specs.Ordering.{nat_cmp, eq_by_cmp}
use Rattle.std.specs.Cmp.Lexicographic.{slice_cmp, nat_list_cmp_total}
use Rattle.std.specs.Str.{bytes_eq}
use Rattle.std.proofs.lemmas.Bool.{true≢false, eqb-true, eq-eqb}
use Rattle.std.proofs.lemmas.List.{length-map}
use Rattle.std.proofs.lemmas.List.Sums.{sum_by-cons}
use Rattle.std.proofs.lemmas.Slice.Eq.{bytes_eq-Decides}
use Rattle.apex_base.specs.declared.numbers.Scale.{Scale}
use Rattle.apex_base.specs.declared.numbers.SessionId.{SessionId}
use Rattle.apex_base.specs.declared.records.Record.{Record}
use Rattle.apex_base.specs.Keys.{RowMap, data_front}
use Rattle.apex_base.specs.Members.{In, EachPair}
use Rattle.apex_base.specs.Sessions.{names}
use Rattle.apex_base.specs.Tables.{NameMap, Table, or_empty, with_part, value_of}
use Rattle.apex_base.proofs.Finding.{filtered}
use Rattle.apex_base.proofs.MemberLemmas.{in_map, in_map_back, in_filter}
use Rattle.apex_base.proofs.RowMaps.{sorted_entries, entry_get, in_entries, in_keys}
use Rattle.apex_base.proofs.SessionLemmas.{of_in}
use Rattle.apex_base.proofs.SumLemmas.{length_most}
use Rattle.apex_base.proofs.TableLemmas.{some_value}
use Rattle.apex_world.specs.Opened.{opened_boots, opened_sessions, opened_contents, values_in, names_in, activated_at}
use Rattle.apex_world.specs.Opened.{kept_of, named_in}
use Rattle.apex_world.specs.Rows.{has_snapshot}
use Rattle.world_facts.proofs.facts.WorldRows.{in_part}
use Rattle.row_check.specs.BadRows.{opened_rows}
use Rattle.row_check.specs.KeptRows.{counting}
use Rattle.row_key.specs.Kept.{IsKeptTag}
use Rattle.row_check.proofs.EraValues.{opened_at}
use Rattle.row_check.proofs.OpenedRecords.{session_id}
use Rattle.session_check.specs.LawfulSessions.{AreLawfulSessions}
use Rattle.world_check.specs.DataRows.{Row, value_weight, weighed, weights_in, boot_of, counted, same_boot}
use Rattle.row_key.specs.Data.{front_of}
use Rattle.world_check.specs.Runs.{weight_if, key_weight, run_keys}
use Rattle.world_check.proofs.Differing.{keys_differ, mapped_differ, filter_differ}
use Rattle.world_check.proofs.EraRows.{tag_of, tag_if, boot_kept, data_is, era_is, era_none, one_session}
use Rattle.world_check.proofs.EraRows.{counted_back, IsDataFront}
use Rattle.world_check.proofs.EraRows.{IsSessionFront, front_kind, session_boot}
use Rattle.world_check.proofs.FrontForms.{data_name, kept_name, data_front_of, kept_front_of, fronted, full_front}
use Rattle.world_check.proofs.RowRuns.{AllFull, weighed_as, weight_back, weight_there, rows_together, rows_begin}
use Rattle.world_check.proofs.RowRuns.{no_empty_front}
use Rattle.world_check.proofs.RunSums.{run_key_back, run_key_there, run_keys_apart}

-- Tables are made of parts that have something

module _ {X : Type 0} (f : List ℕ → NameMap X) where
  abbrev HasParts : Table X → Type 0
  HasParts t = (a : List ℕ) → IfSome (fin.get t a) (λ p. fin.len p ≢ 0)

  abbrev put : Table X → List ℕ → Table X
  put t name = with_part t name (f name)

  some_or : (b : Bool) (o p : Option (NameMap X)) → IfSome o (λ p. fin.len p ≢ 0) → IfSome p (λ p. fin.len p ≢ 0)
      → IfSome (cond b o p) (λ p. fin.len p ≢ 0)
  some_or true o p h k = h
  some_or false o p h k = k

  put_if : (b : Bool) (t : Table X) (name a : List ℕ) → eqb (fin.len (f name)) 0 ≡ b → HasParts t
      → IfSome (fin.get (cond b (fin.remove t name) (fin.insert t name (f name))) a) (λ p. fin.len p ≢ 0)
  put_if true t name a e h =
      subst (λ (o : Option (NameMap X)). IfSome o (λ p. fin.len p ≢ 0)) (sym (get-remove nat_list_cmp_total t name a))
      (some_or (eq_by_cmp (slice_cmp nat_cmp) a name) None (fin.get t a) tt (h a))
  put_if false t name a e h =
      subst (λ (o : Option (NameMap X)). IfSome o (λ p. fin.len p ≢ 0))
      (sym (get-insert nat_list_cmp_total t name (f name) a))
      (some_or (eq_by_cmp (slice_cmp nat_cmp) a name) (Some (f name)) (fin.get t a)
      (λ z. true≢false (sym (eq-eqb (fin.len (f name)) 0 z) ∙ e)) (h a))

  fold_parts : (names : List (List ℕ)) (t : Table X) → HasParts t → HasParts (fold put t names)
  fold_parts [] t h = h
  fold_parts (name ∷ names) t h =
      fold_parts names (put t name) (λ a. put_if (eqb (fin.len (f name)) 0) t name a refl h)

  no_parts : HasParts fin.empty
  no_parts a = subst (λ (o : Option (NameMap X)). IfSome o (λ p. fin.len p ≢ 0))
      (sym (get-empty {X = NameMap X} (slice_cmp nat_cmp) a)) tt

  made_parts : (names : List (List ℕ)) → HasParts (fold put fin.empty names)
  made_parts names = fold_parts names fin.empty no_parts

-- A table has as many names as a list of fronts that has one for each

-- the fronts of the names that a table has
pub record AreFrontsOf {X : Type 0} (t : Table X) (name_of : List ℕ → List ℕ) (fs : List (List ℕ)) : Type 0 where
  pub differ : EachPair (λ (a b : List ℕ). a ≢ b) fs
  pub one : (a b : List ℕ) → In a fs → In b fs → name_of a ≡ name_of b → a ≡ b
  pub there : (f : List ℕ) → In f fs → In (name_of f) (fin.keys t)
  pub back : (name : List ℕ) → In name (fin.keys t) → (f : List ℕ) × In f fs × (name_of f ≡ name)

as_many : {X : Type 0} (t : Table X) (name_of : List ℕ → List ℕ) (fs : List (List ℕ)) → AreFrontsOf t name_of fs
    → fin.len t ≡ length fs
as_many {X} t name_of fs are =
    let least = length_most (map name_of fs) (fin.keys t) (mapped_differ name_of fs are.differ are.one) (λ name h.
    let (f, i, is) = in_map_back name_of name fs h in
    subst (λ (name : List ℕ). In name (fin.keys t)) is (are.there f i)) in
    let most = length_most (fin.keys t) (map name_of fs) (keys_differ (fin.entries t) (sorted_entries t)) (λ name h.
    let (f, i, is) = are.back name h in
    subst (λ (name : List ℕ). In name (map name_of fs)) is (in_map name_of f fs i)) in
    let a = length-map fs name_of in
    let b = length-map (fin.entries t) (λ (e : List ℕ × NameMap X). e.0) in
    let c = len-entries t in
    omega (arith, least, most, a, b, c)

-- Fronts of a boot

abbrev of_boot : List Record → ℕ → List ℕ → Bool
of_boot sessions b f = same_boot b (boot_of sessions f)

count_step : (c : Bool) (f : List ℕ) (fs : List (List ℕ)) (k : ℕ) → k ≡ length fs
    → cond c 1 0 + k ≡ length (cond c (f ∷ fs) fs)
count_step true f fs k e = let l : length (f ∷ fs) ≡ 1 + length fs = omega arith in omega (arith, e, l)
count_step false f fs k e = omega (arith, e)

-- a boot counts as often as there are fronts of it
pub count_length : (sessions : List Record) (b : ℕ) (fs : List (List ℕ))
    → key_weight same_boot b (counted (map (boot_of sessions) fs)) ≡ length (filter (of_boot sessions b) fs)
count_length sessions b [] = refl
count_length sessions b (f ∷ fs) =
    let a = sum_by-cons (weight_if same_boot b) (boot_of sessions f, 1) (counted (map (boot_of sessions) fs)) in
    let c = count_step (of_boot sessions b f) f (filter (of_boot sessions b) fs) _ (count_length sessions b fs) in
    omega (arith, a, c)

-- the name at the end of a front
unfoldable name_of : List ℕ → List ℕ
name_of [] = []
name_of (tag ∷ rest) = cond (eqb tag 6) (drop 1 rest) (drop 5 rest)

data_named : (name : List ℕ) → name_of (data_name name) ≡ name
unfolding name_of
data_named name = refl

kept_named : (tag : ℕ) (id : SessionId) (name : List ℕ) → IsKeptTag tag → name_of (kept_name tag id name) ≡ name
unfolding name_of
kept_named tag id name (inl seven) = subst (λ (t : ℕ). name_of (kept_name t id name) ≡ name) (sym seven) refl
kept_named tag id name (inr eight) = subst (λ (t : ℕ). name_of (kept_name t id name) ≡ name) (sym eight) refl

none : (fs : List (List ℕ)) → ((f : List ℕ) → In f fs → ⊥) → length fs ≡ 0
none [] d = refl
none (f ∷ fs) d = absurd (d f (inl refl))

module _ (m : RowMap) (scale : Scale) (right : opened_rows m scale ≡ m) where
  abbrev pub rows : List Row
  rows = fin.entries m

  pub all_full : AllFull rows
  all_full row front h e =
      full_front m row.0 row.1 front (fronted m scale right row.0 row.1 front (entry_get m row h) e)

  abbrev pub fronts : List (List ℕ)
  fronts = run_keys bytes_eq [] (weights_in rows)

  fronts_differ : EachPair (λ (a b : List ℕ). a ≢ b) fronts
  fronts_differ = (run_keys_apart bytes_eq bytes_eq-Decides [] (weights_in rows) (rows_begin rows all_full)
      (rows_together rows (sorted_entries m) all_full)).0

  -- a front is that of a row
  pub front_back : (f : List ℕ) → In f fronts → (row : Row) × (fin.get m row.0 ≡ Some row.1) × (front_of row.0 ≡ Some f)
  front_back f h =
      let (y, i, is) = run_key_back bytes_eq bytes_eq-Decides [] f (weights_in rows) h in
      let (row, j, w) = weight_back y rows i in
      (row, entry_get m row j, (weighed_as row y w).0 ∙ ap (λ (g : List ℕ). Some g) is)

  -- and that of each row is there
  pub front_there : (f key v : List ℕ) → front_of (f ++ key) ≡ Some f → fin.get m (f ++ key) ≡ Some v → In f fronts
  front_there f key v e g =
      let row : Row = (f ++ key, v) in
      let w : weighed row ≡ Some (f, value_weight f row) =
      ap (λ (o : Option (List ℕ)). option_map (λ (front : List ℕ). (front, value_weight front row)) o) e in
      let i = weight_there (f, value_weight f row) row rows (in_entries m (f ++ key) v g) w in
      elim (run_key_there bytes_eq bytes_eq-Decides [] (f, value_weight f row) (weights_in rows) i) [
        | inl none ↦ absurd (no_empty_front rows all_full (f, value_weight f row) i (sym none))
        | inr h ↦ h
      ]

  -- a table that is made of parts has a value under each name
  value_there : (t : Table (List ℕ)) → ((a : List ℕ) → IfSome (fin.get t a) (λ p. fin.len p ≢ 0)) → (name : List ℕ)
      → In name (fin.keys t) → (key : List ℕ) × (v : List ℕ) × (value_of t name key ≡ Some v)
  value_there t parts name h =
      let (e, i, is) = in_map_back (λ (e : List ℕ × NameMap (List ℕ)). e.0) name (fin.entries t) h in
      let here : fin.get t e.0 ≡ Some e.1 = entry_get t e i in
      let some = subst (λ (o : Option (NameMap (List ℕ))). IfSome o (λ p. fin.len p ≢ 0)) here (parts e.0) in
      let (key, v, f) = some_value e.1 some in (
        key,
        v,
        ap (λ (a : List ℕ). value_of t a key) (sym is)
            ∙ ap (λ (o : Option (NameMap (List ℕ))). fin.get (or_empty o) key) here ∙ f,
      )

  key_of_value : (t : Table (List ℕ)) (name key v : List ℕ) → value_of t name key ≡ Some v → In name (fin.keys t)
  key_of_value t name key v e = let (p, f, g) = in_part t name key v e in in_keys t name p f

  abbrev ss : List Record
  ss = opened_sessions m

  module _ (lawful : AreLawfulSessions (opened_boots m).0 ss) where
    abbrev DataFront : List ℕ → Type 0
    DataFront f = IsDataFront m scale right lawful f

    abbrev SessionFront : List ℕ → Type 0
    SessionFront f = IsSessionFront m scale right lawful f

    pub kind : (f : List ℕ) → In f fronts → DataFront f ⊎ SessionFront f
    kind f h = let (row, e, g) = front_back f h in front_kind m scale right lawful row.0 row.1 f e g

    abbrev pub fronts_at : ℕ → List (List ℕ)
    fronts_at b = filter (of_boot ss b) fronts

    in_boot : (b : ℕ) (f : List ℕ) → In f (fronts_at b) → In f fronts × (boot_of ss f ≡ b)
    in_boot b f h = let (i, e) = in_filter (of_boot ss b) f fronts h in (i, sym (eqb-true b (boot_of ss f) e))

    there_at : (b : ℕ) (f : List ℕ) → In f fronts → boot_of ss f ≡ b → In f (fronts_at b)
    there_at b f h e = filtered (of_boot ss b) f fronts h (eq-eqb b (boot_of ss f) (sym e))

    differ_at : (b : ℕ) → EachPair (λ (f g : List ℕ). f ≢ g) (fronts_at b)
    differ_at b = filter_differ (of_boot ss b) fronts fronts_differ

    data_boot : (f : List ℕ) → DataFront f → boot_of ss f ≡ 0
    data_boot f d = ap (boot_of ss) d.is

    -- What names have now

    data_at : (f : List ℕ) → In f (fronts_at 0) → DataFront f
    data_at f h =
        let (i, e) = in_boot 0 f h in
        elim (kind f i) [
          | inl d ↦ d
          | inr s ↦ absurd (s.some (sym (session_boot m scale right lawful f s) ∙ e))
        ]

    data_name_of : (f : List ℕ) (d : DataFront f) → name_of f ≡ d.name
    data_name_of f d = ap name_of d.is ∙ data_named d.name

    contents_parts : (a : List ℕ) → IfSome (fin.get (opened_contents m) a) (λ p. fin.len p ≢ 0)
    contents_parts = made_parts (λ name. values_in m (data_front name)) (names_in m)

    contents_fronts : AreFrontsOf (opened_contents m) name_of (fronts_at 0)
    contents_fronts = record {
      differ = differ_at 0;
      one = λ a b h i e.
          let d = data_at a h in
          let g = data_at b i in
          d.is ∙ ap data_name (sym (data_name_of a d) ∙ e ∙ data_name_of b g) ∙ sym g.is;
      there = λ f h.
          let d = data_at f h in
          let value = data_is m scale right d.name d.key
          ∙ ap (λ (g : List ℕ). fin.get m (g ++ d.key)) (sym d.is) ∙ d.there in
          subst (λ (name : List ℕ). In name (fin.keys (opened_contents m))) (sym (data_name_of f d))
          (key_of_value (opened_contents m) d.name d.key d.value value);
      back = λ name h.
          let (key, v, e) = value_there (opened_contents m) contents_parts name h in
          let here = front_there (data_name name) key v (data_front_of name key)
          (sym (data_is m scale right name key) ∙ e) in
          (data_name name, there_at 0 (data_name name) here refl, data_named name);
    }

    pub contents_count : fin.len (opened_contents m) ≡ length (fronts_at 0)
    contents_count = as_many (opened_contents m) name_of (fronts_at 0) contents_fronts

    -- What names had just before a boot

    pub session_at : (b : ℕ) (f : List ℕ) → b ≢ 0 → In f (fronts_at b)
        → (s : SessionFront f) × (s.session.activation ≡ b)
    session_at b f some h =
        let (i, e) = in_boot b f h in
        elim (kind f i) [
          | inl d ↦ absurd (some (sym e ∙ data_boot f d))
          | inr s ↦ (s, sym (session_boot m scale right lawful f s) ∙ e)
        ]

    session_name_of : (f : List ℕ) (s : SessionFront f) → name_of f ≡ s.name
    session_name_of f s = ap name_of s.is
        ∙ kept_named (tag_of ss s.session) s.session.id s.name (tag_if (has_snapshot ss s.session))

    one_front : (b : ℕ) (f g : List ℕ) (s : SessionFront f) (t : SessionFront g) → s.session.activation ≡ b
        → t.session.activation ≡ b → s.name ≡ t.name → f ≡ g
    one_front b f g s t e d name =
        let same : t.session ≡ s.session = one_session m scale right lawful s.session t.session s.name s.member
        t.member s.named (ap (λ (a : List ℕ). names a t.session) name ∙ t.named) s.some (d ∙ sym e) in
        s.is ∙ ap (λ (r : Record). kept_name (tag_of ss r) r.id s.name) (sym same)
        ∙ ap (kept_name (tag_of ss t.session) t.session.id) name ∙ sym t.is

    era_parts : (b : ℕ) (a : List ℕ) → IfSome (fin.get (opened_at m ss b) a) (λ p. fin.len p ≢ 0)
    era_parts b = made_parts (λ name. kept_of m (named_in name (activated_at b ss)) name)
        (flat_map (λ r. map (λ p. p.name) r.parts) (activated_at b ss))

    back_by : (b : ℕ) (name key v : List ℕ) (rs : List Record) → b ≢ 0
        → value_of (opened_at m ss b) name key ≡ Some v → counting ss b name ≡ rs
        → (f : List ℕ) × In f (fronts_at b) × (name_of f ≡ name)
    back_by b name key v [] some e none = absurd (cc (sym e ∙ era_none m scale right lawful b name key none))
    back_by b name key v (r ∷ rs) some e is =
        let (member, act, named) = counted_back m scale right lawful b name r
        (subst (λ (rs : List Record). In r rs) (sym is) (inl refl)) in
        let tag = tag_of ss r in
        let front = kept_name tag r.id name in
        let kept = tag_if (has_snapshot ss r) in
        let value = era_is m scale right lawful r name key member named (λ z. some (sym act ∙ z)) in
        let row : fin.get m (front ++ key) ≡ Some v =
        sym value ∙ ap (λ (b : ℕ). value_of (opened_at m ss b) name key) act ∙ e in
        let here = front_there front key v (kept_front_of tag r.id name key kept) row in
        let boot = boot_kept ss tag r.id name r kept (session_id m r member) (of_in ss r lawful.ids.ascend member) in
        (front, there_at b front here (boot ∙ act), kept_named tag r.id name kept)

    era_fronts : (b : ℕ) → b ≢ 0 → AreFrontsOf (opened_at m ss b) name_of (fronts_at b)
    era_fronts b some = record {
      differ = differ_at b;
      one = λ f g h i e.
          let (s, d) = session_at b f some h in
          let (t, c) = session_at b g some i in
          one_front b f g s t d c (sym (session_name_of f s) ∙ e ∙ session_name_of g t);
      there = λ f h.
          let (s, d) = session_at b f some h in
          let value = era_is m scale right lawful s.session s.name s.key s.member s.named s.some
          ∙ ap (λ (g : List ℕ). fin.get m (g ++ s.key)) (sym s.is) ∙ s.there in
          let at_b = subst (λ (a : ℕ). value_of (opened_at m ss a) s.name s.key ≡ Some s.value) d value in
          subst (λ (name : List ℕ). In name (fin.keys (opened_at m ss b))) (sym (session_name_of f s))
          (key_of_value (opened_at m ss b) s.name s.key s.value at_b);
      back = λ name h.
          let (key, v, e) = value_there (opened_at m ss b) (era_parts b) name h in
          back_by b name key v (counting ss b name) some e refl;
    }

    pub era_count : (b : ℕ) → b ≢ 0 → fin.len (opened_at m ss b) ≡ length (fronts_at b)
    era_count b some = as_many (opened_at m ss b) name_of (fronts_at b) (era_fronts b some)

    -- no session was activated by a later boot
    pub later_none : (b : ℕ) → b ≢ 0 → (b ≤ (opened_boots m).0 → ⊥) → length (fronts_at b) ≡ 0
    later_none b some late = none (fronts_at b) (λ f h.
        let (s, d) = session_at b f some h in
        let l = s.most in
        late (omega (arith, l, d)))
