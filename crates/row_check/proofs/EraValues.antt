-- What a name had before a boot, in the world that rows open to: the value of the first row of the sessions that count.
-- Callers want `era_has`.
use Rattle.std.proofs.Common.{◌≡◌, ◌≢◌, ℕ, ◌-◌, Bool, true, false, cond, eqb, ◌&&◌, not, List, [], ◌∷◌, ◌++◌}
use Rattle.std.proofs.Common.{length, map, flat_map, drop, Option, Some, None, sym, ap, subst, ◌∙◌, refl, inl, arith}
use Rattle.std.specs.Prelude.{get_or, nat_le}
use Rattle.std.specs.Option.{option_or}
use Rattle.std.specs.Ordering.{nat_cmp, eq_by_cmp}
use Rattle.std.specs.Cmp.Lexicographic.{slice_cmp, nat_list_cmp_total}
use Rattle.std.specs.Str.{bytes_eq}
use Rattle.std.specs.FinMap as fin
use Rattle.std.specs.FinMap.{get-empty, get-entries, get-from_entries, len-empty}
use Rattle.std.proofs.lemmas.Bool.Decides.{nat_tests}
use Rattle.std.proofs.lemmas.List.{append-nil, drop_at, get_or_past}
use Rattle.std.proofs.lemmas.List.FromFn.{get_or-map-range_with_len, length-map-range_with_len}
use Rattle.apex_base.specs.declared.numbers.SessionId.{SessionId}
use Rattle.apex_base.specs.declared.records.Part.{Part}
use Rattle.apex_base.specs.declared.records.Record.{Record}
use Rattle.apex_base.specs.Keys.{RowMap, id_text}
use Rattle.apex_base.specs.Members.{In}
use Rattle.apex_base.specs.Reading.{short_text}
use Rattle.apex_base.specs.Sessions.{names}
use Rattle.apex_base.specs.Tables.{NameMap, or_empty, value_of}
use Rattle.apex_base.specs.Text.{is_name}
use Rattle.apex_base.proofs.MemberLemmas.{in_map, in_flat_map, in_filter, any_in}
use Rattle.apex_base.proofs.TableLemmas.{folded, part_whole}
use Rattle.apex_world.specs.Opened.{values_in, activated_at, kept_of, era_of, opened_eras}
use Rattle.apex_world.specs.World.{Contents, era}
use Rattle.world_facts.proofs.facts.OpenedTables.{front_value}
use Rattle.world_facts.proofs.facts.WorldRows.{same_name}
use Rattle.row_check.specs.KeptRows.{counting, first_kept, kept_by, era_value}
use Rattle.row_key.specs.Kept.{kept_text}

abbrev Entry : Type 0
Entry = List ℕ × List ℕ

-- The first of many

or_if : (b : Bool) (v : List ℕ) (o p : Option (List ℕ))
    → cond b (Some v) (option_or o p) ≡ option_or (cond b (Some v) o) p
or_if true v o p = refl
or_if false v o p = refl

find_append : (q : List ℕ) (es fs : List Entry) → fin.find (slice_cmp nat_cmp) q (es ++ fs)
    ≡ option_or (fin.find (slice_cmp nat_cmp) q es) (fin.find (slice_cmp nat_cmp) q fs)
find_append q [] fs = refl
find_append q (e ∷ es) fs =
    ap (λ (o : Option (List ℕ)). cond (eq_by_cmp (slice_cmp nat_cmp) q e.0) (Some e.1) o) (find_append q es fs)
    ∙ or_if (eq_by_cmp (slice_cmp nat_cmp) q e.0) e.1 (fin.find (slice_cmp nat_cmp) q es)
    (fin.find (slice_cmp nat_cmp) q fs)

or_cond : (b : Bool) (o p : Option (List ℕ)) → option_or (cond b o None) (cond b p None) ≡ cond b (option_or o p) None
or_cond true o p = refl
or_cond false o p = refl

no_cond : (b : Bool) → ◌≡◌ {A = Option (List ℕ)} None (cond b None None)
no_cond true = refl
no_cond false = refl

-- what follows the front of a session's key is dropped to
pub drop_kept : (tag : ℕ) (id : SessionId) (name key : List ℕ)
    → drop (length (kept_text tag id name [])) (kept_text tag id name key) ≡ key
drop_kept tag id name key =
    let e : length (tag ∷ id_text id ++ length name ∷ name) ≡ length (kept_text tag id name []) =
    ap (λ (xs : List ℕ). length (tag ∷ id_text id ++ length name ∷ xs)) (sym (append-nil name)) in
    drop_at (tag ∷ id_text id ++ length name ∷ name) key (length (kept_text tag id name [])) e

module _ (m : RowMap) where
  -- the values of many sessions under a tag
  abbrev all_kept : ℕ → List ℕ → List Record → List Entry
  all_kept tag name rs = flat_map (λ r. fin.entries (values_in m (kept_text tag r.id name))) rs

  one_kept : (tag : ℕ) (name key : List ℕ) (r : Record)
      → fin.find (slice_cmp nat_cmp) key (fin.entries (values_in m (kept_text tag r.id name)))
      ≡ cond (is_name key) (fin.get m (kept_text tag r.id name key)) None
  one_kept tag name key r =
      sym (get-entries (values_in m (kept_text tag r.id name)) key)
      ∙ front_value m (kept_text tag r.id name) key (drop_kept tag r.id name key)

  first_is : (tag : ℕ) (name key : List ℕ) (rs : List Record)
      → fin.find (slice_cmp nat_cmp) key (all_kept tag name rs)
      ≡ cond (is_name key) (first_kept m tag (short_text name key) rs) None
  first_is tag name key [] = no_cond (is_name key)
  first_is tag name key (r ∷ rs) =
      find_append key (fin.entries (values_in m (kept_text tag r.id name))) (all_kept tag name rs)
      ∙ ap (λ (o : Option (List ℕ)). option_or o (fin.find (slice_cmp nat_cmp) key (all_kept tag name rs)))
      (one_kept tag name key r)
      ∙ ap (option_or (cond (is_name key) (fin.get m (kept_text tag r.id name key)) None)) (first_is tag name key rs)
      ∙ or_cond (is_name key) (fin.get m (kept_text tag r.id name key)) (first_kept m tag (short_text name key) rs)

  -- what sessions keep of a name
  pub kept_is : (rs : List Record) (name key : List ℕ)
      → fin.get (kept_of m rs name) key ≡ cond (is_name key) (kept_by m (short_text name key) rs) None
  kept_is rs name key =
      get-from_entries nat_list_cmp_total (all_kept 7 name rs ++ all_kept 8 name rs) key
      ∙ find_append key (all_kept 7 name rs) (all_kept 8 name rs)
      ∙ ap (λ (o : Option (List ℕ)). option_or o (fin.find (slice_cmp nat_cmp) key (all_kept 8 name rs)))
      (first_is 7 name key rs)
      ∙ ap (option_or (cond (is_name key) (first_kept m 7 (short_text name key) rs) None)) (first_is 8 name key rs)
      ∙ or_cond (is_name key) (first_kept m 7 (short_text name key) rs) (first_kept m 8 (short_text name key) rs)

  -- The era of a boot

  some_session : (rs : List Record) (name : List ℕ) → fin.len (kept_of m rs name) ≢ 0 → (r : Record) × In r rs
  some_session [] name d = absurd (d (len-empty (slice_cmp nat_cmp) (List ℕ)))
  some_session (r ∷ rs) name d = (r, inl refl)

  module _ (ss : List Record) where
    abbrev pub all_names : ℕ → List (List ℕ)
    all_names n = flat_map (λ r. map (λ p. p.name) r.parts) (activated_at n ss)

    pub name_sought : (n : ℕ) (name : List ℕ) → fin.len (kept_of m (counting ss n name) name) ≢ 0 → In name (all_names n)
    name_sought n name d =
        let (r, h) = some_session (counting ss n name) name d in
        let (i, t) = in_filter (names name) r (activated_at n ss) h in
        let (p, j, s) = any_in (λ (p : Part). bytes_eq p.name name) r.parts t in
        in_flat_map (λ (r : Record). map (λ (p : Part). p.name) r.parts) r name (activated_at n ss) i
        (subst (λ (x : List ℕ). In x (map (λ (p : Part). p.name) r.parts)) (same_name p.name name s)
        (in_map (λ (p : Part). p.name) p r.parts j))

    abbrev pub opened_at : ℕ → Contents
    opened_at n = era_of m (activated_at n ss)

    pub at_boot : (n : ℕ) (name key : List ℕ) → value_of (opened_at n) name key
        ≡ cond (is_name key) (kept_by m (short_text name key) (counting ss n name)) None
    at_boot n name key =
        ap (λ (t : NameMap (List ℕ)). fin.get t key)
        (ap or_empty (folded (λ name. kept_of m (counting ss n name) name) (all_names n) name (name_sought n name))
        ∙ part_whole (kept_of m (counting ss n name) name))
        ∙ kept_is (counting ss n name) name key

    no_value : (name key : List ℕ) → value_of {X = List ℕ} fin.empty name key ≡ None
    no_value name key =
        ap (λ (t : NameMap (List ℕ)). fin.get t key)
        (ap or_empty (get-empty {X = NameMap (List ℕ)} (slice_cmp nat_cmp) name))
        ∙ get-empty {X = List ℕ} (slice_cmp nat_cmp) key

    value_if : (b c : Bool) (boots n : ℕ) (name key : List ℕ) → eqb n 0 ≡ b → nat_le n boots ≡ c
        → value_of (cond b fin.empty (get_or (opened_eras m ss boots) (n - 1) fin.empty)) name key
        ≡ cond ((not b && c) && is_name key) (kept_by m (short_text name key) (counting ss n name)) None
    value_if true c boots n name key e f = no_value name key
    value_if false true boots n name key e f =
        ap (λ (c : Contents). value_of c name key)
        (get_or-map-range_with_len opened_at 1 boots (n - 1) n fin.empty (grind (arith, nat_tests, e, f))
        (grind (arith, nat_tests, e))) ∙ at_boot n name key
    value_if false false boots n name key e f =
        ap (λ (c : Contents). value_of c name key)
        (get_or_past (opened_eras m ss boots) (n - 1) fin.empty
        (grind (arith, nat_tests, length-map-range_with_len opened_at 1 boots, f))) ∙ no_value name key

    -- what a name had before a boot
    pub era_has : (boots n : ℕ) (name key : List ℕ)
        → value_of (era (opened_eras m ss boots) n) name key ≡ era_value m ss boots n name key
    era_has boots n name key = value_if (eqb n 0) (nat_le n boots) boots n name key refl refl
