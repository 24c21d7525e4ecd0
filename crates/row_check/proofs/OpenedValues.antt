-- The data and the watches of the world that rows open to, by what the rows have. Callers want `contents_value` and
-- `watch_value`.
use Rattle.std.proofs.Common.{◌≡◌, ◌≢◌, ℕ, Bool, true, false, cond, eqb, List, [], ◌∷◌, ◌++◌, length, map}
use Rattle.std.proofs.Common.{Option, Some, None, sym, ap, subst, ◌∙◌, refl, inl, inr}
use Rattle.std.specs.Prelude.{fold}
use Rattle.std.specs.Ordering.{nat_cmp, eq_by_cmp}
use Rattle.std.specs.Cmp.Lexicographic.{slice_cmp, nat_list_cmp_total}
use Rattle.std.specs.FinMap as fin
use Rattle.std.specs.FinMap.{get-empty, get-insert, get-remove}
use Rattle.std.proofs.lemmas.List.{take_at}
use Rattle.apex_base.specs.Keys.{RowMap, data_front, watch_front, ends_of}
use Rattle.apex_base.specs.Members.{In}
use Rattle.apex_base.specs.Tables.{NameMap, Table, or_empty, with_part, value_of}
use Rattle.apex_base.specs.Text.{is_name}
use Rattle.apex_base.proofs.Finding.{filtered, some_if, some_then}
use Rattle.apex_base.proofs.MemberLemmas.{in_map, in_filter}
use Rattle.apex_base.proofs.RowMaps.{same_bytes, tabulated, in_ends}
use Rattle.apex_base.proofs.TableLemmas.{whole, folded, part_whole, some_value}
use Rattle.apex_world.specs.Opened.{name_in, names_in, value_in, values_in, opened_contents, end_of, end_in}
use Rattle.apex_world.specs.Opened.{opened_ends, opened_watches}
use Rattle.world_facts.proofs.facts.OpenedTables.{drop_front, front_value}

-- Tables that are put together from the parts of some names

module _ {X : Type 0} (f : List ℕ → NameMap X) where
  abbrev put : Table X → List ℕ → Table X
  put t name = with_part t name (f name)

  with_if : (b : Bool) (t : Table X) (a q : List ℕ) (m : NameMap X) → eqb (fin.len m) 0 ≡ b
      → fin.get (cond b (fin.remove t a) (fin.insert t a m)) q
      ≡ cond (eq_by_cmp (slice_cmp nat_cmp) q a) (cond b None (Some m)) (fin.get t q)
  with_if true t a q m e = get-remove nat_list_cmp_total t a q
  with_if false t a q m e = get-insert nat_list_cmp_total t a m q

  other_if : (b : Bool) (q name : List ℕ) (o p : Option (NameMap X)) → eq_by_cmp (slice_cmp nat_cmp) q name ≡ b
      → (name ≡ q → ⊥) → p ≡ None → cond b o p ≡ None
  other_if true q name o p same other e = absurd (other (sym (same_bytes q name same)))
  other_if false q name o p same other e = e

  -- a name that isn't among them has no part
  not_put : (names : List (List ℕ)) (t : Table X) (q : List ℕ) → fin.get t q ≡ None → (In q names → ⊥)
      → fin.get (fold put t names) q ≡ None
  not_put [] t q e other = e
  not_put (name ∷ names) t q e other =
      not_put names (put t name) q (with_if (eqb (fin.len (f name)) 0) t name q (f name) refl
      ∙ other_if (eq_by_cmp (slice_cmp nat_cmp) q name) q name (whole (f name)) (fin.get t q) refl
      (λ same. other (inl same)) e) (λ h. other (inr h))

  module _ (names : List (List ℕ)) (sought : (a : List ℕ) → is_name a ≡ true → fin.len (f a) ≢ 0 → In a names)
      (named : (a : List ℕ) → In a names → is_name a ≡ true) where
    value_if : (x : Bool) (a b : List ℕ) → is_name a ≡ x
        → value_of (fold put fin.empty names) a b ≡ cond x (fin.get (f a) b) None
    value_if true a b e =
        ap (λ (m : NameMap X). fin.get m b) (ap or_empty (folded f names a (λ d. sought a e d)) ∙ part_whole (f a))
    value_if false a b e =
        let none : fin.get (fold put fin.empty names) a ≡ None =
        not_put names fin.empty a (get-empty {X = NameMap X} (slice_cmp nat_cmp) a)
        (λ h. absurd (cc (e, named a h))) in
        ap (λ (o : Option (NameMap X)). fin.get (or_empty o) b) none ∙ get-empty {X = X} (slice_cmp nat_cmp) b

    -- the table has the values of those that are names
    table_value : (a b : List ℕ) → value_of (fold put fin.empty names) a b ≡ cond (is_name a) (fin.get (f a) b) None
    table_value a b = value_if (is_name a) a b refl

module _ (m : RowMap) where
  -- the first name of a key is sought
  first_sought : (tag : ℕ) (name key value : List ℕ) → is_name name ≡ true
      → fin.get m (tag ∷ length name ∷ name ++ key) ≡ Some value → In name (names_in m)
  first_sought tag name key value h e =
      filtered is_name name (map name_in (ends_of 1 m)) (subst (λ (n : List ℕ). In n (map name_in (ends_of 1 m)))
      (take_at name key (length name) refl)
      (in_map name_in (length name ∷ name ++ key) (ends_of 1 m)
      (in_ends 1 m (tag ∷ length name ∷ name ++ key) value e))) h

  all_names : (name : List ℕ) → In name (names_in m) → is_name name ≡ true
  all_names name h = (in_filter is_name name (map name_in (ends_of 1 m)) h).1

  -- Data

  data_here : (name key : List ℕ) → fin.get (values_in m (data_front name)) key ≡ value_in m (data_front name) key
  data_here name key = front_value m (data_front name) key (drop_front 6 name key)

  data_sought : (name : List ℕ) → is_name name ≡ true → fin.len (values_in m (data_front name)) ≢ 0
      → In name (names_in m)
  data_sought name h d =
      let (key, v, e) = some_value (values_in m (data_front name)) d in
      first_sought 6 name key v h
      (some_if (is_name key) (fin.get m (data_front name key)) v (sym (data_here name key) ∙ e)).1

  -- a value of two names is that of its row
  pub contents_value : (name key : List ℕ) → value_of (opened_contents m) name key
      ≡ cond (is_name name) (value_in m (data_front name) key) None
  contents_value name key =
      table_value (λ name. values_in m (data_front name)) (names_in m) data_sought all_names name key
      ∙ ap (λ (o : Option (List ℕ)). cond (is_name name) o None) (data_here name key)

  -- Watches

  watch_here : (observer name : List ℕ) → fin.get (opened_ends m observer) name ≡ end_in m observer name
  watch_here observer name =
      tabulated (end_in m observer) (ends_of (length (watch_front observer [])) m) name (λ v e.
      let (bytes, f, g) = some_then end_of (value_in m (watch_front observer) name) v e in
      let there = (some_if (is_name name) (fin.get m (watch_front observer name)) bytes f).1 in
      subst (λ (k : List ℕ). In k (ends_of (length (watch_front observer [])) m)) (drop_front 9 observer name)
      (in_ends (length (watch_front observer [])) m (watch_front observer name) bytes there))

  watch_sought : (observer : List ℕ) → is_name observer ≡ true → fin.len (opened_ends m observer) ≢ 0
      → In observer (names_in m)
  watch_sought observer h d =
      let (name, v, e) = some_value (opened_ends m observer) d in
      let (bytes, f, g) = some_then end_of (value_in m (watch_front observer) name) v
      (sym (watch_here observer name) ∙ e) in
      first_sought 9 observer name bytes h (some_if (is_name name) (fin.get m (watch_front observer name)) bytes f).1

  -- the end of a watch is that of its row
  pub watch_value : (observer name : List ℕ) → value_of (opened_watches m) observer name
      ≡ cond (is_name observer) (end_in m observer name) None
  watch_value observer name =
      table_value (λ observer. opened_ends m observer) (names_in m) watch_sought all_names observer name
      ∙ ap (λ (o : Option ℕ). cond (is_name observer) o None) (watch_here observer name)
