-- Whether there are rows of data and of watches, by what the world has whose rows they are. Callers want `data_rows` and
-- `watch_rows`.
use Rattle.std.proofs.Common.{◌≡◌, ◌≢◌, ℕ, Bool, true, false, not, eqb, List, [], Option, Some, sym, ap, subst, ◌∙◌}
use Rattle.std.proofs.Common.{refl}
use Rattle.std.specs.Prelude.{IfSome}
use Rattle.std.specs.Option.{option_map}
use Rattle.std.specs.Cmp.{both_ways}
use Rattle.std.specs.Cmp.Lexicographic.{slice_cmp}
use Rattle.std.specs.FinMap as fin
use Rattle.std.specs.FinMap.{get-empty}
use Rattle.std.specs.List.{list_any}
use Rattle.std.specs.Ordering.{nat_cmp}
use Rattle.std.proofs.lemmas.Bool.{eqb-true}
use Rattle.apex_base.specs.Keys.{Key, Boots, RecordOf, ActiveOf, BackupOf, FileOf, DataOf, SnapshotOf, PreRestoreOf}
use Rattle.apex_base.specs.Keys.{WatchOf, RowMap, key_text}
use Rattle.apex_base.specs.Reading.{eight_text}
use Rattle.apex_base.specs.RowSums.{has_tag}
use Rattle.apex_base.specs.Tables.{NameMap, Table, or_empty, value_of}
use Rattle.apex_base.proofs.Finding.{some_of}
use Rattle.apex_base.proofs.MemberLemmas.{any_in, in_any}
use Rattle.apex_base.proofs.RowMaps.{entry_get, in_entries, rows_found}
use Rattle.apex_base.proofs.TableLemmas.{no_len, some_value}
use Rattle.apex_world.specs.Lawful.{IsTable, Lawful}
use Rattle.apex_world.specs.Rows.{row_at, row_keys, rows}
use Rattle.apex_world.specs.World.{World}
use Rattle.world_facts.proofs.facts.WorldRows.{data_at, in_part, watch_at, world_keys}

-- whether there is a row of a tag
abbrev pub are_of : ℕ → RowMap → Bool
are_of tag m = list_any (λ row. has_tag tag row.0) (fin.entries m)

-- whether something stands in a table
abbrev pub is_some_table : {X : Type 0} → Table X → Bool
is_some_table t = not (eqb (fin.len t) 0)

module _ {X : Type 0} (t : Table X) where
  none_in_empty : (name key : List ℕ) (x : X) → t ≡ fin.empty → value_of t name key ≡ Some x → ⊥
  none_in_empty name key x e f =
      let (m, there, has) = in_part t name key x f in
      let none = get-empty {X = NameMap X} (slice_cmp nat_cmp) name in
      absurd (cc (none, ap (λ (t : Table X). fin.get t name) (sym e) ∙ there))

  some_if_value : (b : Bool) → eqb (fin.len t) 0 ≡ b → (name key : List ℕ) (x : X) → value_of t name key ≡ Some x
      → not b ≡ true
  some_if_value false e name key x f = refl
  some_if_value true e name key x f =
      absurd (none_in_empty name key x (no_len t (eqb-true (fin.len t) 0 e)) f)

  -- a table with a value has something
  some_there : (name key : List ℕ) (x : X) → value_of t name key ≡ Some x → is_some_table t ≡ true
  some_there name key x f = some_if_value (eqb (fin.len t) 0) refl name key x f

  -- and one that has something has a value
  value_there : IsTable t → is_some_table t ≡ true → (name key : List ℕ) × (x : X) × (value_of t name key ≡ Some x)
  value_there is e =
      let (name, m, f) = some_value t (λ z. absurd (cc (e, z))) in
      let (key, x, g) = some_value m (subst (λ o. IfSome o (λ (m : NameMap X). fin.len m ≢ 0)) f (is.some name)) in
      (name, key, x, ap (λ (o : Option (NameMap X)). fin.get (or_empty o) key) f ∙ g)

module _ (w : World) (law : Lawful w) where
  -- a row of a tag is that of a key
  row_of_tag : (tag : ℕ) → are_of tag (rows w) ≡ true
      → (t : Key) × (value : List ℕ) × (has_tag tag (key_text t) ≡ true) × (row_at w t ≡ Some value)
  row_of_tag tag e =
      let (row, i, h) = any_in (λ (row : List ℕ × List ℕ). has_tag tag row.0) (fin.entries (rows w)) e in
      let (t, keyed, same, has) = rows_found (row_keys w) (row_at w) (world_keys w law) row.0 row.1
      (entry_get (rows w) row i) in
      (t, row.1, ap (has_tag tag) (sym same) ∙ h, has)

  -- and the row of a key is one of its tag
  tag_of_row : (tag : ℕ) (key value : List ℕ) → has_tag tag key ≡ true → fin.get (rows w) key ≡ Some value
      → are_of tag (rows w) ≡ true
  tag_of_row tag key value h e =
      in_any (λ (row : List ℕ × List ℕ). has_tag tag row.0) (key, value) (fin.entries (rows w))
      (in_entries (rows w) key value e) h

  data_there : (t : Key) (value : List ℕ) → has_tag 6 (key_text t) ≡ true → row_at w t ≡ Some value
      → is_some_table w.contents ≡ true
  data_there Boots value h e = absurd (cc h)
  data_there (RecordOf id) value h e = absurd (cc h)
  data_there (ActiveOf name) value h e = absurd (cc h)
  data_there (BackupOf name) value h e = absurd (cc h)
  data_there (FileOf id part path) value h e = absurd (cc h)
  data_there (DataOf name key) value h e = some_there w.contents name key value e
  data_there (SnapshotOf id name key) value h e = absurd (cc h)
  data_there (PreRestoreOf id name key) value h e = absurd (cc h)
  data_there (WatchOf observer name) value h e = absurd (cc h)

  watch_there : (t : Key) (value : List ℕ) → has_tag 9 (key_text t) ≡ true → row_at w t ≡ Some value
      → is_some_table w.watches ≡ true
  watch_there Boots value h e = absurd (cc h)
  watch_there (RecordOf id) value h e = absurd (cc h)
  watch_there (ActiveOf name) value h e = absurd (cc h)
  watch_there (BackupOf name) value h e = absurd (cc h)
  watch_there (FileOf id part path) value h e = absurd (cc h)
  watch_there (DataOf name key) value h e = absurd (cc h)
  watch_there (SnapshotOf id name key) value h e = absurd (cc h)
  watch_there (PreRestoreOf id name key) value h e = absurd (cc h)
  watch_there (WatchOf observer name) value h e =
      let (end, f, is) = some_of (λ (end : ℕ). eight_text end []) (value_of w.watches observer name) value e in
      some_there w.watches observer name end f

  data_back : is_some_table w.contents ≡ true → are_of 6 (rows w) ≡ true
  data_back e =
      let (name, key, value, f) = value_there w.contents law.ranges.contents e in
      tag_of_row 6 (key_text (DataOf name key)) value refl (data_at w law name key ∙ f)

  watch_back : is_some_table w.watches ≡ true → are_of 9 (rows w) ≡ true
  watch_back e =
      let (observer, name, end, f) = value_there w.watches law.ranges.watches e in
      tag_of_row 9 (key_text (WatchOf observer name)) (eight_text end []) refl
      (watch_at w law observer name ∙ ap (option_map (λ (end : ℕ). eight_text end [])) f)

  -- there are rows of data exactly where the world has data
  pub data_rows : are_of 6 (rows w) ≡ is_some_table w.contents
  data_rows = both_ways (are_of 6 (rows w)) (is_some_table w.contents)
      (λ e. let (t, value, h, has) = row_of_tag 6 e in data_there t value h has) data_back

  -- and rows of watches exactly where it has watches
  pub watch_rows : are_of 9 (rows w) ≡ is_some_table w.watches
  watch_rows = both_ways (are_of 9 (rows w)) (is_some_table w.watches)
      (λ e. let (t, value, h, has) = row_of_tag 9 e in watch_there t value h has) watch_back
