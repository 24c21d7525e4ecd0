-- The tests of modules, tables and images decide what they stand for. Callers want `module_decides`, `table_decides`,
-- `ends_decide`, `image_decides`, `says_decides` and `values_decide`.
use Rattle.std.proofs.Common.{◌≡◌, ◌≢◌, ℕ, ◌≤◌, Bool, true, List, length}
use Rattle.std.proofs.Common.{Option, Some, None, Result, Ok, Err, IfSome, ap, subst, ◌∙◌, refl, Decides}
use Rattle.std.specs.List.{list_all}
use Rattle.std.specs.FinMap as fin
use Rattle.std.proofs.lemmas.Bool.Decides.{Decides-and, Decides-not, Decides-eqb}
use Rattle.std.proofs.lemmas.List.Elements.{All-from_recursion, recursion_from_All}
use Rattle.apex_base.specs.declared.fault.ModuleFault.{ModuleFault}
use Rattle.apex_base.specs.declared.numbers.Scale.{Scale}
use Rattle.apex_base.specs.Members.{In}
use Rattle.apex_base.specs.Modules.{FileMap, IsModule}
use Rattle.apex_base.specs.Numbers.{scale_modules}
use Rattle.apex_base.specs.Tables.{NameMap, Table, or_empty, value_of}
use Rattle.apex_base.specs.Text.{is_name, is_print, is_path}
use Rattle.apex_base.proofs.MemberLemmas.{in_map, in_map_back}
use Rattle.apex_base.proofs.RowMaps.{in_entries, in_keys, entry_get}
use Rattle.apex_base.proofs.TableLemmas.{some_value}
use Rattle.apex_manifest.specs.declared.manifest.Manifest.{Manifest}
use Rattle.apex_world.specs.declared.calls.Image.{Image}
use Rattle.apex_world.specs.declared.modules.Package.{Package}
use Rattle.apex_world.specs.Decided.{is_file, is_module, is_row, is_table, is_end, are_ends, says, is_package, is_image}
use Rattle.apex_world.specs.Lawful.{IsTable, IsRunningImage}
use Rattle.apex_world.specs.Orders.{IsPackage}
use Rattle.apex_world.specs.Soundness.{manifest_in}
use Rattle.world_facts.proofs.facts.DecidedTests.{itself, at_most, every, all_decide, pairs_decide, pairs_at, at_pairs}
use Rattle.world_facts.proofs.facts.DecidedTests.{name_decides, other_name_decides}
use Rattle.world_facts.proofs.facts.WorldRows.{in_part}

-- Maps: a test of each entry decides what each look-up has

module _ {X : Type 0} where
  -- what holds of each value that may be there holds of an option
  some_at : (P : List ℕ → X → Type 0) (k : List ℕ) (o f : Option X) → o ≡ f → ((x : X) → o ≡ Some x → P k x)
      → IfSome f (P k)
  some_at P k o None e h = tt
  some_at P k o (Some x) e h = h x e

  -- what holds of the entries holds of what is looked up
  looked : (P : List ℕ → X → Type 0) (m : NameMap X) → ((e : List ℕ × X) → In e (fin.entries m) → P e.0 e.1)
      → (k : List ℕ) → IfSome (fin.get m k) (P k)
  looked P m h k = some_at P k (fin.get m k) (fin.get m k) refl (λ x e. h (k, x) (in_entries m k x e))

  -- and the other way round
  looks : (P : List ℕ → X → Type 0) (m : NameMap X) → ((k : List ℕ) → IfSome (fin.get m k) (P k))
      → (e : List ℕ × X) → In e (fin.entries m) → P e.0 e.1
  looks P m h e i = subst (λ (o : Option X). IfSome o (P e.0)) (entry_get m e i) (h e.0)

  -- a test of each value decides what each look-up has
  pub values_decide : (test : X → Bool) (P : X → Type 0) → ((x : X) → Decides (test x) (P x)) → (m : NameMap X)
      → Decides (list_all test (fin.values m)) ((k : List ℕ) → IfSome (fin.get m k) P)
  values_decide test P each m =
      let d = every test P (fin.values m) (λ x h. each x) in (
        λ t. let all = d.0 t in
            looked (λ k. P) m (λ e h. all e.1 (in_map (λ (r : List ℕ × X). r.1) e (fin.entries m) h)),
        λ f. d.1 (λ x h. let (e, i, s) = in_map_back (λ (r : List ℕ × X). r.1) x (fin.entries m) h in
            subst P s (looks (λ k. P) m f e i)),
      )

-- Modules

-- the test of a module decides that it is one
pub module_decides : (m : FileMap) → Decides (is_module m) (IsModule m)
module_decides m =
    let short = λ (k c : List ℕ). length c ≤ 1048576 in
    let path = λ (k c : List ℕ). is_path k ≡ true in
    let d = Decides-and _ _ (at_most (fin.len m) 64) (every is_file _ (fin.entries m)
    (λ f h. Decides-and _ _ (itself (is_path f.0)) (at_most (length f.1) 1048576))) in (
      λ e. let (few, all) = d.0 e in
          record {
            few = few;
            short = looked short m (λ f h. (all f h).1);
            paths = looked path m (λ f h. (all f h).0);
          },
      λ h. d.1 (h.few, λ f i. (looks path m h.paths f i, looks short m h.short f i)),
    )

-- Tables

module _ {X : Type 0} where
  -- what stands in the part of a first name stands in the table
  value_at : (t : Table X) (a b : List ℕ) (m : NameMap X) (x : X) → fin.get t a ≡ Some m → fin.get m b ≡ Some x
      → value_of t a b ≡ Some x
  value_at t a b m x e f = ap (λ (o : Option (NameMap X)). fin.get (or_empty o) b) e ∙ f

  -- what a row has to have
  abbrev IsRow : List ℕ × NameMap X → Type 0
  IsRow row = (is_name row.0 ≡ true) × ((fin.len row.1 ≢ 0) × ((k : List ℕ) → In k (fin.keys row.1)
      → is_name k ≡ true))

  -- the test of a row decides what it has to have
  row_decides : (row : List ℕ × NameMap X) → Decides (is_row row) (IsRow row)
  row_decides row = Decides-and _ _ (itself (is_name row.0))
      (Decides-and _ _ (Decides-not _ (Decides-eqb (fin.len row.1) 0))
      (every is_name _ (fin.keys row.1) (λ k h. itself (is_name k))))

  -- where each row is as it has to be, the table is
  rows_table : (t : Table X) → ((row : List ℕ × NameMap X) → In row (fin.entries t) → IsRow row) → IsTable t
  rows_table t all = record {
    first = λ a b x e. let (m, f, g) = in_part t a b x e in (all (a, m) (in_entries t a m f)).0;
    second = λ a b x e. let (m, f, g) = in_part t a b x e in (all (a, m) (in_entries t a m f)).1.1 b (in_keys m b x g);
    some = looked (λ a m. fin.len m ≢ 0) t (λ row h. (all row h).1.0);
  }

  -- and the other way round
  table_row : (t : Table X) → IsTable t → (row : List ℕ × NameMap X) → In row (fin.entries t) → IsRow row
  table_row t is row h =
      let some : fin.len row.1 ≢ 0 = looks (λ a m. fin.len m ≢ 0) t is.some row h in
      let (b, x, e) = some_value row.1 some in
      let first = is.first row.0 b x (value_at t row.0 b row.1 x (entry_get t row h) e) in
      let second = λ (k : List ℕ) (i : In k (fin.keys row.1)).
      let (v, j, s) = in_map_back (λ (r : List ℕ × X). r.0) k (fin.entries row.1) i in
      let found = value_at t row.0 v.0 row.1 v.1 (entry_get t row h) (entry_get row.1 v j) in
      subst (λ (n : List ℕ). is_name n ≡ true) s (is.second row.0 v.0 v.1 found) in
      (first, (some, second))

  -- the test of a table decides that it is one
  pub table_decides : (t : Table X) → Decides (is_table t) (IsTable t)
  table_decides t =
      let d = every is_row IsRow (fin.entries t) (λ row h. row_decides row) in
      (λ e. rows_table t (d.0 e), λ h. d.1 (table_row t h))

-- an end of a watch
abbrev IsEnd : ℕ → Type 0
IsEnd n = n ≤ 18014398509481982

-- the test of the ends of watches decides their range
pub ends_decide : (t : Table ℕ) → Decides (are_ends t) ((observer name : List ℕ) (end : ℕ)
    → value_of t observer name ≡ Some end → end ≤ 18014398509481982)
ends_decide t =
    let d = every (λ row. list_all is_end (fin.values row.1)) (λ row. (k : List ℕ) → IfSome (fin.get row.1 k) IsEnd)
    (fin.entries t) (λ row h. values_decide is_end IsEnd (λ n. at_most n 18014398509481982) row.1) in (
      λ e observer name end v.
          let (m, f, g) = in_part t observer name end v in
          subst (λ (o : Option ℕ). IfSome o IsEnd) g (d.0 e (observer, m) (in_entries t observer m f) name),
      λ h. d.1 (λ row i k. some_at (λ k n. IsEnd n) k (fin.get row.1 k) (fin.get row.1 k) refl
          (λ x e. h row.0 k x (value_at t row.0 k row.1 x (entry_get t row i) e))),
    )

-- Images

-- the test of what a manifest says decides it
pub says_decides : (said : Result Manifest ModuleFault) (name : List ℕ) (version : ℕ)
    → Decides (says said name version) (said ≡ Ok (record { name = name; version = version }))
says_decides (Ok manifest) name version =
    let d = Decides-and _ _ (name_decides manifest.name name) (Decides-eqb manifest.version version) in (
      λ e. let h = d.0 e in ap (λ (m : Manifest). Ok m) (λ i. record { name = h.0 i; version = h.1 i }),
      λ e. let same : manifest ≡ record { name = name; version = version } = cc in
          d.1 (ap (λ (m : Manifest). m.name) same, ap (λ (m : Manifest). m.version) same),
    )
says_decides (Err fault) name version = (λ e. absurd (cc), λ e. absurd (cc))

-- the test of a package decides that it is one
package_decides : (m : Package) → Decides (is_package m) (IsPackage m)
package_decides m = says_decides (manifest_in m.content) m.name m.version

-- the test of an image decides that it may run
pub image_decides : (scale : Scale) (o : Option Image) → Decides (is_image scale o) (IfSome o (IsRunningImage scale))
image_decides scale None = (λ e. tt, λ h. refl)
image_decides scale (Some image) =
    let differ = λ (m n : Package). m.name ≢ n.name in
    let d = Decides-and _ _ (itself (is_print image.print))
    (Decides-and _ _ (at_most (length image.modules) (scale_modules scale))
    (Decides-and _ _ (pairs_decide _ differ (λ m n. other_name_decides m.name n.name) image.modules)
    (all_decide is_package IsPackage package_decides image.modules))) in (
      λ e. let (print, (count, (names, manifests))) = d.0 e in
          record {
            print = print;
            modules = record {
              names = pairs_at differ image.modules names;
              count = count;
              manifests = All-from_recursion IsPackage image.modules manifests;
            };
          },
      λ h.
          let names = at_pairs differ image.modules h.modules.names in
          let manifests = recursion_from_All IsPackage image.modules h.modules.manifests in
          d.1 (h.print, (h.modules.count, (names, manifests))),
    )
