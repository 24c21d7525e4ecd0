-- What rows open to stands under names: `contents_table`, `watches_table` and `era_table`.
use Rattle.std.proofs.Common.{◌≡◌, ◌≢◌, ℕ, Bool, true, false, cond, eqb, IsTrue, List, [], ◌∷◌, ◌++◌, length, map}
use Rattle.std.proofs.Common.{flat_map, Option, Some, None, sym, ap, subst, ◌∙◌, refl, inl, inr}
use Rattle.std.specs.Prelude.{fold, IfSome}
use Rattle.std.specs.Ordering.{nat_cmp, eq_by_cmp}
use Rattle.std.specs.Cmp.Lexicographic.{slice_cmp, nat_list_cmp_total}
use Rattle.std.specs.FinMap as fin
use Rattle.std.specs.FinMap.{get-empty, get-insert, get-remove, get-from_entries}
use Rattle.std.proofs.lemmas.Bool.{eq-eqb}
use Rattle.apex_base.specs.declared.numbers.SessionId.{SessionId}
use Rattle.apex_base.specs.declared.records.Part.{Part}
use Rattle.apex_base.specs.declared.records.Record.{Record}
use Rattle.apex_base.specs.Keys.{RowMap, pair_of, tabulate, ends_of, data_front, snapshot_front, pre_restore_front}
use Rattle.apex_base.specs.Keys.{watch_front}
use Rattle.apex_base.specs.Members.{In}
use Rattle.apex_base.specs.Spelling.{IsRecord, IsPart}
use Rattle.apex_base.specs.Tables.{NameMap, Table, with_part}
use Rattle.apex_base.specs.Text.{is_name}
use Rattle.apex_base.proofs.Finding.{some_if, some_then}
use Rattle.apex_base.proofs.MemberLemmas.{in_append, in_flat_map_back, in_map_back, in_filter, each_in}
use Rattle.apex_base.proofs.RowMaps.{same_bytes, entry_found, entry_get}
use Rattle.apex_world.specs.Lawful.{IsTable}
use Rattle.apex_world.specs.Opened.{name_in, names_in, value_in, values_in, opened_contents, activated_at, kept_of}
use Rattle.apex_world.specs.Opened.{named_in, era_of, opened_eras, end_of, end_in, opened_ends, opened_watches}
use Rattle.apex_world.specs.World.{Contents}
use Rattle.world_facts.proofs.facts.WorldRows.{in_part}
use Rattle.session_record.proofs.Took.{if_holds}

-- Tables that are put together

module _ {X : Type 0} where
  -- what stands in a map stands under names
  abbrev AreNamed : NameMap X → Type 0
  AreNamed m = (b : List ℕ) (x : X) → fin.get m b ≡ Some x → IsTrue (is_name b)

  record IsPartOf (q : List ℕ) (m : NameMap X) : Type 0 where
    first : IsTrue (is_name q)
    second : AreNamed m
    some : fin.len m ≢ 0

  abbrev AreParts : Table X → Type 0
  AreParts t = (q : List ℕ) → IfSome (fin.get t q) (IsPartOf q)

  part_at : (t : Table X) → AreParts t → (q : List ℕ) (m : NameMap X) → fin.get t q ≡ Some m → IsPartOf q m
  part_at t parts q m e = subst (λ (o : Option (NameMap X)). IfSome o (IsPartOf q)) e (parts q)

  table_of : (t : Table X) → AreParts t → IsTable t
  table_of t parts = record {
    first = λ a b x e. let (m, f, g) = in_part t a b x e in (part_at t parts a m f).first;
    second = λ a b x e. let (m, f, g) = in_part t a b x e in (part_at t parts a m f).second b x g;
    some = λ a. some_if_there a (fin.get t a) (parts a);
  }
    where
      some_if_there : (a : List ℕ) (o : Option (NameMap X)) → IfSome o (IsPartOf a) → IfSome o (λ m. fin.len m ≢ 0)
      some_if_there a None h = tt
      some_if_there a (Some m) h = h.some

  module _ (t : Table X) (a : List ℕ) (m : NameMap X) (parts : AreParts t) (first : IsTrue (is_name a))
      (second : AreNamed m) where
    whole_part : eqb (fin.len m) 0 ≡ false → (q : List ℕ) → eq_by_cmp (slice_cmp nat_cmp) q a ≡ true → IsPartOf q m
    whole_part e q same = record {
      first = subst (λ (n : List ℕ). IsTrue (is_name n)) (sym (same_bytes q a same)) first;
      second = second;
      some = λ z. absurd (cc (e, eq-eqb (fin.len m) 0 z));
    }

    parts_if : (b : Bool) → eqb (fin.len m) 0 ≡ b → AreParts (cond b (fin.remove t a) (fin.insert t a m))
    parts_if true e q =
        subst (λ (o : Option (NameMap X)). IfSome o (IsPartOf q)) (sym (get-remove nat_list_cmp_total t a q))
        (if_holds (eq_by_cmp (slice_cmp nat_cmp) q a) None (fin.get t q) (IsPartOf q) (λ same. tt) (λ other. parts q))
    parts_if false e q =
        subst (λ (o : Option (NameMap X)). IfSome o (IsPartOf q)) (sym (get-insert nat_list_cmp_total t a m q))
        (if_holds (eq_by_cmp (slice_cmp nat_cmp) q a) (Some m) (fin.get t q) (IsPartOf q)
        (λ same. whole_part e q same) (λ other. parts q))

    with_parts : AreParts (with_part t a m)
    with_parts = parts_if (eqb (fin.len m) 0) refl

  module _ (f : List ℕ → NameMap X) where
    fold_parts : (ns : List (List ℕ)) (t : Table X) → ((n : List ℕ) → In n ns → IsTrue (is_name n) × AreNamed (f n))
        → AreParts t → AreParts (fold (λ t n. with_part t n (f n)) t ns)
    fold_parts [] t each parts = parts
    fold_parts (n ∷ ns) t each parts =
        let (first, second) = each n (inl refl) in
        fold_parts ns (with_part t n (f n)) (λ k h. each k (inr h)) (with_parts t n (f n) parts first second)

    -- a table that is put together from parts under names
    folded_table : (ns : List (List ℕ)) → ((n : List ℕ) → In n ns → IsTrue (is_name n) × AreNamed (f n))
        → IsTable (fold (λ t n. with_part t n (f n)) fin.empty ns)
    folded_table ns each = table_of (fold (λ t n. with_part t n (f n)) fin.empty ns)
        (fold_parts ns fin.empty each (λ q. subst (λ (o : Option (NameMap X)). IfSome o (IsPartOf q))
        (sym (get-empty {X = NameMap X} (slice_cmp nat_cmp) q)) tt))

  -- Maps that are tabulated

  pair_back : (n : List ℕ) (o : Option X) (q : List ℕ) (x : X) → In (q, x) (pair_of n o) → (n ≡ q) × (o ≡ Some x)
  pair_back n None q x h = absurd h
  pair_back n (Some y) q x (inl e) = (ap (λ (r : List ℕ × X). r.0) e, ap (λ (r : List ℕ × X). Some r.1) e)
  pair_back n (Some y) q x (inr h) = absurd h

  in_listed : (es : List (List ℕ × X)) (q : List ℕ) (x : X) → fin.get {R = slice_cmp nat_cmp} (fin.from_entries es) q ≡ Some x
      → In (q, x) es
  in_listed es q x e = entry_found q x es (sym (get-from_entries nat_list_cmp_total es q) ∙ e)

  in_tabulated : (value : List ℕ → Option X) (ns : List (List ℕ)) (q : List ℕ) (x : X)
      → fin.get {R = slice_cmp nat_cmp} (tabulate ns value) q ≡ Some x → value q ≡ Some x
  in_tabulated value ns q x e =
      let h = in_listed (flat_map (λ n. pair_of n (value n)) ns) q x e in
      let (n, i, j) = in_flat_map_back (λ n. pair_of n (value n)) (q, x) ns h in
      let (same, is) = pair_back n (value n) q x j in
      ap value (sym same) ∙ is

module _ (m : RowMap) where
  values_named : (front : List ℕ → List ℕ) → AreNamed (values_in m front)
  values_named front b x e =
      (some_if (is_name b) (fin.get m (front b)) x
      (in_tabulated (value_in m front) (ends_of (length (front [])) m) b x e)).0

  ends_named : (observer : List ℕ) → AreNamed (opened_ends m observer)
  ends_named observer b x e =
      let (v, f, g) = some_then end_of (value_in m (watch_front observer) b) x
      (in_tabulated (end_in m observer) (ends_of (length (watch_front observer [])) m) b x e) in
      (some_if (is_name b) (fin.get m (watch_front observer b)) v f).0

  sought_name : (n : List ℕ) → In n (names_in m) → IsTrue (is_name n)
  sought_name n h = (in_filter is_name n (map name_in (ends_of 1 m)) h).1

  pub contents_table : IsTable (opened_contents m)
  contents_table = folded_table (λ n. values_in m (data_front n)) (names_in m)
      (λ n h. (sought_name n h, values_named (data_front n)))

  pub watches_table : IsTable (opened_watches m)
  watches_table = folded_table (λ n. opened_ends m n) (names_in m) (λ n h. (sought_name n h, ends_named n))

  -- Eras

  entry_named : (front : SessionId → List ℕ → List ℕ → List ℕ) (ss : List Record) (name b x : List ℕ)
      → In (b, x) (flat_map (λ r. fin.entries (values_in m (front r.id name))) ss) → IsTrue (is_name b)
  entry_named front ss name b x h =
      let (r, i, j) = in_flat_map_back (λ (r : Record). fin.entries (values_in m (front r.id name))) (b, x) ss h in
      values_named (front r.id name) b x (entry_get (values_in m (front r.id name)) (b, x) j)

  kept_named : (ss : List Record) (name : List ℕ) → AreNamed (kept_of m ss name)
  kept_named ss name b x e =
      let snapshots = flat_map (λ (r : Record). fin.entries (values_in m (snapshot_front r.id name))) ss in
      let pre_restores = flat_map (λ (r : Record). fin.entries (values_in m (pre_restore_front r.id name))) ss in
      elim (in_append (b, x) snapshots pre_restores (in_listed (snapshots ++ pre_restores) b x e)) [
        | inl i ↦ entry_named snapshot_front ss name b x i
        | inr i ↦ entry_named pre_restore_front ss name b x i
      ]

  module _ (ss : List Record) (are : (r : Record) → In r ss → IsRecord r) where
    name_of_part : (n : List ℕ) → In n (flat_map (λ r. map (λ p. p.name) r.parts) ss) → IsTrue (is_name n)
    name_of_part n h =
        let (r, i, j) = in_flat_map_back (λ (r : Record). map (λ (p : Part). p.name) r.parts) n ss h in
        let (p, k, e) = in_map_back (λ (p : Part). p.name) n r.parts j in
        subst (λ (n : List ℕ). IsTrue (is_name n)) e (each_in IsPart r.parts (are r i).parts p k).name

    one_era_table : IsTable (era_of m ss)
    one_era_table = folded_table (λ n. kept_of m (named_in n ss) n) (flat_map (λ r. map (λ p. p.name) r.parts) ss)
        (λ n h. (name_of_part n h, kept_named (named_in n ss) n))

  pub era_table : (ss : List Record) → ((r : Record) → In r ss → IsRecord r) → (n : ℕ) (c : Contents)
      → In c (opened_eras m ss n) → IsTable c
  era_table ss are n c h =
      let (b, i, e) = in_map_back (λ (b : ℕ). era_of m (activated_at b ss)) c _ h in
      subst (λ (c : Contents). IsTable c) e (one_era_table (activated_at b ss)
      (λ r j. are r (in_filter (λ (r : Record). eqb r.activation b) r ss j).0))
