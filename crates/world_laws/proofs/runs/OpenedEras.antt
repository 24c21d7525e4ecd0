-- The rows of a lawful world open to what its sessions keep of the data before each boot. Callers want `era_back`,
-- `era_there`, `era_table`, `era_again` and `little_eras`.
use Rattle.std.proofs.Common.{◌≡◌, ◌≢◌, ◌⊎◌, ℕ, zero, suc, ◌-◌, ◌≤◌, Bool, true, false, cond, eqb, List, [], ◌∷◌}
use Rattle.std.proofs.Common.{◌++◌, length, map, flat_map, drop, Option, Some, None, sym, ap, subst, ◌∙◌, refl, inl}
use Rattle.std.proofs.Common.{inr, arith}
use Rattle.std.specs.Prelude.{option_and_then, get_or, IfSome}
use Rattle.std.specs.List.{range_with_len}
use Rattle.std.specs.Str.{bytes_eq}
use Rattle.std.specs.Ordering.{nat_cmp, eq_by_cmp}
use Rattle.std.specs.Cmp.Lexicographic.{slice_cmp, nat_list_cmp_total}
use Rattle.std.specs.FinMap as fin
use Rattle.std.specs.FinMap.{is_sorted, get-empty, get-from_entries, len-entries}
use Rattle.std.proofs.lemmas.Bool.{and_parts, eqb-true, eq-eqb, ne_eqb}
use Rattle.std.proofs.lemmas.List.{append-nil, drop_at, length-map}
use Rattle.std.proofs.lemmas.List.FromFn.{get_or-map-range_with_len}
use Rattle.std.proofs.lemmas.List.Sums.{sum-map}
use Rattle.apex_base.specs.declared.numbers.Scale.{Scale}
use Rattle.apex_base.specs.declared.numbers.SessionId.{SessionId}
use Rattle.apex_base.specs.declared.records.Part.{Part}
use Rattle.apex_base.specs.declared.records.Record.{Record}
use Rattle.apex_base.specs.Keys.{id_text, snapshot_front, pre_restore_front}
use Rattle.apex_base.specs.Members.{In, EachPair}
use Rattle.apex_base.specs.RowSums.{entry_weight}
use Rattle.apex_base.specs.Sessions.{names}
use Rattle.apex_base.specs.Tables.{NameMap, or_empty, part_of, value_of}
use Rattle.apex_base.specs.Text.{is_name}
use Rattle.apex_base.proofs.Finding.{some_if, filtered}
use Rattle.apex_base.proofs.MemberLemmas.{in_map, in_map_back, in_left, in_right, in_append, in_flat_map}
use Rattle.apex_base.proofs.MemberLemmas.{in_flat_map_back, any_in, in_filter, in_each}
use Rattle.apex_base.proofs.RowMaps.{eq_bytes, below_in, sorted_entries, entry_get, entry_found, in_entries, in_keys}
use Rattle.apex_base.proofs.SessionLemmas.{of_in}
use Rattle.apex_base.proofs.SumLemmas.{sum_most, length_most}
use Rattle.apex_base.proofs.TableLemmas.{whole, folded, part_whole, some_value}
use Rattle.apex_world.specs.Bounds.{HasLittleData}
use Rattle.apex_world.specs.Data.{data_weight}
use Rattle.apex_world.specs.Lawful.{Lawful, IsTable}
use Rattle.apex_world.specs.Opened.{values_in, activated_at, kept_of, named_in, era_of, opened_eras}
use Rattle.apex_world.specs.Rows.{has_snapshot, has_pre_restore, earlier, rows}
use Rattle.apex_world.specs.World.{World, Contents, era}
use Rattle.world_facts.proofs.facts.OpenedTables.{front_value}
use Rattle.world_facts.proofs.facts.WorldRows.{record_id, same_name, in_part, snapshot_at, pre_restore_at}

abbrev Entry : Type 0
Entry = List ℕ × List ℕ

-- Tables that have nothing but what others have

keys_apart : {X : Type 0} (es : List (List ℕ × X)) → is_sorted (slice_cmp nat_cmp) es ≡ true
    → EachPair (λ (a b : List ℕ). a ≢ b) (map (λ e. e.0) es)
keys_apart [] s = tt
keys_apart {X} (e ∷ es) s = (
  in_each (λ (b : List ℕ). e.0 ≢ b) (map (λ (e : List ℕ × X). e.0) es) (λ b h same.
      let (f, i, is) = in_map_back (λ (e : List ℕ × X). e.0) b es h in
      below_in e.0 es f (and_parts _ _ s).0 i (same ∙ sym is)),
  keys_apart es (and_parts _ _ s).1,
)

entries_apart : {X : Type 0} (es : List (List ℕ × X)) → is_sorted (slice_cmp nat_cmp) es ≡ true
    → EachPair (λ (e f : List ℕ × X). e.0 ≢ f.0) es
entries_apart [] s = tt
entries_apart {X} (e ∷ es) s = (
  in_each (λ (f : List ℕ × X). e.0 ≢ f.0) es
      (λ f h same. below_in e.0 es f (and_parts _ _ s).0 h same),
  entries_apart es (and_parts _ _ s).1,
)

abbrev pub HasLess : Contents → Contents → Type 0
HasLess c d = (a b x : List ℕ) → value_of c a b ≡ Some x → value_of d a b ≡ Some x

module _ (c d : Contents) (table : IsTable c) (less : HasLess c d) where
  name_there : (a : List ℕ) → In a (fin.keys c) → In a (fin.keys d)
  name_there a h =
      let (e, i, is) = in_map_back (λ (e : List ℕ × NameMap (List ℕ)). e.0) a (fin.entries c) h in
      let f : fin.get c e.0 ≡ Some e.1 = entry_get c e i in
      let some : fin.len e.1 ≢ 0 = subst (λ (o : Option (NameMap (List ℕ))). IfSome o (λ m. fin.len m ≢ 0)) f
      (table.some e.0) in
      let (b, x, g) = some_value e.1 some in
      let (m, l, n) = in_part d e.0 b x (less e.0 b x (ap
      (λ (o : Option (NameMap (List ℕ))). fin.get (or_empty o) b) f ∙ g)) in
      subst (λ (a : List ℕ). In a (fin.keys d)) is (in_keys d e.0 m l)

  names_most : fin.len c ≤ fin.len d
  names_most =
      let l = length_most (fin.keys c) (fin.keys d) (keys_apart (fin.entries c) (sorted_entries c)) name_there in
      omega (
        arith,
        l,
        len-entries c,
        len-entries d,
        length-map (fin.entries c)
            (λ (e : List ℕ × NameMap (List ℕ)). e.0),
        length-map (fin.entries d) (λ (e : List ℕ × NameMap (List ℕ)). e.0),
      )

  weight_most : (name : List ℕ) → data_weight c name ≤ data_weight d name
  weight_most name =
      let f : Entry → ℕ = λ e. entry_weight e.0 e.1 in
      let l = sum_most f (λ (e : Entry). e.0) (fin.entries (part_of c name)) (fin.entries (part_of d name))
      (entries_apart (fin.entries (part_of c name)) (sorted_entries (part_of c name))) (λ e h.
      inr (e, in_entries (part_of d name) e.0 e.1 (less name e.0 e.1 (entry_get (part_of c name) e h)), refl, refl)) in
      omega (arith, l, sum-map f (fin.entries (part_of c name)), sum-map f (fin.entries (part_of d name)))

  little_less : (scale : Scale) → HasLittleData scale d → HasLittleData scale c
  little_less scale h = record {
    names = let l = h.names in omega (arith, l, names_most);
    weight = λ name. let l = h.weight name in omega (arith, l, weight_most name);
  }

-- Eras by their number

got_or : {X : Type 0} (P : X → Type 0) (xs : List X) (i : ℕ) (d : X) → P d → ((x : X) → In x xs → P x)
    → P (get_or xs i d)
got_or P [] i d p all = p
got_or P (x ∷ xs) zero d p all = all x (inl refl)
got_or P (x ∷ xs) (suc i) d p all = got_or P xs i d p (λ y h. all y (inr h))

era_if : (P : Contents → Type 0) (b : Bool) (eras : List Contents) (n : ℕ) → P fin.empty
    → ((c : Contents) → In c eras → P c) → P (cond b fin.empty (get_or eras (n - 1) fin.empty))
era_if P true eras n p all = p
era_if P false eras n p all = got_or P eras (n - 1) fin.empty p all

-- what holds of no data and of each era holds of that of any number
pub era_has : (P : Contents → Type 0) (eras : List Contents) (n : ℕ) → P fin.empty
    → ((c : Contents) → In c eras → P c) → P (era eras n)
era_has P eras n p all = era_if P (eqb n 0) eras n p all

no_part : (a : List ℕ) → part_of {X = List ℕ} fin.empty a ≡ fin.empty
no_part a = ap or_empty (get-empty {X = NameMap (List ℕ)} (slice_cmp nat_cmp) a)

no_value : (a b x : List ℕ) → value_of {X = List ℕ} fin.empty a b ≡ Some x → ⊥
no_value a b x e = absurd (cc (
  e,
  ap (λ (m : NameMap (List ℕ)). fin.get m b) (no_part a),
  get-empty {X = List ℕ} (slice_cmp nat_cmp) b,
))

no_table : IsTable {X = List ℕ} fin.empty
no_table = record {
  first = λ a b x e. absurd (no_value a b x e);
  second = λ a b x e. absurd (no_value a b x e);
  some = λ a. subst (λ (o : Option (NameMap (List ℕ))). IfSome o (λ m. fin.len m ≢ 0))
      (sym (get-empty {X = NameMap (List ℕ)} (slice_cmp nat_cmp) a)) tt;
}

no_data : (scale : Scale) → (d : Contents) → HasLittleData scale d → HasLittleData scale fin.empty
no_data scale d h = little_less fin.empty d no_table (λ a b x e. absurd (no_value a b x e)) scale h

-- Values after the fronts of eras

drop_snapshot : (id : SessionId) (name key : List ℕ) → drop (length (snapshot_front id name []))
    (snapshot_front id name key) ≡ key
drop_snapshot id name key =
    let e : length (7 ∷ id_text id ++ length name ∷ name) ≡ length (snapshot_front id name []) =
    ap (λ (xs : List ℕ). length (7 ∷ id_text id ++ length name ∷ xs)) (sym (append-nil name)) in
    drop_at (7 ∷ id_text id ++ length name ∷ name) key (length (snapshot_front id name [])) e

drop_pre_restore : (id : SessionId) (name key : List ℕ)
    → drop (length (pre_restore_front id name [])) (pre_restore_front id name key) ≡ key
drop_pre_restore id name key =
    let e : length (8 ∷ id_text id ++ length name ∷ name) ≡ length (pre_restore_front id name []) =
    ap (λ (xs : List ℕ). length (8 ∷ id_text id ++ length name ∷ xs)) (sym (append-nil name)) in
    drop_at (8 ∷ id_text id ++ length name ∷ name) key (length (pre_restore_front id name [])) e

found_if : (b : Bool) (k : List ℕ) (e : Entry) (es : List Entry)
    → (b ≡ false → (u : List ℕ) × (fin.find (slice_cmp nat_cmp) k es ≡ Some u))
    → (u : List ℕ) × (cond b (Some e.1) (fin.find (slice_cmp nat_cmp) k es) ≡ Some u)
found_if true k e es more = (e.1, refl)
found_if false k e es more = more refl

-- a key of an entry is found
some_found : (k v : List ℕ) (es : List Entry) → In (k, v) es
    → (u : List ℕ) × (fin.find (slice_cmp nat_cmp) k es ≡ Some u)
some_found k v [] h = absurd h
some_found k v (e ∷ es) (inl same) = found_if (eq_by_cmp (slice_cmp nat_cmp) k e.0) k e es
    (λ f. absurd (cc (f, ap (λ (x : Entry). eq_by_cmp (slice_cmp nat_cmp) k x.0) same, eq_bytes k)))
some_found k v (e ∷ es) (inr h) = found_if (eq_by_cmp (slice_cmp nat_cmp) k e.0) k e es (λ f. some_found k v es h)

whole_if : (b : Bool) (m : NameMap (List ℕ)) → eqb (fin.len m) 0 ≡ b
    → IfSome (cond b None (Some m)) (λ m. fin.len m ≢ 0)
whole_if true m e = tt
whole_if false m e = λ z. absurd (cc (e, eq-eqb (fin.len m) 0 z))

module _ (w : World) (law : Lawful w) where
  pub table_at : (n : ℕ) → IsTable (era w.eras n)
  table_at n = era_has (λ c. IsTable c) w.eras n no_table law.ranges.eras

  pub little_at : (n : ℕ) → HasLittleData w.scale (era w.eras n)
  little_at n = era_has (HasLittleData w.scale) w.eras n
      (no_data w.scale w.contents law.bounds.contents) law.bounds.eras

  -- What a session keeps

  abbrev past : Record → List ℕ → List ℕ → Option (List ℕ)
  past r name key = value_of (era w.eras r.activation) name key

  snapshot_is : (r : Record) (name key : List ℕ) → In r w.sessions
      → fin.get (values_in (rows w) (snapshot_front r.id name)) key
      ≡ cond (is_name key) (cond (has_snapshot w.sessions r) (earlier w name key r) None) None
  snapshot_is r name key h =
      front_value (rows w) (snapshot_front r.id name) key (drop_snapshot r.id name key)
      ∙ ap (λ (o : Option (List ℕ)). cond (is_name key) o None)
      (snapshot_at w law r.id name key (record_id w law r h)
      ∙ ap (λ (o : Option Record). option_and_then (λ (r : Record). cond (has_snapshot w.sessions r)
      (earlier w name key r) None) o) (of_in w.sessions r law.ids.ascend h))

  pre_restore_is : (r : Record) (name key : List ℕ) → In r w.sessions
      → fin.get (values_in (rows w) (pre_restore_front r.id name)) key
      ≡ cond (is_name key) (cond (has_pre_restore r) (earlier w name key r) None) None
  pre_restore_is r name key h =
      front_value (rows w) (pre_restore_front r.id name) key (drop_pre_restore r.id name key)
      ∙ ap (λ (o : Option (List ℕ)). cond (is_name key) o None)
      (pre_restore_at w law r.id name key (record_id w law r h)
      ∙ ap (λ (o : Option Record). option_and_then (λ (r : Record). cond (has_pre_restore r)
      (earlier w name key r) None) o) (of_in w.sessions r law.ids.ascend h))

  past_back : (r : Record) (b : Bool) (name key v : List ℕ)
      → cond (is_name key) (cond b (earlier w name key r) None) None ≡ Some v → past r name key ≡ Some v
  past_back r b name key v e = (some_if (names name r) (past r name key) v
      (some_if b (earlier w name key r) v (some_if (is_name key) (cond b (earlier w name key r) None) v e).1).1).1

  past_there : (r : Record) (b : Bool) (name key v : List ℕ) → b ≡ true → names name r ≡ true
      → past r name key ≡ Some v → cond (is_name key) (cond b (earlier w name key r) None) None ≡ Some v
  past_there r b name key v t n e =
      let known : is_name key ≡ true = (table_at r.activation).second name key v e in
      ap (λ (x : Bool). cond x (cond b (earlier w name key r) None) None) known
      ∙ ap (λ (x : Bool). cond x (earlier w name key r) None) t
      ∙ ap (λ (x : Bool). cond x (past r name key) None) n ∙ e

  abbrev snapshots : List ℕ → Record → List Entry
  snapshots name r = fin.entries (values_in (rows w) (snapshot_front r.id name))

  abbrev pre_restores : List ℕ → Record → List Entry
  pre_restores name r = fin.entries (values_in (rows w) (pre_restore_front r.id name))

  abbrev kept_list : List Record → List ℕ → List Entry
  kept_list ss name = flat_map (snapshots name) ss ++ flat_map (pre_restores name) ss

  -- an entry is of a session's data just before its activation
  kept_entry : (ss : List Record) (name key v : List ℕ) → ((r : Record) → In r ss → In r w.sessions)
      → In (key, v) (kept_list ss name) → (r : Record) × In r ss × (past r name key ≡ Some v)
  kept_entry ss name key v all h =
      elim (in_append (key, v) (flat_map (snapshots name) ss) (flat_map (pre_restores name) ss) h) [
        | inl i ↦
            let (r, j, l) = in_flat_map_back (snapshots name) (key, v) ss i in (
              r,
              j,
              past_back r (has_snapshot w.sessions r) name key v (sym (snapshot_is r name key (all r j))
                  ∙ entry_get (values_in (rows w) (snapshot_front r.id name)) (key, v) l),
            )
        | inr i ↦
            let (r, j, l) = in_flat_map_back (pre_restores name) (key, v) ss i in (
              r,
              j,
              past_back r (has_pre_restore r) name key v (sym (pre_restore_is r name key (all r j))
                  ∙ entry_get (values_in (rows w) (pre_restore_front r.id name)) (key, v) l),
            )
      ]

  kept_found : (ss : List Record) (name key v : List ℕ) → ((r : Record) → In r ss → In r w.sessions)
      → fin.get (kept_of (rows w) ss name) key ≡ Some v → (r : Record) × In r ss × (past r name key ≡ Some v)
  kept_found ss name key v all e = kept_entry ss name key v all
      (entry_found key v (kept_list ss name) (sym (get-from_entries nat_list_cmp_total (kept_list ss name) key) ∙ e))

  -- a session keeps something
  abbrev Keeps : Record → Type 0
  Keeps r = (has_snapshot w.sessions r ≡ true) ⊎ (has_pre_restore r ≡ true)

  in_kept : (ss : List Record) (r : Record) (name key v : List ℕ) → In r ss → In r w.sessions → Keeps r
      → names name r ≡ true → past r name key ≡ Some v → In (key, v) (kept_list ss name)
  in_kept ss r name key v h i (inl k) n e =
      in_left (key, v) (flat_map (snapshots name) ss) (flat_map (pre_restores name) ss)
      (in_flat_map (snapshots name) r (key, v) ss h
      (in_entries (values_in (rows w) (snapshot_front r.id name)) key v (snapshot_is r name key i
      ∙ past_there r (has_snapshot w.sessions r) name key v k n e)))
  in_kept ss r name key v h i (inr k) n e =
      in_right (key, v) (flat_map (snapshots name) ss) (flat_map (pre_restores name) ss)
      (in_flat_map (pre_restores name) r (key, v) ss h
      (in_entries (values_in (rows w) (pre_restore_front r.id name)) key v (pre_restore_is r name key i
      ∙ past_there r (has_pre_restore r) name key v k n e)))

  -- The era of a boot

  abbrev pub at_boot : ℕ → List Record
  at_boot n = activated_at n w.sessions

  in_boot : (n : ℕ) (r : Record) → In r (at_boot n) → In r w.sessions × (r.activation ≡ n)
  in_boot n r h = let (i, e) = in_filter (λ (r : Record). eqb r.activation n) r w.sessions h in
      (i, eqb-true r.activation n e)

  abbrev named_at : List ℕ → ℕ → List Record
  named_at name n = named_in name (at_boot n)

  in_named : (name : List ℕ) (n : ℕ) (r : Record) → In r (named_at name n) → In r (at_boot n) × (names name r ≡ true)
  in_named name n r h = in_filter (names name) r (at_boot n) h

  named_session : (name : List ℕ) (n : ℕ) (r : Record) → In r (named_at name n) → In r w.sessions
  named_session name n r h = (in_boot n r (in_named name n r h).0).0

  kept_back : (n : ℕ) (name key v : List ℕ) → fin.get (kept_of (rows w) (named_at name n) name) key ≡ Some v
      → value_of (era w.eras n) name key ≡ Some v
  kept_back n name key v e =
      let (r, h, f) = kept_found (named_at name n) name key v (named_session name n) e in
      subst (λ (n : ℕ). value_of (era w.eras n) name key ≡ Some v) (in_boot n r (in_named name n r h).0).1 f

  abbrev all_names : ℕ → List (List ℕ)
  all_names n = flat_map (λ r. map (λ p. p.name) r.parts) (at_boot n)

  name_sought : (n : ℕ) (name : List ℕ) → fin.len (kept_of (rows w) (named_at name n) name) ≢ 0 → In name (all_names n)
  name_sought n name d =
      let (key, v, e) = some_value (kept_of (rows w) (named_at name n) name) d in
      let (r, h, f) = kept_found (named_at name n) name key v (named_session name n) e in
      let (i, t) = in_named name n r h in
      let (p, j, s) = any_in (λ (p : Part). bytes_eq p.name name) r.parts t in
      in_flat_map (λ (r : Record). map (λ (p : Part). p.name) r.parts) r name (at_boot n) i
      (subst (λ (x : List ℕ). In x (map (λ (p : Part). p.name) r.parts)) (same_name p.name name s)
      (in_map (λ (p : Part). p.name) p r.parts j))

  abbrev pub opened_at : ℕ → Contents
  opened_at n = era_of (rows w) (at_boot n)

  era_get : (n : ℕ) (name : List ℕ) → fin.get (opened_at n) name ≡ whole (kept_of (rows w) (named_at name n) name)
  era_get n name = folded (λ name. kept_of (rows w) (named_at name n) name) (all_names n) name (name_sought n name)

  era_value : (n : ℕ) (name key : List ℕ) → value_of (opened_at n) name key
      ≡ fin.get (kept_of (rows w) (named_at name n) name) key
  era_value n name key = ap (λ (m : NameMap (List ℕ)). fin.get m key) (ap or_empty (era_get n name)
      ∙ part_whole (kept_of (rows w) (named_at name n) name))

  -- what is opened of an era was there
  pub era_back : (n : ℕ) → HasLess (opened_at n) (era w.eras n)
  era_back n name key v e = kept_back n name key v (sym (era_value n name key) ∙ e)

  -- and what a session keeps of it is opened
  pub era_there : (r : Record) (name key v : List ℕ) → In r w.sessions
      → (has_snapshot w.sessions r ≡ true) ⊎ (has_pre_restore r ≡ true) → names name r ≡ true
      → value_of (era w.eras r.activation) name key ≡ Some v
      → value_of (opened_at r.activation) name key ≡ Some v
  era_there r name key v h k n e =
      let i = filtered (λ (s : Record). eqb s.activation r.activation) r w.sessions h
      (eq-eqb r.activation r.activation refl) in
      let j = filtered (names name) r (at_boot r.activation) i n in
      let (u, f) = some_found key v (kept_list (named_at name r.activation) name)
      (in_kept (named_at name r.activation) r name key v j h k n e) in
      let g : fin.get (kept_of (rows w) (named_at name r.activation) name) key ≡ Some u =
      get-from_entries nat_list_cmp_total (kept_list (named_at name r.activation) name) key ∙ f in
      era_value r.activation name key ∙ g ∙ sym (kept_back r.activation name key u g) ∙ e

  pub era_table : (n : ℕ) → IsTable (opened_at n)
  era_table n = record {
    first = λ a b x e. (table_at n).first a b x (era_back n a b x e);
    second = λ a b x e. (table_at n).second a b x (era_back n a b x e);
    some = λ a. subst (λ (o : Option (NameMap (List ℕ))). IfSome o (λ m. fin.len m ≢ 0)) (sym (era_get n a))
        (whole_if (eqb (fin.len (kept_of (rows w) (named_at a n) a)) 0) (kept_of (rows w) (named_at a n) a) refl);
  }

  pub era_little : (n : ℕ) → HasLittleData w.scale (opened_at n)
  era_little n = little_less (opened_at n) (era w.eras n) (era_table n) (era_back n) w.scale (little_at n)

  -- The eras

  pub eras_each : (P : Contents → Type 0) (m : ℕ) → ((n : ℕ) → P (opened_at n)) → (c : Contents)
      → In c (opened_eras (rows w) w.sessions m) → P c
  eras_each P m all c h = let (n, i, e) = in_map_back opened_at c (range_with_len 1 m) h in subst P e (all n)

  pub era_again : (n m : ℕ) → 1 ≤ n → n ≤ m → era (opened_eras (rows w) w.sessions m) n ≡ opened_at n
  era_again n m l k =
      ap (λ (b : Bool). cond {A = Contents} b fin.empty
      (get_or (opened_eras (rows w) w.sessions m) (n - 1) fin.empty)) (ne_eqb n 0 (λ z. omega (arith, l, z)))
      ∙ get_or-map-range_with_len opened_at 1 m (n - 1) n fin.empty (omega (arith, l, k)) (omega (arith, l))
