-- The rows of a name's data weigh what the data does. Callers want `data_rows_weigh`.
use Rattle.std.proofs.Common.{◌≡◌, ◌≢◌, ℕ, suc, ◌+◌, Bool, true, false, cond, List, [], ◌∷◌, ◌++◌, length, map}
use Rattle.std.proofs.Common.{flat_map, sum, take, drop, Option, Some, sym, ap, subst, ◌∙◌, refl, inl, inr, arith}
use Rattle.std.specs.List.{sum_by}
use Rattle.std.specs.Ordering.{nat_cmp, eq_by_cmp}
use Rattle.std.specs.Cmp.Lexicographic.{slice_cmp}
use Rattle.std.specs.FinMap as fin
use Rattle.std.specs.FinMap.{is_sorted, get-entries}
use Rattle.std.proofs.lemmas.Bool.{and_parts}
use Rattle.std.proofs.lemmas.List.{append-nil, take_at, drop_at}
use Rattle.std.proofs.lemmas.List.Sums.{sum_by-cons, sum_by-append, sum-map}
use Rattle.std.proofs.lemmas.Slice.Eq.{bytes_eq-Decides}
use Rattle.apex_base.specs.Keys.{Key, DataOf, FileOf, WatchOf, key_text, row_of, data_front}
use Rattle.apex_base.specs.Members.{In}
use Rattle.apex_base.specs.RowSums.{entry_weight, is_of_name, data_row_weight, name_weight}
use Rattle.apex_base.specs.Tables.{NameMap, or_empty}
use Rattle.apex_base.proofs.MemberLemmas.{in_map_back, in_flat_map_back}
use Rattle.apex_base.proofs.RowMaps.{below_in, sorted_entries, entry_get, same_bytes, eq_bytes}
use Rattle.apex_base.proofs.RowWeights.{AreOnce, AreLight, once_light, once_append, key_weight}
use Rattle.apex_base.proofs.RowWeights.{light_sum, no_entries}
use Rattle.apex_world.specs.declared.world.Submission.{Submission}
use Rattle.apex_world.specs.Data.{part_weight, data_weight}
use Rattle.apex_world.specs.Lawful.{Lawful}
use Rattle.apex_world.specs.Rows.{row_at, file_keys, rows}
use Rattle.apex_world.specs.World.{World}
use Rattle.world_facts.proofs.facts.RowWeightLemmas.{OfSessions, each_session, table_light, once_map, names_of}
use Rattle.world_facts.proofs.facts.RowWeightLemmas.{middle, key_first, middle_and_data_weigh}

-- Which keys are of a name's data

not_true : (b : Bool) → (b ≡ true → ⊥) → b ≡ false
not_true true d = absurd (d refl)
not_true false d = refl

heads : (a b : ℕ) (xs ys : List ℕ) → a ∷ xs ≡ b ∷ ys → (a ≡ b) × (xs ≡ ys)
heads a b xs ys e = (cc, cc)

take_more : (n x : ℕ) (xs : List ℕ) → take (n + 2) (x ∷ xs) ≡ x ∷ take (n + 1) xs
take_more n x xs = let e : n + 2 ≡ suc (n + 1) = omega arith in ap (λ (k : ℕ). take k (x ∷ xs)) e

take_one : (n x : ℕ) (xs : List ℕ) → take (n + 1) (x ∷ xs) ≡ x ∷ take n xs
take_one n x xs = let e : n + 1 ≡ suc n = omega arith in ap (λ (k : ℕ). take k (x ∷ xs)) e

-- the key of another tag is not
other_tag : (name : List ℕ) (t : ℕ) (rest : List ℕ) → t ≢ 6 → is_of_name name (t ∷ rest) ≡ false
other_tag name t rest d = not_true _ (λ e.
    let same : take (length name + 2) (t ∷ rest) ≡ data_front name [] = (bytes_eq-Decides _ _).0 e in
    d (heads _ _ _ _ (sym (take_more (length name) t rest) ∙ same)).0)

-- nor is that of another name
other_name : (name n key : List ℕ) → n ≢ name → is_of_name name (data_front n key) ≡ false
other_name name n key d = not_true _ (λ e.
    let same : take (length name + 2) (data_front n key) ≡ data_front name [] = (bytes_eq-Decides _ _).0 e in
    let one = (heads _ _ _ _ (sym (take_more (length name) 6 (length n ∷ n ++ key)) ∙ same)).1 in
    let two = heads _ _ _ _ (sym (take_one (length name) (length n) (n ++ key)) ∙ one) in
    d (sym (take_at n key (length name) two.0) ∙ two.1 ∙ append-nil name))

-- its own are
own_name : (name key : List ℕ) → is_of_name name (data_front name key) ≡ true
own_name name key =
    let e : length (6 ∷ length name ∷ name) ≡ length name + 2 = omega arith in
    (bytes_eq-Decides _ _).1 (take_at (6 ∷ length name ∷ name) key (length name + 2) e
    ∙ ap (λ (xs : List ℕ). 6 ∷ length name ∷ xs) (sym (append-nil name)))

own_weight : (name key value : List ℕ) → data_row_weight name (data_front name key, value) ≡ entry_weight key value
own_weight name key value =
    let e : length (6 ∷ length name ∷ name) ≡ length name + 2 = omega arith in
    ap (λ (b : Bool). cond b (entry_weight (drop (length name + 2) (data_front name key)) value) 0) (own_name name key)
    ∙ ap (λ (k : List ℕ). entry_weight k value) (drop_at (6 ∷ length name ∷ name) key (length name + 2) e)

module _ (name : List ℕ) where
  abbrev counted : List ℕ → Bool
  counted key = is_of_name name key

  abbrev g : List ℕ × List ℕ → ℕ
  g row = data_row_weight name row

  light : (k v : List ℕ) → counted k ≡ false → g (k, v) ≡ 0
  light k v e = rw e refl

  sessions_light : OfSessions (λ k. counted (key_text k) ≡ false)
  sessions_light = record {
    record_of = λ id. other_tag name 2 _ (λ e. omega (arith, e));
    active = λ n. other_tag name 3 _ (λ e. omega (arith, e));
    backup = λ n. other_tag name 4 _ (λ e. omega (arith, e));
    snapshot = λ id n key. other_tag name 7 _ (λ e. omega (arith, e));
    pre_restore = λ id n key. other_tag name 8 _ (λ e. omega (arith, e));
  }

  files_light : (ms : List Submission) → AreLight counted g light (flat_map file_keys ms)
  files_light ms k h =
      let (s, i, j) = in_flat_map_back file_keys k ms h in
      let (path, l, e) = in_map_back (λ (path : List ℕ). FileOf s.session s.part path) k (fin.keys s.content) j in
      subst (λ (k : Key). counted (key_text k) ≡ false) e (other_tag name 5 _ (λ e. omega (arith, e)))

  abbrev Entry : Type 0
  Entry = List ℕ × NameMap (List ℕ)

  abbrev keys_under : List Entry → List Key
  keys_under es = flat_map (λ e. map (DataOf e.0) (fin.keys e.1)) es

  -- a name stands once
  once_entries : (es : List Entry) → is_sorted (slice_cmp nat_cmp) es ≡ true → AreOnce counted g light (keys_under es)
  once_entries [] s = tt
  once_entries (e ∷ es) s =
      once_append counted g light (map (DataOf e.0) (fin.keys e.1)) (keys_under es)
      (once_map counted g light (DataOf e.0) (λ a. refl) (fin.entries e.1) (sorted_entries e.1))
      (once_entries es (and_parts _ _ s).1) (λ k h i.
      let (a, j, is) = in_map_back (DataOf e.0) k (fin.keys e.1) h in
      let (f, l, m) = in_flat_map_back (λ (e : Entry). map (DataOf e.0) (fin.keys e.1)) k es i in
      let (b, n, was) = in_map_back (DataOf f.0) k (fin.keys f.1) m in
      absurd (below_in e.0 es f (and_parts _ _ s).0 l (ap key_first (is ∙ sym was))))

  module _ (w : World) (law : Lawful w) where
    abbrev row_weight : Key → ℕ
    row_weight k = key_weight counted g light (row_at w) k

    value_weighs : (a : List ℕ) (m : NameMap (List ℕ)) (e : List ℕ × List ℕ) → fin.get w.contents a ≡ Some m
        → In e (fin.entries m) → row_weight (DataOf a e.0) ≡ g (data_front a e.0, e.1)
    value_weighs a m e f h =
        let value : row_at w (DataOf a e.0) ≡ Some e.1 =
        ap (λ (o : Option (NameMap (List ℕ))). fin.get (or_empty o) e.0) f ∙ entry_get m e h in
        let one = sum_by-cons g (data_front a e.0, e.1) [] in
        ap (λ (o : Option (List ℕ)). sum_by g (row_of (DataOf a e.0) o)) value ∙ omega (arith, one)

    own_sum : (m : NameMap (List ℕ)) (es : List (List ℕ × List ℕ)) → fin.get w.contents name ≡ Some m
        → ((e : List ℕ × List ℕ) → In e es → In e (fin.entries m))
        → sum_by row_weight (map (DataOf name) (names_of es))
        ≡ sum_by (λ (e : List ℕ × List ℕ). entry_weight e.0 e.1) es
    own_sum m [] f h = refl
    own_sum m (e ∷ es) f h =
        let a = sum_by-cons row_weight (DataOf name e.0) (map (DataOf name) (names_of es)) in
        let b = sum_by-cons (λ (e : List ℕ × List ℕ). entry_weight e.0 e.1) e es in
        let c : row_weight (DataOf name e.0) ≡ entry_weight e.0 e.1 = value_weighs name m e f (h e (inl refl))
        ∙ own_weight name e.0 e.1 in
        let d = own_sum m es f (λ x i. h x (inr i)) in
        omega (arith, a, b, c, d)

    own_part : (m : NameMap (List ℕ)) → fin.get w.contents name ≡ Some m
        → sum_by row_weight (map (DataOf name) (fin.keys m)) ≡ part_weight m
    own_part m f = own_sum m (fin.entries m) f (λ e h. h)
        ∙ sym (sum-map (λ (e : List ℕ × List ℕ). entry_weight e.0 e.1) (fin.entries m))

    others_light : (es : List Entry) → ((e : Entry) → In e es → e.0 ≢ name) → AreLight counted g light (keys_under es)
    others_light es d k h =
        let (e, i, j) = in_flat_map_back (λ (e : Entry). map (DataOf e.0) (fin.keys e.1)) k es h in
        let (b, l, is) = in_map_back (DataOf e.0) k (fin.keys e.1) j in
        subst (λ (k : Key). counted (key_text k) ≡ false) is (other_name name e.0 b (d e i))

    entry_sum : (b : Bool) (e : Entry) (es : List Entry) → eq_by_cmp (slice_cmp nat_cmp) name e.0 ≡ b
        → In e (fin.entries w.contents) → ((f : Entry) → In f es → e.0 ≢ f.0)
        → sum_by row_weight (keys_under es) ≡ part_weight (or_empty (fin.find (slice_cmp nat_cmp) name es))
        → sum_by row_weight (map (DataOf e.0) (fin.keys e.1)) + sum_by row_weight (keys_under es)
        ≡ part_weight (or_empty (cond b (Some e.1) (fin.find (slice_cmp nat_cmp) name es)))
    entry_sum true e es is h apart more =
        let same : name ≡ e.0 = same_bytes name e.0 is in
        let first : sum_by row_weight (map (DataOf e.0) (fin.keys e.1)) ≡ part_weight e.1 =
        ap (λ (n : List ℕ). sum_by row_weight (map (DataOf n) (fin.keys e.1))) (sym same)
        ∙ own_part e.1 (ap (λ (n : List ℕ). fin.get w.contents n) same ∙ entry_get w.contents e h) in
        let rest = light_sum counted g light (row_at w) (keys_under es)
        (others_light es (λ f i s. apart f i (sym same ∙ sym s))) in
        omega (arith, first, rest)
    entry_sum false e es is h apart more =
        let other : e.0 ≢ name = λ s. absurd (cc (
          is,
          ap (λ (n : List ℕ). eq_by_cmp (slice_cmp nat_cmp) name n) s,
          eq_bytes name,
        )) in
        let first = light_sum counted g light (row_at w) (keys_under (e ∷ [])) (others_light (e ∷ []) (λ f i. elim i [
          | inl s ↦ λ t. other (ap (λ (e : Entry). e.0) s ∙ t)
          | inr n ↦ absurd n
        ])) in
        let one = sum_by-append row_weight (map (DataOf e.0) (fin.keys e.1)) [] in
        omega (arith, first, one, more)

    entries_sum : (es : List Entry) → is_sorted (slice_cmp nat_cmp) es ≡ true
        → ((e : Entry) → In e es → In e (fin.entries w.contents))
        → sum_by row_weight (keys_under es) ≡ part_weight (or_empty (fin.find (slice_cmp nat_cmp) name es))
    entries_sum [] s h = ap (λ (es : List (List ℕ × List ℕ)). sum
        (map (λ (e : List ℕ × List ℕ). entry_weight e.0 e.1) es)) (sym no_entries)
    entries_sum (e ∷ es) s h =
        sum_by-append row_weight (map (DataOf e.0) (fin.keys e.1)) (keys_under es)
        ∙ entry_sum (eq_by_cmp (slice_cmp nat_cmp) name e.0) e es refl (h e (inl refl))
        (λ f i. below_in e.0 es f (and_parts _ _ s).0 i) (entries_sum es (and_parts _ _ s).1 (λ f i. h f (inr i)))

    -- the rows of the name's data weigh what the data does
    pub data_rows_weigh : name_weight (rows w) name ≡ data_weight w.contents name
    data_rows_weigh =
        let front_light = each_session (λ k. counted (key_text k) ≡ false) sessions_light w.eras w.sessions in
        let middle_light = files_light w.modules in
        let watch_light = table_light counted WatchOf w.watches (λ a b. other_tag name 9 _ (λ e. omega (arith, e))) in
        let a = middle_and_data_weigh w law counted g light (other_tag name 1 [] (λ e. omega (arith, e))) front_light
        watch_light (once_light counted g light (middle w) middle_light)
        (once_entries (fin.entries w.contents) (sorted_entries w.contents)) (λ k h i. middle_light k h) in
        let b = light_sum counted g light (row_at w) (middle w) middle_light in
        let c = entries_sum (fin.entries w.contents) (sorted_entries w.contents) (λ e h. h)
        ∙ ap (λ (o : Option (NameMap (List ℕ))). part_weight (or_empty o)) (sym (get-entries w.contents name)) in
        omega (arith, a, b, c)
