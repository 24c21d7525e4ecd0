-- Rows by their keys, and maps of names that are tabulated. Callers want `rows_at`, `rows_found`, `same_rows`,
-- `tabulated` and `in_ends`.
use Rattle.std.proofs.Common.{T, ◌≡◌, ℕ, Bool, true, false, cond, List, [], ◌∷◌, ◌++◌, flat_map, drop, Option, Some}
use Rattle.std.proofs.Common.{None, sym, ap, subst, ◌∙◌, refl, inl, inr}
use Rattle.std.specs.Ordering.{nat_cmp, eq_by_cmp, is_lt, is_eq}
use Rattle.std.specs.declared.cmp.Ordering.{Ordering}
use Rattle.std.specs.declared.cmp.Ordering.TheVariants.{Less, Equal, Greater}
use Rattle.std.specs.Cmp.Lexicographic.{slice_cmp, nat_list_cmp_total}
use Rattle.std.specs.FinMap as fin
use Rattle.std.specs.FinMap.{is_sorted, entries_sorted, same_map, slice_cmp-IsAntisymmetric, nat_cmp-IsAntisymmetric}
use Rattle.std.specs.FinMap.{get-entries, get-from_entries}
use Rattle.std.specs.FinMap.Entries.{below_all}
use Rattle.std.proofs.lemmas.Bool.{and_parts}
use Rattle.std.proofs.lemmas.Map.Text.{is_eq-slice_cmp}
use Rattle.std.proofs.lemmas.Slice.Eq.{bytes_eq-Decides}
use Rattle.apex_base.specs.Keys.{Key, IsKey, key_text, RowMap, row_of, rows_by, pair_of, tabulate, ends_of}
use Rattle.apex_base.specs.Members.{In}
use Rattle.apex_base.specs.Tables.{NameMap}
use Rattle.apex_base.proofs.KeyLemmas.{same_key}
use Rattle.apex_base.proofs.MemberLemmas.{in_map}

-- Names

pub same_bytes : (a b : List ℕ) → eq_by_cmp (slice_cmp nat_cmp) a b ≡ true → a ≡ b
same_bytes a b e = (bytes_eq-Decides a b).0 (sym (is_eq-slice_cmp a b) ∙ e)

pub eq_bytes : (a : List ℕ) → eq_by_cmp (slice_cmp nat_cmp) a a ≡ true
eq_bytes a = is_eq-slice_cmp a a ∙ (bytes_eq-Decides a a).1 refl

pub same_names : {X : Type 0} (m n : NameMap X) → ((q : List ℕ) → fin.get m q ≡ fin.get n q) → m ≡ n
same_names = same_map nat_list_cmp_total (slice_cmp-IsAntisymmetric nat_cmp-IsAntisymmetric)

-- The entries of a map

is_T : (b : Bool) → T b → b ≡ true
is_T true t = refl
is_T false t = absurd t

is_less : (o : Ordering) → is_lt o ≡ true → o ≡ Less
is_less Less e = refl
is_less Equal e = absurd (cc)
is_less Greater e = absurd (cc)

is_equal : (o : Ordering) → is_eq o ≡ true → o ≡ Equal
is_equal Less e = absurd (cc)
is_equal Equal e = refl
is_equal Greater e = absurd (cc)

less_not : (a b : List ℕ) → slice_cmp nat_cmp a b ≡ Less → a ≡ b → ⊥
less_not a b e same = let f : slice_cmp nat_cmp a b ≡ Equal =
    is_equal (slice_cmp nat_cmp a b) (ap (λ (x : List ℕ). eq_by_cmp (slice_cmp nat_cmp) a x) (sym same)
    ∙ eq_bytes a) in absurd (cc (e, f))

module _ {X : Type 0} where
  -- a key below all others isn't among them
  pub below_in : (k : List ℕ) (es : List (List ℕ × X)) (e : List ℕ × X) → below_all (slice_cmp nat_cmp) k es ≡ true
      → In e es → k ≡ e.0 → ⊥
  below_in k [] e b h = absurd h
  below_in k (x ∷ es) e b (inl same) = λ f. less_not k x.0 (is_less (slice_cmp nat_cmp k x.0) (and_parts _ _ b).0)
      (f ∙ ap (λ (r : List ℕ × X). r.0) (sym same))
  below_in k (x ∷ es) e b (inr h) = below_in k es e (and_parts _ _ b).1 h

  eq_or : (b : Bool) (k x : List ℕ) (v : X) (rest : Option X) (o : Option X) → eq_by_cmp (slice_cmp nat_cmp) k x ≡ b
      → (k ≡ x → ⊥) → rest ≡ o → cond b (Some v) rest ≡ o
  eq_or true k x v rest o e d f = absurd (d (same_bytes k x e))
  eq_or false k x v rest o e d f = f

  found_in : (es : List (List ℕ × X)) (e : List ℕ × X) → is_sorted (slice_cmp nat_cmp) es ≡ true → In e es
      → fin.find (slice_cmp nat_cmp) e.0 es ≡ Some e.1
  found_in [] e s h = absurd h
  found_in (x ∷ es) e s (inl same) = subst (λ (r : List ℕ × X). fin.find (slice_cmp nat_cmp) r.0 (x ∷ es)
      ≡ Some r.1) same (rw (eq_bytes x.0) refl)
  found_in (x ∷ es) e s (inr h) = eq_or (eq_by_cmp (slice_cmp nat_cmp) e.0 x.0) e.0 x.0 x.1
      (fin.find (slice_cmp nat_cmp) e.0 es) (Some e.1) refl (λ f. below_in x.0 es e (and_parts _ _ s).0 h (sym f))
      (found_in es e (and_parts _ _ s).1 h)

  pub sorted_entries : (m : NameMap X) → is_sorted (slice_cmp nat_cmp) (fin.entries m) ≡ true
  sorted_entries m = is_T _ (entries_sorted m)

  -- an entry is found under its key
  pub entry_get : (m : NameMap X) (e : List ℕ × X) → In e (fin.entries m) → fin.get m e.0 ≡ Some e.1
  entry_get m e h = get-entries m e.0 ∙ found_in (fin.entries m) e (sorted_entries m) h

  entry_if : (b : Bool) (k : List ℕ) (v : X) (e : List ℕ × X) (es : List (List ℕ × X))
      → eq_by_cmp (slice_cmp nat_cmp) k e.0 ≡ b
      → cond b (Some e.1) (fin.find (slice_cmp nat_cmp) k es) ≡ Some v
      → (fin.find (slice_cmp nat_cmp) k es ≡ Some v → In (k, v) es) → In (k, v) (e ∷ es)
  entry_if true k v e es same f more =
      let b : e.1 ≡ v = cc in
      inl (ap (λ (x : List ℕ). (x, e.1)) (sym (same_bytes k e.0 same)) ∙ ap (λ (y : X). (k, y)) b)
  entry_if false k v e es same f more = inr (more f)

  pub entry_found : (k : List ℕ) (v : X) (es : List (List ℕ × X)) → fin.find (slice_cmp nat_cmp) k es ≡ Some v
      → In (k, v) es
  entry_found k v [] f = absurd (cc)
  entry_found k v (e ∷ es) f = entry_if (eq_by_cmp (slice_cmp nat_cmp) k e.0) k v e es refl f (entry_found k v es)

  -- what is found under a key is an entry
  pub in_entries : (m : NameMap X) (k : List ℕ) (v : X) → fin.get m k ≡ Some v → In (k, v) (fin.entries m)
  in_entries m k v e = entry_found k v (fin.entries m) (sym (get-entries m k) ∙ e)

  -- and its key is a key
  pub in_keys : (m : NameMap X) (k : List ℕ) (v : X) → fin.get m k ≡ Some v → In k (fin.keys m)
  in_keys m k v e = in_map (λ (r : List ℕ × X). r.0) (k, v) (fin.entries m) (in_entries m k v e)

-- what follows the first bytes of a key that has a row
pub in_ends : (n : ℕ) (rows : RowMap) (key value : List ℕ) → fin.get rows key ≡ Some value
    → In (drop n key) (ends_of n rows)
in_ends n rows key value e = in_map (drop n) key (fin.keys rows) (in_keys rows key value e)

-- Maps that are tabulated

module _ {X : Type 0} (value : List ℕ → Option X) where
  abbrev pairs : List (List ℕ) → List (List ℕ × X)
  pairs names = flat_map (λ name. pair_of name (value name)) names

  pair_here : (b : Bool) (q name : List ℕ) (v u : X) (rest : Option X) → eq_by_cmp (slice_cmp nat_cmp) q name ≡ b
      → value name ≡ Some u → cond b (Some u) rest ≡ Some v → (rest ≡ Some v → value q ≡ Some v) → value q ≡ Some v
  pair_here true q name v u rest same e f more = ap value (same_bytes q name same) ∙ e ∙ f
  pair_here false q name v u rest same e f more = more f

  pair_if : (q name : List ℕ) (v : X) (names : List (List ℕ)) (o : Option X) → value name ≡ o
      → fin.find (slice_cmp nat_cmp) q (pair_of name o ++ pairs names) ≡ Some v
      → (fin.find (slice_cmp nat_cmp) q (pairs names) ≡ Some v → value q ≡ Some v) → value q ≡ Some v
  pair_if q name v names None e f more = more f
  pair_if q name v names (Some u) e f more = pair_here (eq_by_cmp (slice_cmp nat_cmp) q name) q name v u
      (fin.find (slice_cmp nat_cmp) q (pairs names)) refl e f more

  pair_found : (q : List ℕ) (v : X) (names : List (List ℕ)) → fin.find (slice_cmp nat_cmp) q (pairs names) ≡ Some v
      → value q ≡ Some v
  pair_found q v [] f = absurd (cc)
  pair_found q v (name ∷ names) f = pair_if q name v names (value name) refl f (pair_found q v names)

  here_or : (b : Bool) (q name : List ℕ) (v u : X) (rest : Option X) → eq_by_cmp (slice_cmp nat_cmp) q name ≡ b
      → value q ≡ Some v → value name ≡ Some u → rest ≡ Some v → cond b (Some u) rest ≡ Some v
  here_or true q name v u rest same e f more = sym f ∙ ap value (sym (same_bytes q name same)) ∙ e
  here_or false q name v u rest same e f more = more

  in_rest : (q name : List ℕ) (v : X) (names : List (List ℕ)) (o : Option X) → value q ≡ Some v → value name ≡ o
      → fin.find (slice_cmp nat_cmp) q (pairs names) ≡ Some v
      → fin.find (slice_cmp nat_cmp) q (pair_of name o ++ pairs names) ≡ Some v
  in_rest q name v names None e f more = more
  in_rest q name v names (Some u) e f more = here_or (eq_by_cmp (slice_cmp nat_cmp) q name) q name v u
      (fin.find (slice_cmp nat_cmp) q (pairs names)) refl e f more

  in_here : (q : List ℕ) (v : X) (names : List (List ℕ))
      → fin.find (slice_cmp nat_cmp) q (pair_of q (Some v) ++ pairs names) ≡ Some v
  in_here q v names = rw (eq_bytes q) refl

  found_pair : (q : List ℕ) (v : X) (names : List (List ℕ)) → value q ≡ Some v → In q names
      → fin.find (slice_cmp nat_cmp) q (pairs names) ≡ Some v
  found_pair q v [] e h = absurd h
  found_pair q v (name ∷ names) e (inl same) = rw (same, e) (in_here q v names)
  found_pair q v (name ∷ names) e (inr h) = in_rest q name v names (value name) e refl (found_pair q v names e h)

  table_if : (names : List (List ℕ)) (q : List ℕ) (o f : Option X) → value q ≡ o
      → fin.get {R = slice_cmp nat_cmp} (tabulate names value) q ≡ f → ((v : X) → value q ≡ Some v → In q names) → f ≡ o
  table_if names q (Some v) f e g all = sym g ∙ get-from_entries nat_list_cmp_total (pairs names) q
      ∙ found_pair q v names e (all v e)
  table_if names q None None e g all = refl
  table_if names q None (Some v) e g all = absurd (cc (
    e,
    pair_found q v names (sym (get-from_entries nat_list_cmp_total (pairs names) q) ∙ g),
  ))

  -- a map of names has what each has, where it is of all names that have something
  pub tabulated : (names : List (List ℕ)) (q : List ℕ) → ((v : X) → value q ≡ Some v → In q names)
      → fin.get {R = slice_cmp nat_cmp} (tabulate names value) q ≡ value q
  tabulated names q all = table_if names q (value q) (fin.get {R = slice_cmp nat_cmp} (tabulate names value) q) refl
      refl all

-- Rows

module _ (value : Key → Option (List ℕ)) where
  abbrev rows_list : List Key → List (List ℕ × List ℕ)
  rows_list ks = flat_map (λ k. row_of k (value k)) ks

  abbrev Found : List ℕ → List ℕ → List Key → Type 0
  Found q v ks = (t : Key) × In t ks × (q ≡ key_text t) × (value t ≡ Some v)

  row_here : (b : Bool) (q v u : List ℕ) (k : Key) (ks : List Key)
      → eq_by_cmp (slice_cmp nat_cmp) q (key_text k) ≡ b → value k ≡ Some u
      → cond b (Some u) (fin.find (slice_cmp nat_cmp) q (rows_list ks)) ≡ Some v
      → (fin.find (slice_cmp nat_cmp) q (rows_list ks) ≡ Some v → Found q v ks) → Found q v (k ∷ ks)
  row_here true q v u k ks same e f more = (k, inl refl, same_bytes q (key_text k) same, e ∙ f)
  row_here false q v u k ks same e f more = let (t, i, is, has) = more f in (t, inr i, is, has)

  row_if : (q v : List ℕ) (k : Key) (ks : List Key) (o : Option (List ℕ)) → value k ≡ o
      → fin.find (slice_cmp nat_cmp) q (row_of k o ++ rows_list ks) ≡ Some v
      → (fin.find (slice_cmp nat_cmp) q (rows_list ks) ≡ Some v → Found q v ks) → Found q v (k ∷ ks)
  row_if q v k ks None e f more = let (t, i, is, has) = more f in (t, inr i, is, has)
  row_if q v k ks (Some u) e f more = row_here (eq_by_cmp (slice_cmp nat_cmp) q (key_text k)) q v u k ks refl e f more

  -- what is found is the value of a key
  pub found_row : (q v : List ℕ) (ks : List Key) → fin.find (slice_cmp nat_cmp) q (rows_list ks) ≡ Some v
      → (t : Key) × In t ks × (q ≡ key_text t) × (value t ≡ Some v)
  found_row q v [] f = absurd (cc)
  found_row q v (k ∷ ks) f = row_if q v k ks (value k) refl f (found_row q v ks)

  row_or : (b : Bool) (t k : Key) (v u : List ℕ) (rest : Option (List ℕ))
      → eq_by_cmp (slice_cmp nat_cmp) (key_text t) (key_text k) ≡ b → IsKey t → IsKey k → value t ≡ Some v
      → value k ≡ Some u → rest ≡ Some v → cond b (Some u) rest ≡ Some v
  row_or true t k v u rest same a b e f more = let one =
      same_key t k a b (same_bytes (key_text t) (key_text k) same) in sym f ∙ ap value (sym one) ∙ e
  row_or false t k v u rest same a b e f more = more

  row_later : (t k : Key) (v : List ℕ) (ks : List Key) (o : Option (List ℕ)) → IsKey t → IsKey k → value t ≡ Some v
      → value k ≡ o → fin.find (slice_cmp nat_cmp) (key_text t) (rows_list ks) ≡ Some v
      → fin.find (slice_cmp nat_cmp) (key_text t) (row_of k o ++ rows_list ks) ≡ Some v
  row_later t k v ks None a b e f more = more
  row_later t k v ks (Some u) a b e f more = row_or (eq_by_cmp (slice_cmp nat_cmp) (key_text t) (key_text k)) t k v
      u (fin.find (slice_cmp nat_cmp) (key_text t) (rows_list ks)) refl a b e f more

  row_first : (t : Key) (v : List ℕ) (ks : List Key) → fin.find (slice_cmp nat_cmp) (key_text t)
      (row_of t (Some v) ++ rows_list ks) ≡ Some v
  row_first t v ks = rw (eq_bytes (key_text t)) refl

  -- the value of a key is found
  pub row_found : (t : Key) (v : List ℕ) (ks : List Key) → IsKey t → ((k : Key) → In k ks → IsKey k)
      → value t ≡ Some v → In t ks → fin.find (slice_cmp nat_cmp) (key_text t) (rows_list ks) ≡ Some v
  row_found t v [] a b e h = absurd h
  row_found t v (k ∷ ks) a b e (inl same) = rw (same, e) (row_first t v ks)
  row_found t v (k ∷ ks) a b e (inr h) = row_later t k v ks (value k) a (b k (inl refl)) e refl
      (row_found t v ks a (λ k i. b k (inr i)) e h)

-- the keys have each key that has a value, and none but those whose numbers have their width
pub record AreKeys (keys : List Key) (value : Key → Option (List ℕ)) : Type 0 where
  pub keyed : (k : Key) → In k keys → IsKey k
  pub all : (k : Key) (v : List ℕ) → IsKey k → value k ≡ Some v → In k keys

module _ (keys : List Key) (value : Key → Option (List ℕ)) (are : AreKeys keys value) where
  -- whatever is found in the rows is the value of a key
  pub rows_found : (q v : List ℕ) → fin.get (rows_by keys value) q ≡ Some v
      → (t : Key) × IsKey t × (q ≡ key_text t) × (value t ≡ Some v)
  rows_found q v e =
      let (t, i, is, has) = found_row value q v keys (sym
      (get-from_entries nat_list_cmp_total (rows_list value keys) q) ∙ e) in
      (t, are.keyed t i, is, has)

  at_if : (t : Key) → IsKey t → (o f : Option (List ℕ)) → value t ≡ o
      → fin.get (rows_by keys value) (key_text t) ≡ f → f ≡ o
  at_if t a (Some v) f e g = sym g ∙ get-from_entries nat_list_cmp_total (rows_list value keys) (key_text t)
      ∙ row_found value t v keys a are.keyed e (are.all t v a e)
  at_if t a None None e g = refl
  at_if t a None (Some v) e g = let (u, b, is, has) = rows_found (key_text t) v g in
      let same = same_key t u a b is in absurd (cc (e, has, ap value same))

  -- at each key the rows have its value
  pub rows_at : (t : Key) → IsKey t → fin.get (rows_by keys value) (key_text t) ≡ value t
  rows_at t a = at_if t a (value t) (fin.get (rows_by keys value) (key_text t)) refl refl

-- rows agree where the keys of these bytes have the same values
same_if : (keys keys' : List Key) (value value' : Key → Option (List ℕ)) → AreKeys keys value → AreKeys keys' value'
    → (q : List ℕ) → ((t : Key) → IsKey t → value t ≡ value' t)
    → (a b : Option (List ℕ)) → fin.get (rows_by keys value) q ≡ a → fin.get (rows_by keys' value') q ≡ b → a ≡ b
same_if keys keys' value value' are are' q same (Some v) b e f =
    let (t, k, is, has) = rows_found keys value are q v e in
    let at_t : fin.get (rows_by keys' value') q ≡ value' t = ap (fin.get (rows_by keys' value')) is
    ∙ rows_at keys' value' are' t k in
    cc (at_t, f, has, same t k)
same_if keys keys' value value' are are' q same None (Some v) e f =
    let (t, k, is, has) = rows_found keys' value' are' q v f in
    let at_t : fin.get (rows_by keys value) q ≡ value t = ap (fin.get (rows_by keys value)) is
    ∙ rows_at keys value are t k in
    cc (at_t, e, has, same t k)
same_if keys keys' value value' are are' q same None None e f = refl

-- rows whose keys have the same values are the same
pub same_rows : (keys keys' : List Key) (value value' : Key → Option (List ℕ)) → AreKeys keys value
    → AreKeys keys' value' → ((t : Key) → IsKey t → value t ≡ value' t) → rows_by keys value ≡ rows_by keys' value'
same_rows keys keys' value value' are are' same = same_names _ _
    (λ q. same_if keys keys' value value' are are' q same _ _ refl refl)
