-- A sum over rows is the sum over their keys, where the keys of the rows that weigh something differ. Callers want
-- `rows_weight`, `once_append`, `once_light` and `light_sum`.
use Rattle.std.proofs.Common.{◌≡◌, ℕ, ◌+◌, Bool, true, false, List, [], ◌∷◌, ◌++◌, flat_map, Option, Some, None, sym}
use Rattle.std.proofs.Common.{ap, subst, ◌∙◌, refl, inl, inr, ◌⊎◌, arith}
use Rattle.std.specs.List.{sum_by}
use Rattle.std.specs.declared.cmp.Ordering.{Ordering}
use Rattle.std.specs.declared.cmp.Ordering.TheVariants.{Less, Equal, Greater}
use Rattle.std.specs.Ordering.{nat_cmp}
use Rattle.std.specs.Cmp.Lexicographic.{slice_cmp, nat_list_cmp_total}
use Rattle.std.specs.FinMap as fin
use Rattle.std.specs.FinMap.{get-entries, get-from_entries, entries-insert, slice_cmp-IsAntisymmetric}
use Rattle.std.specs.FinMap.{nat_cmp-IsAntisymmetric, len-entries, len-empty}
use Rattle.std.specs.FinMap.Entries.{by_order, put}
use Rattle.std.proofs.lemmas.Bool.{false≢true}
use Rattle.std.proofs.lemmas.List.Sums.{sum_by-cons, sum_by-append}
use Rattle.std.specs.Prelude.{length}
use Rattle.apex_base.specs.Keys.{Key, IsKey, key_text, row_of, rows_by}
use Rattle.apex_base.specs.Members.{In}
use Rattle.apex_base.proofs.KeyLemmas.{same_key}
use Rattle.apex_base.proofs.MemberLemmas.{in_append}
use Rattle.apex_base.proofs.RowMaps.{found_row}

abbrev Row : Type 0
Row = List ℕ × List ℕ

nil_of : {X : Type 0} (xs : List X) → length xs ≡ 0 → xs ≡ []
nil_of [] e = refl
nil_of (x ∷ xs) e = absurd (omega arith)

pub no_entries : ◌≡◌ {A = List Row} (fin.entries {R = slice_cmp nat_cmp} fin.empty) []
no_entries = nil_of _ (sym (len-entries {R = slice_cmp nat_cmp} fin.empty) ∙ len-empty (slice_cmp nat_cmp) (List ℕ))

-- rows weigh what g says, and nothing where the key isn't counted
module _ (counted : List ℕ → Bool) (g : Row → ℕ) (light : (k v : List ℕ) → counted k ≡ false → g (k, v) ≡ 0) where
  -- a key that isn't counted, or is new
  abbrev Counts : List ℕ → List Row → Type 0
  Counts k es = (counted k ≡ false) ⊎ (fin.find (slice_cmp nat_cmp) k es ≡ None)

  put_if : (o : Ordering) (k v : List ℕ) (e : Row) (es : List Row) → slice_cmp nat_cmp k e.0 ≡ o → Counts k (e ∷ es)
      → (Counts k es → sum_by g (put (slice_cmp nat_cmp) k v es) ≡ g (k, v) + sum_by g es)
      → sum_by g (by_order o ((k, v) ∷ e ∷ es) ((e.0, v) ∷ es) (e ∷ put (slice_cmp nat_cmp) k v es))
      ≡ g (k, v) + sum_by g (e ∷ es)
  put_if Less k v e es is c more = sum_by-cons g (k, v) (e ∷ es)
  put_if Equal k v e es is (inl none) more =
      let same : k ≡ e.0 = slice_cmp-IsAntisymmetric nat_cmp-IsAntisymmetric k e.0 is in
      let none' : counted e.0 ≡ false = ap counted (sym same) ∙ none in
      let a = sum_by-cons g (e.0, v) es in
      let b = sum_by-cons g e es in
      let x = light e.0 v none' in
      let y : g e ≡ 0 = light e.0 e.1 none' in
      let z = light k v none in
      omega (arith, a, b, x, y, z)
  put_if Equal k v e es is (inr none) more = let found : fin.find (slice_cmp nat_cmp) k (e ∷ es) ≡ Some e.1 =
      rw is refl in absurd (cc (none, found))
  put_if Greater k v e es is c more =
      let smaller : Counts k es = elim c [
        | inl none ↦ inl none
        | inr none ↦ inr (rw is at none)
      ] in
      let r = more smaller in
      let a = sum_by-cons g e (put (slice_cmp nat_cmp) k v es) in
      let b = sum_by-cons g e es in
      omega (arith, r, a, b)

  put_sum : (k v : List ℕ) (es : List Row) → Counts k es
      → sum_by g (put (slice_cmp nat_cmp) k v es) ≡ g (k, v) + sum_by g es
  put_sum k v [] c = sum_by-cons g (k, v) []
  put_sum k v (e ∷ es) c = put_if (slice_cmp nat_cmp k e.0) k v e es refl c (put_sum k v es)

  abbrev AllCount : List Row → Type 0
  AllCount [] = Unit {0}
  AllCount (e ∷ es) = Counts e.0 es × AllCount es

  map_sum : (es : List Row) → AllCount es → sum_by g (fin.entries {R = slice_cmp nat_cmp} (fin.from_entries es))
      ≡ sum_by g es
  map_sum [] a = ap (sum_by g) no_entries
  map_sum (e ∷ es) a =
      let there : fin.find (slice_cmp nat_cmp) e.0 (fin.entries {R = slice_cmp nat_cmp} (fin.from_entries es))
      ≡ fin.find (slice_cmp nat_cmp) e.0 es =
      sym (get-entries (fin.from_entries {R = slice_cmp nat_cmp} es) e.0)
      ∙ get-from_entries nat_list_cmp_total es e.0 in
      let count : Counts e.0 (fin.entries {R = slice_cmp nat_cmp} (fin.from_entries es)) = elim a.0 [
        | inl none ↦ inl none
        | inr none ↦ inr (there ∙ none)
      ] in
      let p = put_sum e.0 e.1 (fin.entries {R = slice_cmp nat_cmp} (fin.from_entries es)) count in
      let r = map_sum es a.1 in
      let i = ap (sum_by g) (entries-insert nat_list_cmp_total (fin.from_entries {R = slice_cmp nat_cmp} es) e.0 e.1) in
      let c = sum_by-cons g e es in
      omega (arith, p, r, i, c)

  -- keys that are counted stand once
  abbrev pub AreOnce : List Key → Type 0
  AreOnce [] = Unit {0}
  AreOnce (k ∷ ks) = ((counted (key_text k) ≡ false) ⊎ ((t : Key) → In t ks → t ≡ k → ⊥)) × AreOnce ks

  -- none of these is counted
  abbrev pub AreLight : List Key → Type 0
  AreLight ks = (k : Key) → In k ks → counted (key_text k) ≡ false

  pub once_light : (ks : List Key) → AreLight ks → AreOnce ks
  once_light [] a = tt
  once_light (k ∷ ks) a = (inl (a k (inl refl)), once_light ks (λ t h. a t (inr h)))

  first_once : (b : Bool) (k : Key) (xs ys : List Key) → counted (key_text k) ≡ b
      → (counted (key_text k) ≡ false) ⊎ ((t : Key) → In t xs → t ≡ k → ⊥) → (In k ys → counted (key_text k) ≡ false)
      → (counted (key_text k) ≡ false) ⊎ ((t : Key) → In t (xs ++ ys) → t ≡ k → ⊥)
  first_once false k xs ys is a apart = inl is
  first_once true k xs ys is (inl e) apart = inl e
  first_once true k xs ys is (inr once) apart = inr (λ t h same. elim (in_append t xs ys h) [
    | inl i ↦ once t i same
    | inr i ↦ absurd (false≢true (sym (apart (subst (λ (s : Key). In s ys) same i)) ∙ is))
  ])

  pub once_append : (xs ys : List Key) → AreOnce xs → AreOnce ys
      → ((k : Key) → In k xs → In k ys → counted (key_text k) ≡ false) → AreOnce (xs ++ ys)
  once_append [] ys a b apart = b
  once_append (x ∷ xs) ys a b apart = (
    first_once (counted (key_text x)) x xs ys refl a.0 (apart x (inl refl)),
    once_append xs ys a.1 b (λ k h i. apart k (inr h) i),
  )

  module _ (value : Key → Option (List ℕ)) where
    abbrev list_of : List Key → List Row
    list_of ks = flat_map (λ k. row_of k (value k)) ks

    not_found : (k : Key) (ks : List Key) (o : Option (List ℕ)) → IsKey k → ((t : Key) → In t ks → IsKey t)
        → ((t : Key) → In t ks → t ≡ k → ⊥) → fin.find (slice_cmp nat_cmp) (key_text k) (list_of ks) ≡ o → o ≡ None
    not_found k ks None a b d e = refl
    not_found k ks (Some v) a b d e = let (t, i, is, has) = found_row value (key_text k) v ks e in
        absurd (d t i (sym (same_key k t a (b t i) is)))

    counts_if : (k : Key) (o : Option (List ℕ)) (ks : List Key) → Counts (key_text k) (list_of ks)
        → AllCount (list_of ks) → AllCount (row_of k o ++ list_of ks)
    counts_if k None ks c a = a
    counts_if k (Some v) ks c a = (c, a)

    all_count : (ks : List Key) → ((k : Key) → In k ks → IsKey k) → AreOnce ks → AllCount (list_of ks)
    all_count [] b a = tt
    all_count (k ∷ ks) b a =
        counts_if k (value k) ks (elim a.0 [
          | inl none ↦ inl none
          | inr once ↦ inr (not_found k ks _ (b k (inl refl)) (λ t h. b t (inr h)) once refl)
        ]) (all_count ks (λ t h. b t (inr h)) a.1)

    -- what the row of a key weighs
    abbrev pub key_weight : Key → ℕ
    key_weight k = sum_by g (row_of k (value k))

    list_sum : (ks : List Key) → sum_by g (list_of ks) ≡ sum_by key_weight ks
    list_sum [] = refl
    list_sum (k ∷ ks) =
        let r = list_sum ks in
        let a = sum_by-append g (row_of k (value k)) (list_of ks) in
        let b = sum_by-cons key_weight k ks in
        omega (arith, r, a, b)

    pub rows_weight : (ks : List Key) → ((k : Key) → In k ks → IsKey k) → AreOnce ks
        → sum_by g (fin.entries (rows_by ks value)) ≡ sum_by key_weight ks
    rows_weight ks b a = map_sum (list_of ks) (all_count ks b a) ∙ list_sum ks

    light_if : (k : Key) (o : Option (List ℕ)) → counted (key_text k) ≡ false → sum_by g (row_of k o) ≡ 0
    light_if k None e = refl
    light_if k (Some v) e = let a = sum_by-cons g (key_text k, v) [] in let b = light (key_text k) v e in
        omega (arith, a, b)

    pub light_sum : (ks : List Key) → AreLight ks → sum_by key_weight ks ≡ 0
    light_sum [] f = refl
    light_sum (k ∷ ks) f = let a = sum_by-cons key_weight k ks in let b = light_if k (value k) (f k (inl refl)) in
        let c = light_sum ks (λ t h. f t (inr h)) in omega (arith, a, b, c)
