-- Lists of different keys. Callers want `keys_differ`, `entries_differ`, `append_differ`, `mapped_differ` and
-- `filter_differ`.
use Rattle.std.proofs.Common.{◌≡◌, ◌≢◌, ℕ, Bool, true, false, cond, List, [], ◌∷◌, ◌++◌, map, filter, sym, ◌∙◌, refl}
use Rattle.std.proofs.Common.{inl, inr}
use Rattle.std.specs.FinMap.{is_sorted}
use Rattle.std.specs.Ordering.{nat_cmp}
use Rattle.std.specs.Cmp.Lexicographic.{slice_cmp}
use Rattle.std.proofs.lemmas.Bool.{and_parts}
use Rattle.apex_base.specs.Members.{In, EachPair}
use Rattle.apex_base.proofs.MemberLemmas.{in_append, in_map_back, in_filter, each_in, in_each}
use Rattle.apex_base.proofs.RowMaps.{below_in}

abbrev pub Differ : List (List ℕ) → Type 0
Differ ks = EachPair (λ (a b : List ℕ). a ≢ b) ks

-- entries in order have different keys
pub entries_differ : {X : Type 0} (es : List (List ℕ × X)) → is_sorted (slice_cmp nat_cmp) es ≡ true
    → EachPair (λ (e f : List ℕ × X). e.0 ≢ f.0) es
entries_differ [] s = tt
entries_differ {X} (e ∷ es) s = (
  in_each (λ (f : List ℕ × X). e.0 ≢ f.0) es (λ f h same. below_in e.0 es f (and_parts _ _ s).0 h same),
  entries_differ es (and_parts _ _ s).1,
)

pub keys_differ : {X : Type 0} (es : List (List ℕ × X)) → is_sorted (slice_cmp nat_cmp) es ≡ true
    → Differ (map (λ (e : List ℕ × X). e.0) es)
keys_differ [] s = tt
keys_differ {X} (e ∷ es) s = (
  in_each (λ (b : List ℕ). e.0 ≢ b) (map (λ (e : List ℕ × X). e.0) es) (λ b h same.
      let (f, i, is) = in_map_back (λ (e : List ℕ × X). e.0) b es h in
      below_in e.0 es f (and_parts _ _ s).0 i (same ∙ sym is)),
  keys_differ es (and_parts _ _ s).1,
)

-- two lists that have no key in common
pub append_differ : (xs ys : List (List ℕ)) → Differ xs → Differ ys → ((a : List ℕ) → In a xs → In a ys → ⊥)
    → Differ (xs ++ ys)
append_differ [] ys a b apart = b
append_differ (x ∷ xs) ys a b apart = (
  in_each (λ (y : List ℕ). x ≢ y) (xs ++ ys) (λ y h e. elim (in_append y xs ys h) [
    | inl i ↦ each_in (λ (y : List ℕ). x ≢ y) xs a.0 y i e
    | inr i ↦ apart y (inl e) i
  ]),
  append_differ xs ys a.1 b (λ y h i. apart y (inr h) i),
)

-- keys that are put into another form, no two into one
pub mapped_differ : (g : List ℕ → List ℕ) (ks : List (List ℕ)) → Differ ks
    → ((a b : List ℕ) → In a ks → In b ks → g a ≡ g b → a ≡ b) → Differ (map g ks)
mapped_differ g [] d one = tt
mapped_differ g (k ∷ ks) d one = (
  in_each (λ (b : List ℕ). g k ≢ b) (map g ks) (λ b h same.
      let (a, i, is) = in_map_back g b ks h in
      each_in (λ (a : List ℕ). k ≢ a) ks d.0 a i (one k a (inl refl) (inr i) (same ∙ sym is))),
  mapped_differ g ks d.1 (λ a b h i. one a b (inr h) (inr i)),
)

differ_if : (c : Bool) (test : List ℕ → Bool) (k : List ℕ) (ks : List (List ℕ)) → Differ (k ∷ ks)
    → Differ (filter test ks) → Differ (cond c (k ∷ filter test ks) (filter test ks))
differ_if false test k ks d more = more
differ_if true test k ks d more = (
  in_each (λ (b : List ℕ). k ≢ b) (filter test ks)
      (λ b h. each_in (λ (b : List ℕ). k ≢ b) ks d.0 b (in_filter test b ks h).0),
  more,
)

-- those that pass a test
pub filter_differ : (test : List ℕ → Bool) (ks : List (List ℕ)) → Differ ks → Differ (filter test ks)
filter_differ test [] d = tt
filter_differ test (k ∷ ks) d = differ_if (test k) test k ks d (filter_differ test ks d.1)
