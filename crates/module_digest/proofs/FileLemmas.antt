-- The files that a listing names: each is found under its path, which is a path and not the listing's.
use Rattle.std.proofs.Common.{◌≡◌, ℕ, ◌≤◌, ◌==◌, Bool, true, false, cond, not, T, List, [], ◌∷◌, length, Option, Some}
use Rattle.std.proofs.Common.{None, refl, sym, ap, subst, ◌∙◌, arith}
use Rattle.std.specs.Prelude.{IfSome, IsTrue}
use Rattle.std.specs.List.{AllByRecursion, list_all, slice_split, join_with_byte}
use Rattle.std.specs.Ordering.{eq_by_cmp, is_eq, ordering_reverse, nat_cmp}
use Rattle.std.specs.declared.cmp.Ordering.TheVariants.{Less}
use Rattle.std.specs.Cmp.Lexicographic.{slice_cmp, nat_list_cmp_total}
use Rattle.std.specs.FinMap as fin
use Rattle.std.specs.FinMap.Entries.{find, below_all, is_sorted}
use Rattle.std.proofs.lemmas.Bool.{and_parts}
use Rattle.std.proofs.lemmas.Bool.Decides.{nat_tests}
use Rattle.std.proofs.lemmas.List.Folds.{list_all-append}
use Rattle.std.proofs.lemmas.List.Splits.{join_with_byte-slice_split}
use Rattle.std.proofs.lemmas.Map.Text.{is_eq-slice_cmp}
use Rattle.std.proofs.lemmas.Slice.Eq.{bytes_eq-Decides}
use Rattle.apex_base.specs.Modules.{FileMap, IsModule}
use Rattle.apex_base.specs.Text.{is_path, is_segment, is_print_byte}
use Rattle.module_digest.specs.Listing.{is_own_path, listed_files}
use Rattle.module_digest.proofs.TextLemmas.{is_less}
use Rattle.module_digest.proofs.SoundLemmas.{find_listed, listed_sorted}

pub record IsListable (m : FileMap) (f : List ℕ × List ℕ) : Type 0 where
  pub found : fin.get m f.0 ≡ Some f.1
  pub other : is_own_path f.0 ≡ false
  pub path : is_path f.0 ≡ true

pub all_weaker : {X : Type 0} (P Q : X → Type 0) → ((x : X) → P x → Q x) → (xs : List X) → AllByRecursion P xs
    → AllByRecursion Q xs
all_weaker P Q weaker [] all = tt
all_weaker P Q weaker (x ∷ xs) all = (weaker x all.0, all_weaker P Q weaker xs all.1)

-- ---- each entry is found in entries that ascend

apart : (x y : List ℕ) → slice_cmp nat_cmp x y ≡ Less → eq_by_cmp (slice_cmp nat_cmp) y x ≡ false
apart x y less = ap is_eq (nat_list_cmp_total.antisymm y x ∙ ap ordering_reverse less)

itself : (x : List ℕ) → eq_by_cmp (slice_cmp nat_cmp) x x ≡ true
itself x = is_eq-slice_cmp x x ∙ (bytes_eq-Decides x x).1 refl

behind : (e : List ℕ × List ℕ) (all fs : List (List ℕ × List ℕ)) → below_all (slice_cmp nat_cmp) e.0 fs ≡ true
    → AllByRecursion (λ f. find (slice_cmp nat_cmp) f.0 all ≡ Some f.1) fs
    → AllByRecursion (λ f. find (slice_cmp nat_cmp) f.0 (e ∷ all) ≡ Some f.1) fs
behind e all [] below found = tt
behind e all (f ∷ fs) below found =
    let both = and_parts _ (below_all (slice_cmp nat_cmp) e.0 fs) below in
    (rw (apart e.0 f.0 (is_less _ both.0)) found.0, behind e all fs both.1 found.1)

found_each : (es : List (List ℕ × List ℕ)) → is_sorted (slice_cmp nat_cmp) es ≡ true
    → AllByRecursion (λ f. find (slice_cmp nat_cmp) f.0 es ≡ Some f.1) es
found_each [] h = tt
found_each (e ∷ es) h =
    let both = and_parts (below_all (slice_cmp nat_cmp) e.0 es) _ h in
    (rw (itself e.0) refl, behind e es es both.0 (found_each es both.1))

truth : (b : Bool) → T b → b ≡ true
truth true h = refl
truth false h = absurd h

pub listed_ascend : (m : FileMap) → is_sorted (slice_cmp nat_cmp) (listed_files m) ≡ true
listed_ascend m = truth _ (listed_sorted m)

found_other : (own : Bool) (file : Option (List ℕ)) (content : List ℕ) → cond (not own) file None ≡ Some content
    → (file ≡ Some content) × (own ≡ false)
found_other true file content h = absurd (cc)
found_other false file content h = (h, refl)

named : (m : FileMap) (path content : List ℕ) → IsModule m → fin.get m path ≡ Some content → is_path path ≡ true
named m path content h is = subst (λ (o : Option (List ℕ)). IfSome o (λ c. IsTrue (is_path path))) is (h.paths path)

pub listable : (m : FileMap) → IsModule m → AllByRecursion (IsListable m) (listed_files m)
listable m h =
    all_weaker (λ f. find (slice_cmp nat_cmp) f.0 (listed_files m) ≡ Some f.1) (IsListable m) (λ f found.
    let other = found_other (is_own_path f.0) (fin.get m f.0) f.1 (sym (find_listed m f.0) ∙ found) in
    record { found = other.0; other = other.1; path = named m f.0 f.1 h other.0 })
    (listed_files m) (found_each (listed_files m) (listed_ascend m))

-- ---- the bytes of a path

pub passes : (p q : ℕ → Bool) → ((b : ℕ) → p b ≡ true → q b ≡ true) → (bytes : List ℕ) → list_all p bytes ≡ true
    → list_all q bytes ≡ true
passes p q weaker [] h = refl
passes p q weaker (b ∷ bytes) h =
    let both = and_parts (p b) _ h in
    rw (weaker b both.0, passes p q weaker bytes both.1) refl

-- a byte that ends no line
abbrev pub is_within : ℕ → Bool
is_within b = not (b == 10)

print_within : (b : ℕ) → is_print_byte b ≡ true → is_within b ≡ true
print_within b h = grind (arith, nat_tests)

segment_within : (segment : List ℕ) → is_segment segment ≡ true → list_all is_within segment ≡ true
segment_within segment h =
    passes is_print_byte is_within print_within segment (and_parts _ (list_all is_print_byte segment) h).1

joined_within : (segments : List (List ℕ)) → list_all is_segment segments ≡ true
    → list_all is_within (join_with_byte 47 segments) ≡ true
joined_within [] h = refl
joined_within (s ∷ []) h = segment_within s (and_parts (is_segment s) _ h).0
joined_within (s ∷ t ∷ segments) h =
    let both = and_parts (is_segment s) _ h in
    list_all-append is_within s (47 ∷ join_with_byte 47 (t ∷ segments))
    ∙ rw (segment_within s both.0, joined_within (t ∷ segments) both.1) refl

pub path_within : (path : List ℕ) → is_path path ≡ true → list_all is_within path ≡ true
unfolding is_path
path_within path h =
    let segments = and_parts _ (list_all is_segment (slice_split (λ b. b == 47) path)) h in
    subst (λ p. list_all is_within p ≡ true) (join_with_byte-slice_split 47 path)
    (joined_within (slice_split (λ b. b == 47) path) segments.1)

pub path_long : (path : List ℕ) → is_path path ≡ true → (1 ≤ length path) × (length path ≤ 128)
unfolding is_path
path_long [] h = absurd (cc)
path_long (b ∷ path) h =
    let short = and_parts _ (list_all is_segment (slice_split (λ c. c == 47) (b ∷ path))) h in
    (omega arith, grind (arith, nat_tests, short.0))
