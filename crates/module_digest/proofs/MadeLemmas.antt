-- The listing that a module should have is without a fault. Callers want `made_sound`.
use Rattle.std.proofs.Common.{◌≡◌, ℕ, ◌+◌, ◌≤◌, Bool, true, false, ◌&&◌, ◌||◌, List, [], ◌∷◌, ◌++◌, map, length, take}
use Rattle.std.proofs.Common.{drop, slice_index, Some, None, refl, sym, ap, ◌∙◌, arith, append_assoc}
use Rattle.std.specs.Prelude.{codes, nat_lt}
use Rattle.std.specs.List.{AllByRecursion, list_all, flat_map}
use Rattle.std.specs.Str.{bytes_eq}
use Rattle.std.specs.Ordering.{is_lt, nat_cmp}
use Rattle.std.specs.Cmp.Lexicographic.{slice_cmp}
use Rattle.std.specs.FinMap as fin
use Rattle.std.specs.FinMap.Entries.{below_all, is_sorted}
use Rattle.std.proofs.Math.Seq.{get_or-append_seam}
use Rattle.std.proofs.lemmas.Bool.{and_parts, not-true}
use Rattle.std.proofs.lemmas.Bool.Decides.{nat_tests}
use Rattle.std.proofs.lemmas.List.{take_at, drop_at, length-append}
use Rattle.std.proofs.lemmas.List.Folds.{list_all-append}
use Rattle.std.proofs.lemmas.Slice.Eq.{bytes_eq-Decides}
use Rattle.apex_base.specs.Modules.{FileMap, IsModule}
use Rattle.apex_base.specs.Text.{is_path}
use Rattle.hex.specs.Hex.{encode_lower}
use Rattle.sha2.specs.Sha256.{sha256}
use Rattle.module_digest.specs.declared.lines.Entry.{Entry}
use Rattle.module_digest.specs.Listing.{is_own_path, listed_files, listing_line, listing}
use Rattle.module_digest.specs.Lines.{is_lower_digit, is_line, said, is_good, entry, parts, bad_line, bad_line_from}
use Rattle.module_digest.specs.Lines.{said_by}
use Rattle.module_digest.specs.Faults.{is_listed, unlisted, absent, differs, first_fault, entries_fault, fault_of}
use Rattle.module_digest.proofs.DigitLemmas.{length-digits, lower-digits, spelt-digits}
use Rattle.module_digest.proofs.LineLemmas.{bad_more, said_more}
use Rattle.module_digest.proofs.FileLemmas.{IsListable, all_weaker, listable, listed_ascend, passes, is_within}
use Rattle.module_digest.proofs.FileLemmas.{path_within, path_long}

-- a file's line without its line feed, and what it says
abbrev front_of : List ℕ × List ℕ → List ℕ
front_of f = encode_lower (sha256 f.1) ++ 32 ∷ f.0

abbrev made : List ℕ × List ℕ → Entry
made f = entry f.0 (sha256 f.1)

digits_of : (f : List ℕ × List ℕ) → take 64 (front_of f) ≡ encode_lower (sha256 f.1)
digits_of f = take_at (encode_lower (sha256 f.1)) (32 ∷ f.0) 64 (length-digits f.1)

path_of : (f : List ℕ × List ℕ) → drop 65 (front_of f) ≡ f.0
path_of f =
    let long : length (encode_lower (sha256 f.1) ++ 32 ∷ []) ≡ 65 =
    omega (arith, length-append (encode_lower (sha256 f.1)) (32 ∷ []), length-digits f.1) in
    ap (drop 65) (sym (append_assoc (encode_lower (sha256 f.1)) (32 ∷ []) f.0))
    ∙ drop_at (encode_lower (sha256 f.1) ++ 32 ∷ []) f.0 65 long

space_of : (f : List ℕ × List ℕ) → slice_index (front_of f) 64 ≡ 32
space_of f =
    ap (slice_index (front_of f)) (sym (length-digits f.1)) ∙ get_or-append_seam (encode_lower (sha256 f.1)) 32 f.0 0

front_line : (f : List ℕ × List ℕ) → is_path f.0 ≡ true → is_line (front_of f) ≡ true
unfolding is_line
front_line f path =
    let long : nat_lt 65 (length (front_of f)) ≡ true =
    grind (
      arith,
      nat_tests,
      length-append (encode_lower (sha256 f.1)) (32 ∷ f.0),
      length-digits f.1,
      path_long f.0 path,
    ) in
    rw (long, digits_of f, lower-digits f.1, space_of f, path_of f, path) refl

front_good : (before : List ℕ) (f : List ℕ × List ℕ) → is_path f.0 ≡ true → is_lt (slice_cmp nat_cmp before f.0) ≡ true
    → is_own_path f.0 ≡ false → is_good before (front_of f) ≡ true
unfolding is_good
front_good before f path above other = rw (front_line f path, path_of f, above, other) refl

said_made : (f : List ℕ × List ℕ) → said (front_of f) ≡ made f
unfolding said
said_made f = rw (digits_of f, path_of f, spelt-digits f.1) refl

-- ---- the lines of the text

cut_at : (front rest : List ℕ) → list_all is_within front ≡ true → parts (front ++ 10 ∷ rest) ≡ front ∷ parts rest
cut_at [] rest h = refl
cut_at (b ∷ front) rest h =
    let both = and_parts (is_within b) _ h in
    let more = cut_at front rest both.1 in
    rw (not-true _ both.0, more) refl

digit_within : (b : ℕ) → is_lower_digit b ≡ true → is_within b ≡ true
digit_within b h = grind (arith, nat_tests)

front_within : (f : List ℕ × List ℕ) → is_path f.0 ≡ true → list_all is_within (front_of f) ≡ true
front_within f path =
    list_all-append is_within (encode_lower (sha256 f.1)) (32 ∷ f.0)
    ∙ rw (passes is_lower_digit is_within digit_within _ (lower-digits f.1), path_within f.0 path) refl

parts_made : (f : List ℕ × List ℕ) (fs : List (List ℕ × List ℕ)) → is_path f.0 ≡ true
    → parts (flat_map listing_line (f ∷ fs)) ≡ front_of f ∷ parts (flat_map listing_line fs)
unfolding listing_line
parts_made f fs path =
    ap parts (append_assoc (front_of f) (10 ∷ []) (flat_map listing_line fs))
    ∙ cut_at (front_of f) (flat_map listing_line fs) (front_within f path)

good_made : (m : FileMap) (before : List ℕ) (n : ℕ) (fs : List (List ℕ × List ℕ)) → AllByRecursion (IsListable m) fs
    → below_all (slice_cmp nat_cmp) before fs ≡ true → is_sorted (slice_cmp nat_cmp) fs ≡ true
    → bad_line_from before n (parts (flat_map listing_line fs)) ≡ None
good_made m before n [] all below sorted = refl
good_made m before n (f ∷ fs) all below sorted =
    let b = and_parts (is_lt (slice_cmp nat_cmp before f.0)) _ below in
    let s = and_parts (below_all (slice_cmp nat_cmp) f.0 fs) _ sorted in
    let here : IsListable m f = all.0 in
    ap (bad_line_from before n) (parts_made f fs here.path) ∙ bad_more before (front_of f) n (flat_map listing_line fs)
    ∙ rw (front_good before f here.path b.0 here.other, path_of f) (good_made m f.0 (n + 1) fs all.1 s.0 s.1)

said_by_made : (m : FileMap) (fs : List (List ℕ × List ℕ)) → AllByRecursion (IsListable m) fs
    → said_by (parts (flat_map listing_line fs)) ≡ map made fs
said_by_made m [] all = refl
said_by_made m (f ∷ fs) all =
    let here : IsListable m f = all.0 in
    ap said_by (parts_made f fs here.path) ∙ said_more (front_of f) (flat_map listing_line fs)
    ∙ rw (said_made f, said_by_made m fs all.1) refl

-- ---- none of these has a fault

or_either : (b : Bool) → b || true ≡ true
or_either true = refl
or_either false = refl

listed_each : (fs : List (List ℕ × List ℕ)) → AllByRecursion (λ f. is_listed (map made fs) f.0 ≡ true) fs
listed_each [] = tt
listed_each (f ∷ fs) = (
  rw ((bytes_eq-Decides f.0 f.0).1 refl) refl,
  all_weaker (λ g. is_listed (map made fs) g.0 ≡ true) (λ g. is_listed (map made (f ∷ fs)) g.0 ≡ true)
      (λ g h. rw h (or_either (bytes_eq g.0 f.0))) fs (listed_each fs),
)

no_unlisted : (es : List Entry) (fs : List (List ℕ × List ℕ)) → AllByRecursion (λ f. is_listed es f.0 ≡ true) fs
    → first_fault (unlisted es) fs ≡ None
no_unlisted es [] all = refl
no_unlisted es (f ∷ fs) all = rw (all.0, no_unlisted es fs all.1) refl

no_absent : (m : FileMap) (fs : List (List ℕ × List ℕ)) → AllByRecursion (IsListable m) fs
    → first_fault (absent m) (map made fs) ≡ None
no_absent m [] all = refl
no_absent m (f ∷ fs) all =
    let here : IsListable m f = all.0 in
    rw (here.found, no_absent m fs all.1) refl

no_differing : (m : FileMap) (fs : List (List ℕ × List ℕ)) → AllByRecursion (IsListable m) fs
    → first_fault (differs m) (map made fs) ≡ None
no_differing m [] all = refl
no_differing m (f ∷ fs) all =
    let here : IsListable m f = all.0 in
    rw (here.found, (bytes_eq-Decides (sha256 f.1) (sha256 f.1)).1 refl, no_differing m fs all.1) refl

below_none : (fs : List (List ℕ × List ℕ)) (m : FileMap) → AllByRecursion (IsListable m) fs
    → below_all (slice_cmp nat_cmp) [] fs ≡ true
below_none [] m all = refl
below_none (f ∷ fs) m all =
    let here : IsListable m f = all.0 in
    rw (below_none fs m all.1) (first f.0 (path_long f.0 here.path).0)
  where
    first : (path : List ℕ) → 1 ≤ length path → is_lt (slice_cmp nat_cmp [] path) && true ≡ true
    first [] h = absurd (omega arith)
    first (b ∷ path) h = refl

no_entries_fault : (m : FileMap) → AllByRecursion (IsListable m) (listed_files m)
    → entries_fault m (map made (listed_files m)) ≡ None
no_entries_fault m all =
    rw (no_unlisted _ _ (listed_each (listed_files m)), no_absent m _ all, no_differing m _ all) refl

pub made_sound : (m : FileMap) → IsModule m → fin.get m (codes "apex_digests") ≡ Some (listing m)
    → fault_of m (fin.get m (codes "apex_digests")) ≡ None
made_sound m h is =
    let all = listable m h in
    let good : bad_line (listing m) ≡ None =
    good_made m [] 1 (listed_files m) all (below_none (listed_files m) m all) (listed_ascend m) in
    rw (is, good, said_by_made m (listed_files m) all) (no_entries_fault m all)
