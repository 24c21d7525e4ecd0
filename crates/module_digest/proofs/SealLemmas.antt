-- Sealing: a listing is short, and the sealed module has the listing that it should have.
use Rattle.std.proofs.Common.{◌≡◌, ℕ, suc, ◌*◌, ◌≤◌, Bool, true, false, cond, ◌&&◌, not, List, [], ◌∷◌, ◌++◌, length}
use Rattle.std.proofs.Common.{Some, None, refl, sym, ap, subst, ◌∙◌, arith}
use Rattle.std.specs.Prelude.{codes, filter, nat_le, nat_lt}
use Rattle.std.specs.List.{AllByRecursion, flat_map}
use Rattle.std.specs.Str.{bytes_eq}
use Rattle.std.specs.Ordering.{nat_cmp}
use Rattle.std.specs.Cmp.Lexicographic.{slice_cmp, nat_list_cmp_total}
use Rattle.std.specs.FinMap as fin
use Rattle.std.specs.FinMap.{get-insert, len-entries, slice_cmp-IsAntisymmetric, nat_cmp-IsAntisymmetric}
use Rattle.std.specs.FinMap.Entries.{find, same_entries}
use Rattle.std.proofs.lemmas.Bool.Decides.{nat_tests}
use Rattle.std.proofs.lemmas.List.{length-append}
use Rattle.std.proofs.lemmas.Map.Text.{is_eq-slice_cmp}
use Rattle.apex_base.specs.Modules.{FileMap, IsModule, put_fault}
use Rattle.apex_base.specs.declared.module.PutWhy.{PutWhy}
use Rattle.apex_base.specs.declared.module.PutWhy.TheVariants.{Files, Large}
use Rattle.apex_base.specs.Text.{is_path}
use Rattle.hex.specs.Hex.{encode_lower}
use Rattle.sha2.specs.Sha256.{sha256}
use Rattle.module_digest.specs.Listing.{is_own_path, listed_files, listing_line, listing, sealed, seal_fault}
use Rattle.module_digest.specs.Faults.{listing_fault}
use Rattle.module_digest.proofs.DigitLemmas.{length-digits}
use Rattle.module_digest.proofs.FileLemmas.{IsListable, listable, path_long}
use Rattle.module_digest.proofs.MadeLemmas.{made_sound}
use Rattle.module_digest.proofs.SoundLemmas.{find_listed, listed_sorted}

-- ---- its length

line_short : (f : List ℕ × List ℕ) → is_path f.0 ≡ true → length (listing_line f) ≤ 194
unfolding listing_line
line_short f path =
    omega (
      arith,
      length-append (encode_lower (sha256 f.1) ++ 32 ∷ f.0) (10 ∷ []),
      length-append (encode_lower (sha256 f.1)) (32 ∷ f.0),
      length-digits f.1,
      (path_long f.0 path).1,
    )

lines_short : (m : FileMap) (fs : List (List ℕ × List ℕ)) → AllByRecursion (IsListable m) fs
    → length (flat_map listing_line fs) ≤ length fs * 194
lines_short m [] all = omega arith
lines_short m (f ∷ fs) all =
    let here : IsListable m f = all.0 in
    let count : length (f ∷ fs) ≡ suc (length fs) = refl in
    omega (
      arith,
      count,
      length-append (listing_line f) (flat_map listing_line fs),
      line_short f here.path,
      lines_short m fs all.1,
    )

filter_short : (p : List ℕ × List ℕ → Bool) (fs : List (List ℕ × List ℕ)) → length (filter p fs) ≤ length fs
filter_short p [] = omega arith
filter_short p (f ∷ fs) = filter_at (p f) (filter_short p fs)
  where
    filter_at : (b : Bool) → length (filter p fs) ≤ length fs
        → length (cond b (f ∷ filter p fs) (filter p fs)) ≤ length (f ∷ fs)
    filter_at true h = omega arith
    filter_at false h = omega arith

pub listing_short : (m : FileMap) → IsModule m → length (listing m) ≤ 12416
listing_short m h =
    let few : length (listed_files m) ≤ 64 =
    omega (arith, filter_short (λ f. not (is_own_path f.0)) (fin.entries m), len-entries m, h.few) in
    omega (arith, few, lines_short m (listed_files m) (listable m h))

put_seal : (full : Bool) (l : ℕ) → l ≤ 12416
    → cond full (Some Files) (cond (nat_lt 1048576 l) (Some (Large l)) None) ≡ cond full (Some Files) None
put_seal true l h = refl
put_seal false l h =
    let fits : nat_lt 1048576 l ≡ false = grind (arith, nat_tests) in
    rw fits refl

-- what `put` answers of a listing
pub put_fault_is : (m : FileMap) → IsModule m → put_fault m (codes "apex_digests") (listing m) ≡ seal_fault m
put_fault_is m h = put_seal (not (fin.contains_key m (codes "apex_digests")) && nat_le 64 (fin.len m))
    (length (listing m)) (listing_short m h)

-- ---- a listing isn't listed

found_beside : (m : FileMap) (q text : List ℕ) (b : Bool) → bytes_eq q (codes "apex_digests") ≡ b
    → cond (not b) (cond b (Some text) (fin.get m q)) None ≡ cond (not b) (fin.get m q) None
found_beside m q text true e = refl
found_beside m q text false e = refl

get_beside : (m : FileMap) (q text : List ℕ)
    → fin.get (fin.insert m (codes "apex_digests") text) q ≡ cond (is_own_path q) (Some text) (fin.get m q)
get_beside m q text = get-insert nat_list_cmp_total m (codes "apex_digests") text q
    ∙ ap (λ b. cond b (Some text) (fin.get m q)) (is_eq-slice_cmp q (codes "apex_digests"))

find_beside : (m : FileMap) (text q : List ℕ)
    → find (slice_cmp nat_cmp) q (listed_files (fin.insert m (codes "apex_digests") text))
    ≡ find (slice_cmp nat_cmp) q (listed_files m)
find_beside m text q =
    find_listed (fin.insert m (codes "apex_digests") text) q ∙ ap (λ o. cond (not (is_own_path q)) o None)
    (get_beside m q text)
    ∙ found_beside m q text (is_own_path q) refl ∙ sym (find_listed m q)

listed_beside : (m : FileMap) (text : List ℕ) → listed_files (fin.insert m (codes "apex_digests") text) ≡ listed_files m
listed_beside m text =
    same_entries (slice_cmp nat_cmp) nat_list_cmp_total (slice_cmp-IsAntisymmetric nat_cmp-IsAntisymmetric) _ _
    (listed_sorted (fin.insert m (codes "apex_digests") text)) (listed_sorted m) (find_beside m text)

get_sealed : (m : FileMap) → fin.get (sealed m) (codes "apex_digests") ≡ Some (listing m)
get_sealed m = get_beside m (codes "apex_digests") (listing m)

pub sealed_sound : (m : FileMap) → IsModule (sealed m) → listing_fault (sealed m) ≡ None
sealed_sound m h =
    made_sound (sealed m) h (get_sealed m ∙ ap (λ fs. Some (flat_map listing_line fs))
    (sym (listed_beside m (listing m))))

-- ---- for `seal`

pub sound_after : (old new : FileMap) (path text : List ℕ) → new ≡ fin.insert old path text
    → path ≡ codes "apex_digests" → text ≡ listing old → IsModule new → listing_fault new ≡ None
sound_after old new path text put named made h =
    let same : new ≡ sealed old =
    put ∙ ap (λ p. fin.insert old p text) named ∙ ap (fin.insert old (codes "apex_digests")) made in
    rw same (sealed_sound old (subst IsModule same h))

pub refused_as : (old : FileMap) (path text : List ℕ) (why : PutWhy) → IsModule old → path ≡ codes "apex_digests"
    → text ≡ listing old → put_fault old path text ≡ Some why → seal_fault old ≡ Some why
refused_as old path text why h named made is =
    sym (put_fault_is old h) ∙ ap (λ p. put_fault old p (listing old)) (sym named) ∙ ap (put_fault old path) (sym made)
    ∙ is
