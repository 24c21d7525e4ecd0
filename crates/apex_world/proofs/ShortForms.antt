-- The short form of a module: it is sound, has no key, and weighs what its two files do.
use Rattle.std.proofs.Common.{◌≡◌, ℕ, ◌+◌, ◌≤◌, Bool, true, false, cond, not, List, [], ◌∷◌, length, map, sum, Some}
use Rattle.std.proofs.Common.{None, Ok, sym, ap, ◌∙◌, refl, arith}
use Rattle.std.specs.Prelude.{IsTrue, codes, filter, flat_map}
use Rattle.std.specs.Fmt.{decimal}
use Rattle.std.specs.Ordering.{nat_cmp}
use Rattle.std.specs.Cmp.Lexicographic.{slice_cmp, nat_list_cmp_total}
use Rattle.std.specs.FinMap as fin
use Rattle.std.specs.FinMap.{get-empty, get-insert, len-empty, len-insert, entries-insert, len-entries}
use Rattle.std.specs.FinMap.Entries.{put}
use Rattle.std.proofs.lemmas.Bool.{and_parts, leb-true}
use Rattle.std.proofs.lemmas.Fmt.{length-decimal-le}
use Rattle.std.proofs.lemmas.List.{length-append}
use Rattle.apex_base.specs.Modules.{FileMap, IsModule, file_weight, module_weight}
use Rattle.apex_base.specs.Ranges.{IsVersion}
use Rattle.apex_base.specs.Text.{is_short_text, is_name, is_path}
use Rattle.apex_base.proofs.Maps.{empty_module, put_module}
use Rattle.apex_manifest.specs.Manifest.{short_manifest}
use Rattle.apex_manifest.proofs.ShortManifests.{short_manifest-reads}
use Rattle.module_digest.specs.Faults.{listing_fault}
use Rattle.module_digest.specs.Listing.{is_own_path, listing, listed_files, listing_line, sealed}
use Rattle.module_digest.proofs.DigitLemmas.{length-digits}
use Rattle.module_digest.proofs.SealLemmas.{listing_short, sealed_sound}
use Rattle.apex_world.specs.Soundness.{manifest_at, manifest_in, unless, checked, key_of, short_form}
use Rattle.apex_base.specs.Results.{◌>>=◌}

-- the module of the manifest alone
abbrev alone : List ℕ → FileMap
alone text = fin.insert fin.empty (codes "apex_manifest.json") text

get_alone : (text : List ℕ) → fin.get (alone text) (codes "apex_manifest.json") ≡ Some text
get_alone text = get-insert nat_list_cmp_total fin.empty (codes "apex_manifest.json") text (codes "apex_manifest.json")

get_manifest : (text : List ℕ) → fin.get (sealed (alone text)) (codes "apex_manifest.json") ≡ Some text
get_manifest text = get-insert nat_list_cmp_total (alone text) (codes "apex_digests") (listing (alone text))
    (codes "apex_manifest.json") ∙ get_alone text

get_key : (text : List ℕ) → fin.get (sealed (alone text)) (codes "apex_pubkey") ≡ None
get_key text =
    get-insert nat_list_cmp_total (alone text) (codes "apex_digests") (listing (alone text)) (codes "apex_pubkey")
    ∙ get-insert nat_list_cmp_total fin.empty (codes "apex_manifest.json") text (codes "apex_pubkey")
    ∙ get-empty (slice_cmp nat_cmp) (codes "apex_pubkey")

-- it has no key
pub short_key : (name : List ℕ) (version : ℕ) → key_of (short_form name version) ≡ None
short_key name version = get_key (short_manifest name version)

-- Lengths

pub name_short : (name : List ℕ) → IsTrue (is_name name) → length name ≤ 64
unfolding is_short_text
name_short name is = leb-true _ _ (and_parts _ _ (and_parts _ _ is).0).1

text_length : (name : List ℕ) (version : ℕ)
    → length (short_manifest name version) ≡ 22 + length name + length (decimal version)
text_length name version = simp length-append (omega arith)

decimal_short : (version : ℕ) → IsVersion version → length (decimal version) ≤ 20
decimal_short version range =
    length-decimal-le 20 version (omega arith) (omega (arith, range.1)) (omega (arith, range.1))

-- A module

one_more : (b : Bool) (n l : ℕ) → l ≡ cond b n (n + 1) → l ≤ n + 1
one_more true n l e = omega (arith, e)
one_more false n l e = omega (arith, e)

len_more : (m : FileMap) (path content : List ℕ) → fin.len (fin.insert m path content) ≤ fin.len m + 1
len_more m path content =
    one_more (fin.contains_key m path) (fin.len m) _ (len-insert nat_list_cmp_total m path content)

manifest_path : IsTrue (is_path (codes "apex_manifest.json"))
unfolding is_path
manifest_path = refl

listing_path : IsTrue (is_path (codes "apex_digests"))
unfolding is_path
listing_path = refl

alone_module : (text : List ℕ) → length text ≤ 1048576 → IsModule (alone text)
alone_module text short =
    put_module fin.empty (codes "apex_manifest.json") text empty_module manifest_path short
    (omega (arith, len_more fin.empty (codes "apex_manifest.json") text, len-empty (slice_cmp nat_cmp) (List ℕ)))

pub short_module : (name : List ℕ) (version : ℕ) → IsTrue (is_name name) → IsVersion version
    → IsModule (short_form name version)
short_module name version is range =
    let m = alone (short_manifest name version) in
    let whole = alone_module (short_manifest name version)
    (omega (arith, text_length name version, name_short name is, decimal_short version range)) in
    put_module m (codes "apex_digests") (listing m) whole listing_path (omega (arith, listing_short m whole))
    (omega (
      arith,
      len_more m (codes "apex_digests") (listing m),
      len_more fin.empty (codes "apex_manifest.json")
          (short_manifest name version),
      len-empty (slice_cmp nat_cmp) (List ℕ),
    ))

-- its manifest says the name and the version
pub short_said : (name : List ℕ) (version : ℕ) → IsTrue (is_name name) → IsVersion version
    → manifest_in (short_form name version) ≡ Ok (record { name = name; version = version })
short_said name version is range =
    ap manifest_at (get_manifest (short_manifest name version)) ∙ short_manifest-reads name version is range

-- and it is sound
pub short_sound : (name : List ℕ) (version : ℕ) → IsTrue (is_name name) → IsVersion version
    → checked (short_form name version) ≡ Ok (record { name = name; version = version })
short_sound name version is range =
    let none : listing_fault (short_form name version) ≡ None =
    sealed_sound (alone (short_manifest name version)) (short_module name version is range) in
    ap (λ said. said >>= unless (listing_fault (short_form name version))) (short_said name version is range)
    ∙ ap (λ fault. unless fault (record { name = name; version = version })) none

-- Weight

nil_of : {X : Type 0} (xs : List X) → length xs ≡ 0 → xs ≡ []
nil_of [] e = refl
nil_of (x ∷ xs) e = absurd (omega arith)

no_entries : ◌≡◌ {A = List (List ℕ × List ℕ)} (fin.entries {R = slice_cmp nat_cmp} fin.empty) []
no_entries = nil_of _ (sym (len-entries {R = slice_cmp nat_cmp} fin.empty) ∙ len-empty (slice_cmp nat_cmp) (List ℕ))

alone_entries : (text : List ℕ) → fin.entries (alone text) ≡ (codes "apex_manifest.json", text) ∷ []
alone_entries text = entries-insert nat_list_cmp_total fin.empty (codes "apex_manifest.json") text
    ∙ ap (put (slice_cmp nat_cmp) (codes "apex_manifest.json") text) no_entries

sealed_entries : (text : List ℕ)
    → fin.entries (sealed (alone text)) ≡ (codes "apex_digests", listing (alone text))
    ∷ (codes "apex_manifest.json", text) ∷ []
sealed_entries text =
    entries-insert nat_list_cmp_total (alone text) (codes "apex_digests") (listing (alone text))
    ∙ ap (put (slice_cmp nat_cmp) (codes "apex_digests") (listing (alone text))) (alone_entries text)

listing_length : (text : List ℕ) → length (listing (alone text)) ≡ 84
unfolding listing_line
listing_length text =
    let one : listed_files (alone text) ≡ (codes "apex_manifest.json", text) ∷ [] =
    ap (filter (λ (f : List ℕ × List ℕ). not (is_own_path f.0))) (alone_entries text) in
    ap (λ fs. length (flat_map listing_line fs)) one ∙ simp length-append (omega (arith, length-digits text))

pub short_weighs : (name : List ℕ) (version : ℕ)
    → module_weight (short_form name version) ≡ length name + length (decimal version) + 618
short_weighs name version =
    let text = short_manifest name version in
    ap (λ es. sum (map (λ (f : List ℕ × List ℕ). file_weight f.1) es)) (sealed_entries text)
    ∙ omega (arith, listing_length text, text_length name version)
