-- A module without a fault has the listing that it should have. Callers want `sound_listed`.
use Rattle.std.proofs.Common.{◌≡◌, ℕ, Bool, true, false, cond, not, T, List, [], ◌∷◌, map, Option, Some, None, is_some}
use Rattle.std.proofs.Common.{refl, sym, ap, subst, ◌∙◌}
use Rattle.std.specs.Prelude.{option_map, option_and_then}
use Rattle.std.specs.List.{list_all, flat_map}
use Rattle.std.specs.Option.{option_or}
use Rattle.std.specs.Str.{bytes_eq}
use Rattle.std.specs.Ordering.{eq_by_cmp, is_eq, nat_cmp}
use Rattle.std.specs.declared.cmp.Ordering.TheVariants.{Equal}
use Rattle.std.specs.Cmp.Lexicographic.{slice_cmp, nat_list_cmp_total}
use Rattle.std.specs.FinMap as fin
use Rattle.std.specs.FinMap.{get-entries, entries_sorted, nat_cmp-IsAntisymmetric, slice_cmp-IsAntisymmetric}
use Rattle.std.specs.FinMap.Entries.{find, below_all, is_sorted, is_sorted-where_key, find-where_key, same_entries}
use Rattle.std.proofs.lemmas.Bool.{and_parts, not-true}
use Rattle.std.proofs.lemmas.Map.Text.{is_eq-slice_cmp}
use Rattle.std.proofs.lemmas.Slice.Eq.{bytes_eq-Decides}
use Rattle.std.proofs.lemmas.List.Folds.{flat_map-map}
use Rattle.apex_base.specs.Modules.{FileMap}
use Rattle.apex_base.specs.declared.fault.ModuleFault.TheVariants.{BadListing, Absent, Differs}
use Rattle.sha2.specs.Sha256.{sha256}
use Rattle.module_digest.specs.declared.lines.Entry.{Entry}
use Rattle.module_digest.specs.Listing.{is_own_path, listed_files, listing_line, listing}
use Rattle.module_digest.specs.Lines.{parts, bad_line, entries}
use Rattle.module_digest.specs.Faults.{is_listed, unlisted, absent, differs, first_fault, entries_fault, text_fault}
use Rattle.module_digest.specs.Faults.{fault_of}
use Rattle.module_digest.proofs.TextLemmas.{line_text, as_pair, Ascends, ascends_from, text_of_entries}

-- ---- paths that are equal

same_path : (q path : List ℕ) → eq_by_cmp (slice_cmp nat_cmp) q path ≡ true → q ≡ path
same_path q path h = (bytes_eq-Decides q path).0 (sym (is_eq-slice_cmp q path) ∙ h)

equal_path : (q path : List ℕ) → slice_cmp nat_cmp q path ≡ Equal → q ≡ path
equal_path q path h = same_path q path (ap is_eq h)

-- ---- a fault of none

or_none : {A : Type 0} (a b : Option A) → option_or a b ≡ None → (a ≡ None) × (b ≡ None)
or_none None b h = (refl, h)
or_none (Some x) b h = absurd (cc)

no_fault : {A : Type 0} (b : Bool) (x : A) → cond b None (Some x) ≡ None → b ≡ true
no_fault true x h = refl
no_fault false x h = absurd (cc)

-- what an entry's file has, where the entry has no fault
as_listed : (file : Option (List ℕ)) (path digest : List ℕ) → cond (is_some file) None (Some (Absent path)) ≡ None
    → option_and_then (λ content. cond (bytes_eq (sha256 content) digest) None
    (Some (Differs path digest (sha256 content)))) file ≡ None → option_map sha256 file ≡ Some digest
as_listed None path digest there same = absurd (cc)
as_listed (Some content) path digest there same =
    ap Some ((bytes_eq-Decides (sha256 content) digest).0 (no_fault _ _ same))

-- what the listing tells of a path
record Told (m : FileMap) (q digest : List ℕ) : Type 0 where
  other : is_own_path q ≡ false
  file : option_map sha256 (fin.get m q) ≡ Some digest

told_at : (m : FileMap) (q digest : List ℕ) (e : Entry) (es : List Entry) (b : Bool)
    → eq_by_cmp (slice_cmp nat_cmp) q e.path ≡ b → is_own_path e.path ≡ false
    → option_map sha256 (fin.get m e.path) ≡ Some e.digest
    → (find (slice_cmp nat_cmp) q (map as_pair es) ≡ Some digest → Told m q digest)
    → cond b (Some e.digest) (find (slice_cmp nat_cmp) q (map as_pair es)) ≡ Some digest → Told m q digest
told_at m q digest e es true is other file rest h =
    let same = same_path q e.path is in
    record { other = rw same other; file = rw same (file ∙ h) }
told_at m q digest e es false is other file rest h = rest h

told_by : (m : FileMap) (q digest : List ℕ) (es : List Entry) → first_fault (absent m) es ≡ None
    → first_fault (differs m) es ≡ None → list_all (λ e. not (is_own_path e.path)) es ≡ true
    → find (slice_cmp nat_cmp) q (map as_pair es) ≡ Some digest → Told m q digest
told_by m q digest [] there same others h = absurd (cc)
told_by m q digest (e ∷ es) there same others h =
    let a = or_none (absent m e) _ there in
    let d = or_none (differs m e) _ same in
    let o = and_parts (not (is_own_path e.path)) _ others in
    told_at m q digest e es _ refl (not-true _ o.0) (as_listed (fin.get m e.path) e.path e.digest a.0 d.0)
    (told_by m q digest es a.1 d.1 o.1) h

-- a path that the listing doesn't tell isn't listed
untold_at : (q : List ℕ) (e : Entry) (es : List Entry) (b : Bool) → eq_by_cmp (slice_cmp nat_cmp) q e.path ≡ b
    → (find (slice_cmp nat_cmp) q (map as_pair es) ≡ None → is_listed es q ≡ false)
    → cond b (Some e.digest) (find (slice_cmp nat_cmp) q (map as_pair es)) ≡ None → is_listed (e ∷ es) q ≡ false
untold_at q e es true is rest none = absurd (cc)
untold_at q e es false is rest none = rw (sym (is_eq-slice_cmp q e.path) ∙ is) (rest none)

untold : (q : List ℕ) (es : List Entry) → find (slice_cmp nat_cmp) q (map as_pair es) ≡ None → is_listed es q ≡ false
untold q [] h = refl
untold q (e ∷ es) h = untold_at q e es _ refl (untold q es) h

-- a file without a fault is listed
listed_at : (es : List Entry) (q content : List ℕ) (f : List ℕ × List ℕ) (fs : List (List ℕ × List ℕ)) (b : Bool)
    → eq_by_cmp (slice_cmp nat_cmp) q f.0 ≡ b → unlisted es f ≡ None
    → (find (slice_cmp nat_cmp) q fs ≡ Some content → is_listed es q ≡ true)
    → cond b (Some f.1) (find (slice_cmp nat_cmp) q fs) ≡ Some content → is_listed es q ≡ true
listed_at es q content f fs true is none rest h = rw (same_path q f.0 is) (no_fault (is_listed es f.0) _ none)
listed_at es q content f fs false is none rest h = rest h

listed : (es : List Entry) (q content : List ℕ) (fs : List (List ℕ × List ℕ)) → first_fault (unlisted es) fs ≡ None
    → find (slice_cmp nat_cmp) q fs ≡ Some content → is_listed es q ≡ true
listed es q content [] none h = absurd (cc)
listed es q content (f ∷ fs) none h =
    let here = or_none (unlisted es f) _ none in
    listed_at es q content f fs _ refl here.0 (listed es q content fs here.1) h

-- ---- the files that are listed, with their digests

abbrev pub hashed : List ℕ × List ℕ → List ℕ × List ℕ
hashed f = (f.0, sha256 f.1)

hashed_at : (b : Bool) (content : List ℕ) (found rest : Option (List ℕ)) → found ≡ option_map sha256 rest
    → cond b (Some (sha256 content)) found ≡ option_map sha256 (cond b (Some content) rest)
hashed_at true content found rest h = refl
hashed_at false content found rest h = h

find-hashed : (q : List ℕ) (fs : List (List ℕ × List ℕ))
    → find (slice_cmp nat_cmp) q (map hashed fs) ≡ option_map sha256 (find (slice_cmp nat_cmp) q fs)
find-hashed q [] = refl
find-hashed q (f ∷ fs) = hashed_at (eq_by_cmp (slice_cmp nat_cmp) q f.0) f.1 _ _ (find-hashed q fs)

below-hashed : (q : List ℕ) (fs : List (List ℕ × List ℕ))
    → below_all (slice_cmp nat_cmp) q (map hashed fs) ≡ below_all (slice_cmp nat_cmp) q fs
below-hashed q [] = refl
below-hashed q (f ∷ fs) = rw (below-hashed q fs) refl

sorted-hashed : (fs : List (List ℕ × List ℕ))
    → is_sorted (slice_cmp nat_cmp) (map hashed fs) ≡ is_sorted (slice_cmp nat_cmp) fs
sorted-hashed [] = refl
sorted-hashed (f ∷ fs) = rw (below-hashed f.0 fs, sorted-hashed fs) refl

pub listed_sorted : (m : FileMap) → T (is_sorted (slice_cmp nat_cmp) (listed_files m))
listed_sorted m = is_sorted-where_key (slice_cmp nat_cmp) (λ q. not (is_own_path q)) (fin.entries m) (entries_sorted m)

pub find_listed : (m : FileMap) (q : List ℕ)
    → find (slice_cmp nat_cmp) q (listed_files m) ≡ cond (not (is_own_path q)) (fin.get m q) None
find_listed m q =
    find-where_key (slice_cmp nat_cmp) (λ x. not (is_own_path x)) q
    (λ x e. ap (λ p. not (is_own_path p)) (sym (equal_path q x e))) (fin.entries m)
    ∙ ap (λ o. cond (not (is_own_path q)) o None) (sym (get-entries m q))

-- ---- the entries are those of these files

truth : (b : Bool) → b ≡ true → T b
truth true h = tt
truth false h = absurd (cc)

no_file : (es : List Entry) (q : List ℕ) (fs : List (List ℕ × List ℕ)) (file : Option (List ℕ))
    → first_fault (unlisted es) fs ≡ None → is_listed es q ≡ false → find (slice_cmp nat_cmp) q fs ≡ file → file ≡ None
no_file es q fs None none lacks is = refl
no_file es q fs (Some content) none lacks is = absurd (cc (listed es q content fs none is))

same_at : (m : FileMap) (es : List Entry) (q : List ℕ) (o : Option (List ℕ)) → entries_fault m es ≡ None
    → list_all (λ e. not (is_own_path e.path)) es ≡ true → find (slice_cmp nat_cmp) q (map as_pair es) ≡ o
    → o ≡ option_map sha256 (find (slice_cmp nat_cmp) q (listed_files m))
same_at m es q None none others is =
    let a = or_none (first_fault (unlisted es) (listed_files m)) _ none in
    sym (ap (option_map sha256) (no_file es q (listed_files m) _ a.0 (untold q es is) refl))
same_at m es q (Some digest) none others is =
    let a = or_none (first_fault (unlisted es) (listed_files m)) _ none in
    let d = or_none (first_fault (absent m) es) _ a.1 in
    let t : Told m q digest = told_by m q digest es d.0 d.1 others is in
    rw (find_listed m q, t.other) (sym t.file)

entries_are : (m : FileMap) (es : List Entry) → entries_fault m es ≡ None → Ascends [] es
    → map as_pair es ≡ map hashed (listed_files m)
entries_are m es none ascends =
    same_entries (slice_cmp nat_cmp) nat_list_cmp_total (slice_cmp-IsAntisymmetric nat_cmp-IsAntisymmetric)
    (map as_pair es) (map hashed (listed_files m))
    (truth _ ascends.sorted) (subst T (sym (sorted-hashed (listed_files m))) (listed_sorted m))
    (λ q. same_at m es q _ none ascends.others refl ∙ sym (find-hashed q (listed_files m)))

lines_of : (fs : List (List ℕ × List ℕ)) → flat_map line_text (map hashed fs) ≡ flat_map listing_line fs
unfolding listing_line
lines_of fs = flat_map-map line_text hashed fs

map_none : {A B : Type 0} (f : A → B) (o : Option A) → option_map f o ≡ None → o ≡ None
map_none f None h = refl
map_none f (Some x) h = absurd (cc)

text_listed : (m : FileMap) (text : List ℕ) → text_fault m text ≡ None → text ≡ listing m
text_listed m text none =
    let a = or_none (option_map BadListing (bad_line text)) _ none in
    let good = map_none BadListing (bad_line text) a.0 in
    text_of_entries text good ∙ ap (flat_map line_text)
    (entries_are m (entries text) a.1 (ascends_from [] 1 (parts text) good)) ∙ lines_of (listed_files m)

pub sound_listed : (m : FileMap) (file : Option (List ℕ)) → fault_of m file ≡ None → file ≡ Some (listing m)
sound_listed m None none = absurd (cc)
sound_listed m (Some text) none = ap Some (text_listed m text none)
