-- A listing without a bad line: its text is that of its entries, and these ascend by path.
use Rattle.std.proofs.Common.{◌≡◌, ℕ, ◌+◌, ◌≤◌, ◌<◌, ◌==◌, Bool, true, false, cond, not, List, [], ◌∷◌, ◌++◌, map}
use Rattle.std.proofs.Common.{length, take, drop, slice_index, Option, Some, None, refl, sym, ap, ◌∙◌, arith}
use Rattle.std.proofs.Common.{append_assoc}
use Rattle.std.specs.List.{list_all, flat_map, join_with_byte}
use Rattle.std.specs.Ordering.{is_lt, nat_cmp}
use Rattle.std.specs.declared.cmp.Ordering.{Ordering}
use Rattle.std.specs.declared.cmp.Ordering.TheVariants.{Less, Equal, Greater}
use Rattle.std.specs.Cmp.Lexicographic.{slice_cmp, nat_list_cmp_total}
use Rattle.std.specs.FinMap.Entries.{below_all, is_sorted}
use Rattle.std.proofs.lemmas.Bool.{and_parts, not-true}
use Rattle.std.proofs.lemmas.Bool.Decides.{nat_tests}
use Rattle.std.proofs.lemmas.List.{length-take-le, take-append-drop, drop_more}
use Rattle.std.proofs.lemmas.List.Splits.{join_with_byte-slice_split, length-slice_split}
use Rattle.apex_base.specs.Text.{is_path}
use Rattle.hex.specs.Hex.{encode_lower}
use Rattle.module_digest.specs.declared.lines.Entry.{Entry}
use Rattle.module_digest.specs.Listing.{is_own_path}
use Rattle.module_digest.specs.Lines.{is_lower_digit, is_line, said, is_good, parts, bad_line, bad_line_from, said_by}
use Rattle.module_digest.specs.Lines.{entries}
use Rattle.module_digest.proofs.LineLemmas.{said-path}
use Rattle.module_digest.proofs.DigitLemmas.{SpellsDigest, digest_spelt}

-- a path and a digest as a line
abbrev pub line_text : List ℕ × List ℕ → List ℕ
line_text p = encode_lower p.1 ++ 32 ∷ p.0 ++ 10 ∷ []

abbrev pub as_pair : Entry → List ℕ × List ℕ
as_pair e = (e.path, e.digest)

good_line : (line : List ℕ) → is_line line ≡ true → line ≡ encode_lower (said line).digest ++ 32 ∷ drop 65 line
unfolding is_line said
good_line line h =
    let named = and_parts _ (is_path (drop 65 line)) h in
    let spaced = and_parts _ (slice_index line 64 == 32) named.0 in
    let digits = and_parts _ (list_all is_lower_digit (take 64 line)) spaced.0 in
    let long : 65 < length line = grind (arith, nat_tests, digits.0) in
    let full : length (take 64 line) ≡ 64 = length-take-le 64 line (omega arith) in
    let s = digest_spelt (take 64 line) full digits.1 in
    let fact : SpellsDigest (take 64 line) s.0 = s.1 in
    let space : slice_index line 64 ≡ 32 = grind (arith, nat_tests, spaced.1) in
    let behind : drop 64 line ≡ 32 ∷ drop 65 line =
    drop_more line 64 0 (omega arith) ∙ ap (λ b. b ∷ drop 65 line) space in
    let digest : encode_lower (said line).digest ≡ take 64 line = rw fact.reads fact.back in
    sym (take-append-drop 64 line) ∙ ap (λ t. take 64 line ++ t) behind ∙ ap (λ t. t ++ 32 ∷ drop 65 line) (sym digest)

-- what a good line is
record IsGood (before line : List ℕ) : Type 0 where
  form : is_line line ≡ true
  above : is_lt (slice_cmp nat_cmp before (drop 65 line)) ≡ true
  other : is_own_path (drop 65 line) ≡ false

good_parts : (before line : List ℕ) → is_good before line ≡ true → IsGood before line
unfolding is_good
good_parts before line h =
    let other = and_parts _ (not (is_own_path (drop 65 line))) h in
    let above = and_parts (is_line line) _ other.0 in
    record { form = above.0; above = above.1; other = not-true _ other.1 }

-- a line that was passed
passed : (b : Bool) (n : ℕ) (rest : Option ℕ) → cond b rest (Some n) ≡ None → (b ≡ true) × (rest ≡ None)
passed true n rest h = (refl, h)
passed false n rest h = absurd (cc)

nothing_behind : (last : List ℕ) (n : ℕ) → cond (length last == 0) None (Some n) ≡ None → last ≡ []
nothing_behind [] n h = refl
nothing_behind (x ∷ last) n h = absurd (grind (arith, nat_tests))

regroup : (digits path rest : List ℕ) → (digits ++ 32 ∷ path) ++ 10 ∷ rest ≡ (digits ++ 32 ∷ path ++ 10 ∷ []) ++ rest
regroup digits path rest = simp append_assoc

text_from : (before : List ℕ) (n : ℕ) (ps : List (List ℕ)) → 1 ≤ length ps → bad_line_from before n ps ≡ None
    → join_with_byte 10 ps ≡ flat_map line_text (map as_pair (said_by ps))
text_from before n [] h good = absurd (omega arith)
text_from before n (last ∷ []) h good = nothing_behind last n good
text_from before n (line ∷ next ∷ rest) h good =
    let here = passed (is_good before line) n _ good in
    let fact = good_parts before line here.0 in
    let more = text_from (drop 65 line) (n + 1) (next ∷ rest) (omega arith) here.1 in
    ap (λ t. line ++ 10 ∷ t) more ∙ ap (λ t. t ++ 10 ∷ flat_map line_text (map as_pair (said_by (next ∷ rest))))
    (good_line line fact.form)
    ∙ regroup (encode_lower (said line).digest) (drop 65 line) _
    ∙ ap (λ p. (encode_lower (said line).digest ++ 32 ∷ p ++ 10 ∷ []) ++ flat_map line_text
    (map as_pair (said_by (next ∷ rest)))) (sym (said-path line))

-- a text without a bad line is that of its entries
pub text_of_entries : (text : List ℕ) → bad_line text ≡ None → text ≡ flat_map line_text (map as_pair (entries text))
text_of_entries text good =
    sym (join_with_byte-slice_split 10 text) ∙ text_from [] 1 (parts text)
    (omega (arith, length-slice_split (λ b. b == 10) text)) good

pub is_less : (o : Ordering) → is_lt o ≡ true → o ≡ Less
is_less Less h = refl
is_less Equal h = absurd (cc)
is_less Greater h = absurd (cc)

below_less : (x y : List ℕ) (ps : List (List ℕ × List ℕ)) → slice_cmp nat_cmp x y ≡ Less
    → below_all (slice_cmp nat_cmp) y ps ≡ true → below_all (slice_cmp nat_cmp) x ps ≡ true
below_less x y [] less h = refl
below_less x y (p ∷ ps) less h =
    let both = and_parts _ (below_all (slice_cmp nat_cmp) y ps) h in
    rw (nat_list_cmp_total.trans x y p.0 less (is_less _ both.0), below_less x y ps less both.1) refl

-- the paths of entries strictly rise, above that path, and none is the listing's
pub record Ascends (before : List ℕ) (es : List Entry) : Type 0 where
  pub above : below_all (slice_cmp nat_cmp) before (map as_pair es) ≡ true
  pub sorted : is_sorted (slice_cmp nat_cmp) (map as_pair es) ≡ true
  pub others : list_all (λ e. not (is_own_path e.path)) es ≡ true

pub ascends_from : (before : List ℕ) (n : ℕ) (ps : List (List ℕ)) → bad_line_from before n ps ≡ None
    → Ascends before (said_by ps)
ascends_from before n [] good = record { above = refl; sorted = refl; others = refl }
ascends_from before n (last ∷ []) good = record { above = refl; sorted = refl; others = refl }
ascends_from before n (line ∷ next ∷ rest) good =
    let here = passed (is_good before line) n _ good in
    let fact = good_parts before line here.0 in
    let more : Ascends (drop 65 line) (said_by (next ∷ rest)) =
    ascends_from (drop 65 line) (n + 1) (next ∷ rest) here.1 in
    let path = said-path line in
    record {
      above = rw (path, fact.above) (below_less before (drop 65 line) _ (is_less _ fact.above) more.above);
      sorted = rw (path, more.above) more.sorted;
      others = rw (path, fact.other) more.others;
    }
