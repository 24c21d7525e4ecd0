-- A manifest in its short text is read. Callers want `short_manifest-reads`.
use Rattle.std.proofs.Common.{◌≡◌, ◌≢◌, ◌≤◌, ◌<◌, ◌^◌, ℕ, true, List, [], ◌∷◌, ◌++◌, codes, decimal, Some}
use Rattle.std.proofs.Common.{option_and_then, Ok, IsUtf8, IsTrue, refl, sym, ap, subst, ◌∙◌, le-leb, arith}
use Rattle.std.proofs.Common.{append_assoc, append-nil}
use Rattle.std.specs.List.{list_all}
use Rattle.std.specs.Str.{IsAscii}
use Rattle.std.proofs.lemmas.Bool.{and_parts}
use Rattle.std.proofs.lemmas.Bool.Decides.{nat_tests}
use Rattle.std.proofs.lemmas.Fmt.{IsAscii-decimal}
use Rattle.std.proofs.lemmas.Str.{IsUtf8-append, IsUtf8-from_ascii}
use Rattle.std.proofs.lemmas.Str.Ascii.{IsAscii-nil, IsAscii-cons}
use Rattle.json.specs.Lex.{tokens}
use Rattle.json.specs.Json as json
use Rattle.json.specs.Print.{escape, escape_byte}
use Rattle.json.specs.Tree.{json_tokens}
use Rattle.json.proofs.Printed.Decimals.{IsNumber-decimal}
use Rattle.json.proofs.Printed.Strings.{escape_byte_plain}
use Rattle.json.proofs.Printed.Tokens.{tokens-print}
use Rattle.json.proofs.Printed.Utf8.{IsUtf8-are_ascii}
use Rattle.json.proofs.Printed.Trees.{value-json_tokens, ArePrintable-json_tokens}
use Rattle.serde_json.specs.Data.{Data, unsigned, number, string, object, member, no_members}
use Rattle.serde_json.specs.Read.{read, of_json, max_depth}
use Rattle.serde_json.specs.Written.{outline, compact_text}
use Rattle.serde_json.proofs.Numbers.{number_of-decimal}
use Rattle.serde_json.proofs.Texts.{print-outline}
use Rattle.apex_base.specs.Ranges.{IsVersion}
use Rattle.apex_base.specs.Text.{is_name, is_name_byte, is_short_text}
use Rattle.apex_manifest.specs.Manifest.{short_manifest, manifest_of, manifest_from}
use Rattle.apex_manifest.proofs.Manifests.{manifest_of-read}

-- ---- no byte of a name is escaped

name_byte_bounds : (b : ℕ) → is_name_byte b ≡ true → (46 ≤ b) × (b ≢ 92) × (b ≤ 122)
name_byte_bounds b is = grind (arith, nat_tests)

escape-name : (name : List ℕ) → list_all is_name_byte name ≡ true → escape name ≡ name
escape-name [] all = refl
escape-name (b ∷ bs) all =
    let both = and_parts (is_name_byte b) _ all in
    let bounds = name_byte_bounds b both.0 in
    ap (λ l. l ++ escape bs) (escape_byte_plain b (λ e. omega arith) bounds.1 (omega arith))
    ∙ ap (λ l. b ∷ l) (escape-name bs both.1)

IsAscii-name : (name : List ℕ) → list_all is_name_byte name ≡ true → IsAscii name
IsAscii-name [] all = IsAscii-nil
IsAscii-name (b ∷ bs) all =
    let both = and_parts (is_name_byte b) _ all in
    IsAscii-cons b bs (omega (arith, (name_byte_bounds b both.0).2)) (IsAscii-name bs both.1)

-- ---- the value that is spelled

abbrev short_value : List ℕ → ℕ → Data
short_value name version =
    object (member (codes "name") (string name) (member (codes "version") (number (unsigned version)) no_members))

-- the pieces, grouped from the right
short_manifest-grouped : (name : List ℕ) (version : ℕ)
    → short_manifest name version ≡ codes "{\"name\":\""
    ++ (name ++ (codes "\",\"version\":" ++ (decimal version ++ codes "}")))
short_manifest-grouped name version = simp append_assoc

short_manifest-compact : (name : List ℕ) (version : ℕ) → escape name ≡ name
    → short_manifest name version ≡ compact_text (short_value name version)
unfolding escape_byte
short_manifest-compact name version plain =
    let rest = codes ",\"version\":" ++ (decimal version ++ codes "}") in
    short_manifest-grouped name version
    ∙ ap (λ l. codes "{\"name\":\"" ++ l) (sym (append_assoc name (34 ∷ []) rest))
    ∙ ap (λ l. codes "{\"name\":\"" ++ ((l ++ 34 ∷ []) ++ rest)) (sym plain)

-- ---- the value is read

short_manifest-tokens : (name : List ℕ) (version : ℕ) → escape name ≡ name → version < 2 ^ 64
    → tokens (short_manifest name version) ≡ json_tokens (outline (short_value name version))
short_manifest-tokens name version plain small =
    let value = outline (short_value name version) in
    ap tokens (short_manifest-compact name version plain ∙ sym (print-outline (short_value name version)))
    ∙ tokens-print (json_tokens value) (ArePrintable-json_tokens value (tt, (IsNumber-decimal version small, tt)))

short_value-kept : (name : List ℕ) (version : ℕ) → version < 2 ^ 64
    → of_json (outline (short_value name version)) ≡ Some (short_value name version)
short_value-kept name version small = rw (number_of-decimal version small) refl

short_manifest-read : (name : List ℕ) (version : ℕ) → escape name ≡ name → version < 2 ^ 64
    → read (short_manifest name version) ≡ Some (short_value name version)
short_manifest-read name version plain small =
    let value = outline (short_value name version) in
    ap (λ o. option_and_then of_json (option_and_then (λ p. json.if_last p.0 p.1) o))
    (ap (json.value max_depth) (short_manifest-tokens name version plain small ∙ sym (append-nil (json_tokens value)))
    ∙ value-json_tokens value max_depth [] (omega arith))
    ∙ short_value-kept name version small

IsUtf8-short_manifest : (name : List ℕ) (version : ℕ) → IsAscii name → version < 2 ^ 64
    → IsUtf8 (short_manifest name version)
IsUtf8-short_manifest name version ascii small =
    subst IsUtf8 (sym (short_manifest-grouped name version))
    (IsUtf8-append _ _ (IsUtf8-are_ascii (codes "{\"name\":\"") refl)
    (IsUtf8-append _ _ (IsUtf8-from_ascii name ascii)
    (IsUtf8-append _ _ (IsUtf8-are_ascii (codes "\",\"version\":") refl)
    (IsUtf8-append _ _ (IsUtf8-from_ascii _ (IsAscii-decimal version small)) (IsUtf8-are_ascii (codes "}") refl)))))

-- ---- and says the name and the version

manifest_from-short_value : (name : List ℕ) (version : ℕ) → IsTrue (is_name name) → IsVersion version
    → manifest_from (short_value name version) ≡ Ok (record { name = name; version = version })
manifest_from-short_value name version is range =
    rw (is, le-leb 1 version range.0, le-leb version 9223372036854775807 range.1) refl

all_name_bytes : (name : List ℕ) → IsTrue (is_name name) → list_all is_name_byte name ≡ true
unfolding is_short_text
all_name_bytes name is = (and_parts _ _ is).1

pub short_manifest-reads : (name : List ℕ) (version : ℕ) → IsTrue (is_name name) → IsVersion version
    → manifest_of (short_manifest name version) ≡ Ok (record { name = name; version = version })
short_manifest-reads name version is range =
    let all = all_name_bytes name is in
    let small : version < 2 ^ 64 = omega (arith, range.1) in
    manifest_of-read _ _ (IsUtf8-short_manifest name version (IsAscii-name name all) small)
    (short_manifest-read name version (escape-name name all) small)
    ∙ manifest_from-short_value name version is range
