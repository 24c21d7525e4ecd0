-- Digits in lower case: what they spell, and that they are the digits of what they spell.
use Rattle.std.proofs.Common.{◌≡◌, ℕ, zero, suc, ◌+◌, ◌*◌, ◌/◌, ◌%◌, ◌<◌, ◌==◌, Bool, true, ◌&&◌, ◌||◌, not, List, []}
use Rattle.std.proofs.Common.{◌∷◌, ◌++◌, length, slice_index, Option, Some, None, unwrap_or, Ok, is_some, refl, ap, ◌∙◌}
use Rattle.std.proofs.Common.{arith, inl, inr}
use Rattle.std.specs.List.{list_all}
use Rattle.std.specs.Int.{to_be_bytes, w32, byte_at, bytes_high_first}
use Rattle.std.proofs.lemmas.Bool.{and_parts, cases_lt, eqb-true}
use Rattle.std.proofs.lemmas.Bool.Decides.{nat_tests}
use Rattle.hex.specs.Hex.{IsBytes, decode_pairs, decode_sized, digit_or_error, hex_digit_value, encode_lower}
use Rattle.hex.specs.Hex.{encode_with, lower_digits, pair_value, value_at}
use Rattle.hex.proofs.HexLemmas.{length-encode_with, decode_of-encode_lower, decode_sized-twice}
use Rattle.hex.proofs.Pairs.{cons_byte, decode_pairs-ok_pair, decode_sized-pairs}
use Rattle.sha2.specs.Sha256.{sha256, digest_bytes}
use Rattle.sha2.proofs.Facts256.{length-sha256}
use Rattle.module_digest.specs.Lines.{is_lower_digit}

-- the value of a digit in lower case leads back to it
abbrev back : ℕ → Bool
back b =
    not (is_lower_digit b) ||
    (is_some (hex_digit_value b) && (slice_index lower_digits (unwrap_or (hex_digit_value b) 0) == b))

-- the numbers below n pass
abbrev all_under : (ℕ → Bool) → ℕ → Bool
all_under test zero = true
all_under test (suc n) = test n && all_under test n

all_under-at : (test : ℕ → Bool) (n k : ℕ) → all_under test n ≡ true → k < n → test k ≡ true
all_under-at test zero k h lt = absurd (omega arith)
all_under-at test (suc n) k h lt =
    let parts = and_parts (test n) (all_under test n) h in
    elim (cases_lt k n) [
      | inl below ↦ all_under-at test n k parts.1 below
      | inr top ↦
          let e : k ≡ n = omega arith in
          rw e parts.0
    ]

or_right : (b : Bool) → not true || b ≡ true → b ≡ true
or_right b h = h

-- a digit that stands for v, and is the digit of v
record StandsFor (b v : ℕ) : Type 0 where
  reads : hex_digit_value b ≡ Some v
  small : v < 16
  digit : slice_index lower_digits v ≡ b

of_some : (b : ℕ) (o : Option ℕ) → hex_digit_value b ≡ o → is_some o ≡ true → hex_digit_value b ≡ Some (unwrap_or o 0)
of_some b (Some v) e h = e
of_some b None e h = absurd (cc)

value_small : (b v : ℕ) → hex_digit_value b ≡ Some v → v < 16
value_small b v h = grind (arith)

stands_for : (b : ℕ) → is_lower_digit b ≡ true → (v : ℕ) × StandsFor b v
stands_for b h =
    let low : b < 103 = grind (arith, nat_tests) in
    let told : back b ≡ true = all_under-at back 103 b refl low in
    let parts = and_parts _ _ (or_right _ (rw h at told)) in
    let read = of_some b (hex_digit_value b) refl parts.0 in (
      unwrap_or (hex_digit_value b) 0,
      record {
        reads = read;
        small = value_small b _ read;
        digit = eqb-true _ _ parts.1;
      },
    )

-- bytes whose digits in lower case are the text
record Spells (i : ℕ) (text bytes : List ℕ) : Type 0 where
  reads : decode_pairs i text ≡ Ok bytes
  back : encode_lower bytes ≡ text

pair_of : (a b i v w : ℕ) → StandsFor a v → StandsFor b w → pair_value a b i ≡ Ok (v * 16 + w)
pair_of a b i v w h k =
    let x : value_at a i ≡ Ok v = ap (digit_or_error a i) h.reads in
    let y : value_at b (i + 1) ≡ Ok w = ap (digit_or_error b (i + 1)) k.reads in
    rw (x, y) refl

digits_back : (a b v w : ℕ) (bytes rest : List ℕ) → StandsFor a v → StandsFor b w → encode_lower bytes ≡ rest
    → encode_lower ((v * 16 + w) ∷ bytes) ≡ a ∷ b ∷ rest
unfolding encode_with
digits_back a b v w bytes rest h k e =
    let small : w < 16 = k.small in
    let high : (v * 16 + w) / 16 ≡ v = omega arith in
    let low : (v * 16 + w) % 16 ≡ w = omega arith in
    rw (high, low, h.digit, k.digit, e) refl

spells : (i : ℕ) (text : List ℕ) → length text % 2 ≡ 0 → list_all is_lower_digit text ≡ true
    → (bytes : List ℕ) × Spells i text bytes
unfolding decode_pairs encode_with
spells i [] even h = ([], record { reads = refl; back = refl })
spells i (a ∷ []) even h = absurd (omega arith)
spells i (a ∷ b ∷ rest) even h =
    let one = and_parts _ _ h in
    let two = and_parts _ _ one.1 in
    let x = stands_for a one.0 in
    let y = stands_for b two.0 in
    let more = spells (i + 2) rest (omega arith) two.1 in
    let fact : Spells (i + 2) rest more.0 = more.1 in (
      (x.0 * 16 + y.0) ∷ more.0,
      record {
        reads = decode_pairs-ok_pair i a b _ rest (pair_of a b i x.0 y.0 x.1 y.1)
            ∙ ap (cons_byte (x.0 * 16 + y.0)) fact.reads;
        back = digits_back a b x.0 y.0 more.0 rest x.1 y.1 fact.back;
      },
    )

-- 64 digits spell 32 bytes, whose digits they are
pub record SpellsDigest (digits bytes : List ℕ) : Type 0 where
  pub reads : decode_sized digits 32 ≡ Ok bytes
  pub back : encode_lower bytes ≡ digits

pub digest_spelt : (digits : List ℕ) → length digits ≡ 64 → list_all is_lower_digit digits ≡ true
    → (bytes : List ℕ) × SpellsDigest digits bytes
digest_spelt digits long all =
    let s = spells 0 digits (omega arith) all in
    let fact : Spells 0 digits s.0 = s.1 in
    (s.0, record { reads = decode_sized-pairs digits 32 (omega arith) (omega arith) ∙ fact.reads; back = fact.back })

-- ---- the digits of bytes

lower_at : (k : ℕ) → k < 16 → is_lower_digit (slice_index lower_digits k) ≡ true
lower_at k h = all_under-at (λ n. is_lower_digit (slice_index lower_digits n)) 16 k refl h

pub all_lower-encode : (bytes : List ℕ) → IsBytes bytes → list_all is_lower_digit (encode_lower bytes) ≡ true
unfolding encode_with
all_lower-encode [] h = refl
all_lower-encode (b ∷ bytes) h =
    let fits : b < 256 = h 0 in
    let high : b / 16 < 16 = omega arith in
    let low : b % 16 < 16 = omega arith in
    rw (lower_at _ high, lower_at _ low) (all_lower-encode bytes (λ k. h (suc k)))

-- ---- a SHA-256 digest

IsBytes-append : (xs ys : List ℕ) → IsBytes xs → IsBytes ys → IsBytes (xs ++ ys)
IsBytes-append [] ys h k i = k i
IsBytes-append (x ∷ xs) ys h k zero = h 0
IsBytes-append (x ∷ xs) ys h k (suc i) = IsBytes-append xs ys (λ j. h (suc j)) k i

byte_small : (k n : ℕ) → byte_at k n < 256
byte_small zero n = omega arith
byte_small (suc k) n = omega arith

IsBytes-high_first : (k n : ℕ) → IsBytes (bytes_high_first k n)
IsBytes-high_first zero n i = omega arith
IsBytes-high_first (suc k) n zero = byte_small k n
IsBytes-high_first (suc k) n (suc i) = IsBytes-high_first k n i

IsBytes-digest : (h : List ℕ) (n : ℕ) → IsBytes (digest_bytes h n)
unfolding digest_bytes
IsBytes-digest h zero i = omega arith
IsBytes-digest h (suc n) i = IsBytes-append (digest_bytes h n) (to_be_bytes w32 (slice_index h n)) (IsBytes-digest h n)
    (IsBytes-high_first 4 (slice_index h n)) i

IsBytes-sha256 : (content : List ℕ) → IsBytes (sha256 content)
unfolding sha256
IsBytes-sha256 content = IsBytes-digest _ 8

-- the digits of a content's digest: 64 in lower case, which spell it
pub length-digits : (content : List ℕ) → length (encode_lower (sha256 content)) ≡ 64
length-digits content = omega (arith, length-encode_with lower_digits (sha256 content), length-sha256 content)

pub lower-digits : (content : List ℕ) → list_all is_lower_digit (encode_lower (sha256 content)) ≡ true
lower-digits content = all_lower-encode (sha256 content) (IsBytes-sha256 content)

pub spelt-digits : (content : List ℕ) → decode_sized (encode_lower (sha256 content)) 32 ≡ Ok (sha256 content)
spelt-digits content =
    decode_sized-twice (encode_lower (sha256 content)) 32 (omega (arith, length-digits content))
    ∙ decode_of-encode_lower (sha256 content) (IsBytes-sha256 content)
