-- The words of a line, and what single words say: docs/formats/script.md, "Words".
use Rattle.std.specs.Prelude.{ℕ, ◌+◌, ◌-◌, ◌*◌, ◌&&◌, ◌==◌, Bool, not, nat_le, nat_lt, List, [], ◌∷◌, length, take}
use Rattle.std.specs.Prelude.{drop, filter, fold, codes, Option, Some, None, position, option_and_then, option_map}
use Rattle.std.specs.Prelude.{slice_index, if◌then◌else◌}
use Rattle.std.specs.List.{list_all, slice_split}
use Rattle.std.specs.Result.{result_ok}
use Rattle.std.specs.Str.{bytes_eq}
use Rattle.hex.specs.Hex.{decode_of}
use Rattle.apex_base.specs.declared.numbers.Scale.{Scale}
use Rattle.apex_base.specs.declared.numbers.Scale.TheVariants.{Small, Standard}
use Rattle.apex_base.specs.declared.numbers.SessionId.{SessionId}
use Rattle.apex_base.specs.Text.{name_of}
use Rattle.apex_base.specs.Numbers.{version_of, millis_of}
use Rattle.device_script.specs.declared.words.PartWord.{PartWord}
use Rattle.device_script.specs.declared.words.PartWord.TheVariants.{Short, Label}

-- the words of a line, separated by spaces
abbrev pub words_of : List ℕ → List (List ℕ)
words_of line = filter (λ w. not (length w == 0)) (slice_split (λ b. b == 32) line)

abbrev pub cut_at : Option ℕ → List ℕ → List ℕ × List ℕ
cut_at None bytes = (bytes, [])
cut_at (Some i) bytes = (take i bytes, drop (i + 1) bytes)

-- what comes before the first space, and what comes after it
abbrev pub cut_at_space : List ℕ → List ℕ × List ℕ
cut_at_space bytes = cut_at (position (λ b. b == 32) bytes) bytes

-- the first word, and what comes after the one space that ends it
abbrev pub cut_word : List ℕ → Option (List ℕ × List ℕ)
cut_word [] = None
cut_word (b ∷ bs) = if b == 32 then cut_word bs else Some (cut_at_space (b ∷ bs))

abbrev pub is_digit : ℕ → Bool
is_digit b = nat_le 48 b && nat_le b 57

-- the number that digits spell
abbrev pub decimal_value : List ℕ → ℕ
decimal_value digits = fold (λ n d. 10 * n + (d - 48)) 0 digits

-- digits without a leading zero, except for 0 itself
abbrev pub is_number : List ℕ → Bool
is_number digits = not (length digits == 0) && not (nat_lt 1 (length digits) && (slice_index digits 0 == 48))
    && list_all is_digit digits

-- the number that the bytes spell, if it is at most this large
unfoldable pub number_of : ℕ → List ℕ → Option ℕ
number_of most digits =
    if is_number digits && nat_le (decimal_value digits) most then Some (decimal_value digits) else None

abbrev pub scale_of : List ℕ → Option Scale
scale_of word =
    if bytes_eq word (codes "small") then Some Small
    else (if bytes_eq word (codes "standard") then Some Standard else None)

-- a session's id
abbrev pub id_of : List ℕ → Option SessionId
id_of word = option_map (λ n. record { 0 = n }) (number_of 4294967295 word)

abbrev pub time_of : List ℕ → Option ℕ
time_of word = option_and_then millis_of (number_of 9007199254740991 word)

-- a number of workers, 1 to 64
abbrev pub workers_of : List ℕ → Option ℕ
workers_of word = option_and_then (λ n. if nat_le 1 n then Some n else None) (number_of 64 word)

abbrev pub is_plain_kind : List ℕ → Bool
is_plain_kind word = bytes_eq word (codes "plain")

-- the bytes that a word in hexadecimal spells; a hyphen spells none
abbrev pub content_of : List ℕ → Option (List ℕ)
content_of word = if bytes_eq word (codes "-") then Some [] else result_ok (decode_of word)

infixl 10 ◌>>=◌
abbrev pub ◌>>=◌ : {A B : Type 0} → Option A → (A → Option B) → Option B
o >>= f = option_and_then f o

-- NAME@VERSION
unfoldable pub short_of : List ℕ → Option PartWord
short_of word = do
  at ← position (λ b. b == 64) word
  name ← name_of (take at word)
  number ← number_of 9223372036854775807 (drop (at + 1) word)
  version ← version_of number
  Some (Short name version)

-- a dollar sign and a label, or NAME@VERSION
abbrev pub part_of : List ℕ → Option PartWord
part_of [] = None
part_of (b ∷ bs) = if b == 36 then option_map Label (name_of bs) else short_of (b ∷ bs)
