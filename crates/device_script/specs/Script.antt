-- The script that bytes spell: docs/formats/script.md.
use Rattle.std.specs.Prelude.{◌≡◌, ℕ, ◌+◌, ◌&&◌, ◌==◌, Bool, true, nat_le, List, [], ◌∷◌, length, Option, Some, None}
use Rattle.std.specs.Prelude.{Result, Ok, Err, if◌then◌else◌}
use Rattle.std.specs.List.{list_all}
use Rattle.std.specs.Str.Lines.{lines}
use Rattle.apex_base.specs.Results.{◌>>=◌}
use Rattle.apex_world.specs.declared.script.Script.{Script}
use Rattle.device_script.specs.declared.draft.Draft.{Draft}
use Rattle.apex_base.specs.declared.why.Why.{Why}
use Rattle.apex_base.specs.declared.why.Why.TheVariants as why
use Rattle.device_script.specs.declared.fault.LineFault.{LineFault}
use Rattle.device_script.specs.declared.fault.LineFault.TheVariants.{TooLong, BadByte, UnknownWord, NotYet, BadPlace}
use Rattle.device_script.specs.declared.fault.ScriptWhy.{ScriptWhy}
use Rattle.device_script.specs.declared.fault.ScriptWhy.TheVariants.{Bad, NoMemory}
use Rattle.device_script.specs.declared.keyword.Keyword.{Keyword}
use Rattle.device_script.specs.Draft.{start, is_not_yet, may_stand, taken, finished}
use Rattle.device_script.specs.Keywords.{keyword_of}
use Rattle.device_script.specs.Words.{cut_word}

-- a line is passed over if it has no word, or its first word begins with a number sign
abbrev pub is_passed : List ℕ → Bool
is_passed [] = true
is_passed (b ∷ bs) = if b == 32 then is_passed bs else b == 35

-- every byte is printable
abbrev pub is_plain : List ℕ → Bool
is_plain line = list_all (λ b. nat_le 32 b && nat_le b 126) line

-- a keyword, its place and what comes after it are judged in this order
abbrev pub keyword_read : Draft → ℕ → Option Keyword → List ℕ → Result Draft LineFault
keyword_read d n None rest = Err UnknownWord
keyword_read d n (Some k) rest =
    if is_not_yet d k rest then Err NotYet
    else (if may_stand d k then taken d n k rest
    else Err BadPlace)

-- the first word of a line is its keyword
abbrev pub word_read : Draft → ℕ → Option (List ℕ × List ℕ) → Result Draft LineFault
word_read d n None = Err UnknownWord
word_read d n (Some (word, rest)) = keyword_read d n (keyword_of word) rest

-- a draft with one more line that isn't passed over
abbrev pub words_read : Draft → ℕ → List ℕ → Result Draft LineFault
words_read d n line = if is_plain line then word_read d n (cut_word line) else Err BadByte

-- a draft with one more line, which is line n
unfoldable pub line_read : Draft → ℕ → List ℕ → Result Draft LineFault
line_read d n line = if is_passed line then Ok d else words_read d n line

-- a fault, with the number of its line
abbrev pub at_line : {T : Type 0} → ℕ → Result T LineFault → Result T ScriptWhy
at_line n (Ok x) = Ok x
at_line n (Err fault) = Err (Bad n fault)

-- a draft with more lines, the first of which is line n
abbrev pub lines_read : ℕ → Draft → List (List ℕ) → Result Draft ScriptWhy
lines_read n d [] = Ok d
lines_read n d (l ∷ ls) = at_line n (line_read d n l) >>= λ e. lines_read (n + 1) e ls

-- the script that the bytes spell, or their first bad line
unfoldable pub script_of : List ℕ → Result Script ScriptWhy
script_of bytes =
    if nat_le (length bytes) 16777216 then (lines_read 1 start (lines bytes) >>= finished)
    else Err (Bad 0 TooLong)

-- what was read is what a definition says, unless memory ran out
abbrev pub ReadsAs : {T : Type 0} → Result T ScriptWhy → Result T ScriptWhy → Type 0
ReadsAs (Ok x) said = said ≡ Ok x
ReadsAs (Err (Bad line why)) said = said ≡ Err (Bad line why)
ReadsAs (Err NoMemory) said = Unit {0}

-- the error of a line, with its number
abbrev pub error_at : ℕ → Why LineFault → ScriptWhy
error_at n (why.Fault fault) = Bad n fault
error_at n why.NoMemory = NoMemory
