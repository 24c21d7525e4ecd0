-- What a line says after its first word: docs/formats/script.md, "Lines". A word's number counts the first one.
use Rattle.std.specs.Prelude.{ℕ, List, [], ◌∷◌, Option, Some, None, Result, Ok, ok_or, if◌then◌else◌}
use Rattle.apex_base.specs.declared.numbers.Scale.{Scale}
use Rattle.apex_base.specs.declared.numbers.SessionId.{SessionId}
use Rattle.apex_base.specs.Results.{◌>>=◌}
use Rattle.apex_base.specs.Text.{name_of, path_of, print_of}
use Rattle.device_script.specs.declared.fault.LineFault.{LineFault}
use Rattle.device_script.specs.declared.fault.LineFault.TheVariants.{Words, BadWord}
use Rattle.device_script.specs.declared.words.PartWord.{PartWord}
use Rattle.device_script.specs.Words.{cut_word, scale_of, id_of, time_of, workers_of, content_of, part_of}
use Rattle.device_script.specs.Words.{is_plain_kind}

-- the words of a line, if it has this many

abbrev pub no_word : List (List ℕ) → Option (Unit {0})
no_word [] = Some tt
no_word _ = None

abbrev pub one_word : List (List ℕ) → Option (List ℕ)
one_word (a ∷ []) = Some a
one_word _ = None

abbrev pub two_words : List (List ℕ) → Option (List ℕ × List ℕ)
two_words (a ∷ b ∷ []) = Some (a, b)
two_words _ = None

abbrev pub three_words : List (List ℕ) → Option (List ℕ × List ℕ × List ℕ)
three_words (a ∷ b ∷ c ∷ []) = Some (a, b, c)
three_words _ = None

-- what was read of the word with this number, or that it couldn't be read
abbrev pub read_or : {T : Type 0} → ℕ → Option T → Result T LineFault
read_or word read = ok_or read (BadWord word)

-- the one word of a line, read
abbrev pub one_read : {T : Type 0} → (List ℕ → Option T) → List (List ℕ) → Result T LineFault
one_read reading words = do
  word ← ok_or (one_word words) Words
  read_or 2 (reading word)

unfoldable pub scale_words : List (List ℕ) → Result Scale LineFault
scale_words words = one_read scale_of words

unfoldable pub print_words : List (List ℕ) → Result (List ℕ) LineFault
print_words words = one_read print_of words

unfoldable pub part_words : List (List ℕ) → Result PartWord LineFault
part_words words = one_read part_of words

-- a moment, and a number of workers
unfoldable pub boot_words : List (List ℕ) → Result (ℕ × ℕ) LineFault
boot_words words = do
  both ← ok_or (two_words words) Words
  time ← read_or 2 (time_of both.0)
  workers ← read_or 3 (workers_of both.1)
  Ok (time, workers)

-- Calls

-- an id, `plain`, and a part
unfoldable pub submit_words : List (List ℕ) → Result (SessionId × PartWord) LineFault
submit_words words = do
  all ← ok_or (three_words words) Words
  id ← read_or 2 (id_of all.0)
  kind ← read_or 3 (if is_plain_kind all.1 then Some all.1 else None)
  part ← read_or 4 (part_of all.2)
  Ok (id, part)

unfoldable pub id_words : List (List ℕ) → Result SessionId LineFault
id_words words = one_read id_of words

-- a moment and an id
unfoldable pub success_words : List (List ℕ) → Result (ℕ × SessionId) LineFault
success_words words = do
  both ← ok_or (two_words words) Words
  time ← read_or 2 (time_of both.0)
  id ← read_or 3 (id_of both.1)
  Ok (time, id)

-- Module blocks

unfoldable pub label_words : List (List ℕ) → Result (List ℕ) LineFault
label_words words = one_read name_of words

-- a path and a content
unfoldable pub file_words : List (List ℕ) → Result (List ℕ × List ℕ) LineFault
file_words words = do
  both ← ok_or (two_words words) Words
  path ← read_or 2 (path_of both.0)
  content ← read_or 3 (content_of both.1)
  Ok (path, content)

-- a path; the content is what comes after it and one space, and no list of words
unfoldable pub text_said : List ℕ → Result (List ℕ × List ℕ) LineFault
text_said rest = do
  both ← ok_or (cut_word rest) Words
  path ← read_or 2 (path_of both.0)
  Ok (path, both.1)

unfoldable pub path_words : List (List ℕ) → Result (List ℕ) LineFault
path_words words = one_read path_of words

-- nothing more
unfoldable pub bare_words : List (List ℕ) → Result (Unit {0}) LineFault
bare_words words = ok_or (no_word words) Words
