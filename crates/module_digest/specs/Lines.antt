-- The lines of a listing, and what they say: docs/formats/module.md.
use Rattle.std.specs.Prelude.{ℕ, ◌+◌, ◌==◌, ◌&&◌, ◌||◌, Bool, not, nat_le, nat_lt, List, [], ◌∷◌, length, take, drop}
use Rattle.std.specs.Prelude.{slice_index, Option, Some, None, option_map, Result, Ok, if◌then◌else◌}
use Rattle.std.specs.List.{list_all, slice_split}
use Rattle.std.specs.Result.{result_unwrap_or}
use Rattle.std.specs.Ordering.{is_lt, nat_cmp}
use Rattle.std.specs.Cmp.Lexicographic.{slice_cmp}
use Rattle.apex_base.specs.Text.{is_path}
use Rattle.apex_base.specs.declared.fault.ModuleFault.{ModuleFault}
use Rattle.apex_base.specs.declared.fault.ModuleFault.TheVariants.{BadListing}
use Rattle.apex_base.specs.Results.{◌>>=◌, pass}
use Rattle.hex.specs.Hex.{decode_sized}
use Rattle.module_digest.specs.Listing.{is_own_path}
use Rattle.module_digest.specs.declared.lines.Entry.{Entry}

-- 0 to 9 and a to f
abbrev pub is_lower_digit : ℕ → Bool
is_lower_digit b = (nat_le 48 b && nat_le b 57) || (nat_le 97 b && nat_le b 102)

-- 64 digits, a space and a path
unfoldable pub is_line : List ℕ → Bool
is_line line =
    nat_lt 65 (length line) && list_all is_lower_digit (take 64 line)
    && slice_index line 64 == 32 && is_path (drop 65 line)

-- a path, and the digest that is listed for it
abbrev pub entry : List ℕ → List ℕ → Entry
entry path digest = record { path = path; digest = digest }

-- what such a line says
unfoldable pub said : List ℕ → Entry
said line = entry (drop 65 line) (result_unwrap_or (decode_sized (take 64 line) 32) [])

-- such a line is good after a line with a lesser path, unless it names the listing itself
unfoldable pub is_good : List ℕ → List ℕ → Bool
is_good before line =
    is_line line && is_lt (slice_cmp nat_cmp before (drop 65 line)) && not (is_own_path (drop 65 line))

-- what a line says, if it is of that form
abbrev pub entry_of : List ℕ → Option Entry
entry_of line = if is_line line then Some (said line) else None

-- what a line says after a line with that path, if it is good there
abbrev pub entry_after : List ℕ → List ℕ → Option Entry
entry_after before line = if is_good before line then Some (said line) else None

-- the parts of a text between its line feeds; the last one comes after the last line feed
abbrev pub parts : List ℕ → List (List ℕ)
parts text = slice_split (λ b. b == 10) text

-- the number of the first bad line, where the first of these has number n and comes after that path; the last
-- part is a bad line unless it is empty
abbrev pub bad_line_from : List ℕ → ℕ → List (List ℕ) → Option ℕ
bad_line_from before n [] = None
bad_line_from before n (last ∷ []) = if length last == 0 then None else Some n
bad_line_from before n (line ∷ next ∷ rest) =
    if is_good before line then bad_line_from (drop 65 line) (n + 1) (next ∷ rest) else Some n

-- lines are counted from 1, and any path is good in the first
abbrev pub bad_line : List ℕ → Option ℕ
bad_line text = bad_line_from [] 1 (parts text)

-- what the lines say, if all are good
abbrev pub said_by : List (List ℕ) → List Entry
said_by [] = []
said_by (last ∷ []) = []
said_by (line ∷ next ∷ rest) = said line ∷ said_by (next ∷ rest)

-- what the lines of a text say
abbrev pub entries : List ℕ → List Entry
entries text = said_by (parts text)

-- the entries of a text, or its first bad line
abbrev pub entries_read : List ℕ → Result (List Entry) ModuleFault
entries_read text = pass (option_map BadListing (bad_line text)) >>= λ _. Ok (entries text)
