-- Which rows stand in the rows of the world that they open to, tag by tag: docs/rows.md. A key is given without its
-- tag.
use Rattle.std.specs.Prelude.{◌≡◌, ℕ, ◌≢◌, if◌then◌else◌, ◌==◌, ◌&&◌, Bool, true, false, not, is_some, nat_le, List}
use Rattle.std.specs.Prelude.{[], ◌∷◌, length, Option, Some, None}
use Rattle.std.specs.List.{list_any}
use Rattle.std.specs.Str.{bytes_eq}
use Rattle.apex_base.specs.declared.numbers.SessionId.{SessionId}
use Rattle.apex_base.specs.declared.records.Record.{Record}
use Rattle.apex_base.specs.Held.{is_module}
use Rattle.apex_base.specs.Members.{In}
use Rattle.apex_base.specs.Reading.{short_at}
use Rattle.apex_world.specs.Opened.{boots_of, end_of}
use Rattle.row_key.specs.Data.{are_names, is_data_row}
use Rattle.row_key.specs.Records.{record_in_row}
use Rattle.row_key.specs.RowBytes.{FitRow}

-- there is a value, and it is this
abbrev pub is_value : Option (List ℕ) → List ℕ → Bool
is_value None value = false
is_value (Some other) value = bytes_eq other value

-- 1. there was a boot, and there are at most five moments

abbrev pub are_boots : Option (ℕ × List ℕ) → Bool
are_boots None = false
are_boots (Some b) = not (b.0 == 0) && nat_le (length b.1) 5

abbrev pub is_boots_row : List ℕ → List ℕ → Bool
is_boots_row [] value = are_boots (boots_of value)
is_boots_row (b ∷ rest) value = false

-- 2. the key is an id, and the value spells a record

abbrev pub is_record_row : List ℕ → List ℕ → Bool
is_record_row key value = is_some (record_in_row key value)

-- 5. the session has the module as the target of one of its parts

abbrev pub has_own : List Record → SessionId → ℕ → Bool
has_own sessions id part =
    list_any (λ r. (r.id.0 == id.0) && list_any (λ p. is_module id part p.target) r.parts) sessions

-- 9. the key is as one of data, and the value is a watch's end
abbrev pub is_watch_row : List ℕ → List ℕ → Bool
is_watch_row key value = are_names (short_at key) && is_some (end_of value)

-- Rows of the tags that stand for themselves: whether one is right is read off its key and its value

abbrev pub StandsAlone : ℕ → Type 0
StandsAlone tag = (tag ≢ 3) × (tag ≢ 4) × (tag ≢ 5) × (tag ≢ 7) × (tag ≢ 8)

abbrev pub is_right_row : ℕ → List ℕ → List ℕ → Bool
is_right_row tag key value =
    if tag == 1 then is_boots_row key value
    else (if tag == 2 then is_record_row key value
    else (if tag == 6 then is_data_row key
    else (if tag == 9 then is_watch_row key value
    else false)))

-- the row is of another tag, or it is right
abbrev pub is_right_at : ℕ → List ℕ → List ℕ → Bool
is_right_at tag [] value = true
is_right_at tag (first ∷ key) value = if first == tag then is_right_row tag key value else true

abbrev pub are_right_at : ℕ → List (List ℕ × List ℕ) → Bool
are_right_at tag [] = true
are_right_at tag (row ∷ rows) = is_right_at tag row.0 row.1 && are_right_at tag rows

-- a row of this tag that isn't right
pub record WrongRow (tag : ℕ) (rows : List (List ℕ × List ℕ)) : Type 0 where
  pub row : List ℕ × List ℕ
  pub member : In row rows
  pub fits : FitRow row
  pub wrong : is_right_at tag row.0 row.1 ≡ false
