-- What the keys of data and of what sessions keep of it say: docs/rows.md, tags 6, 7 and 8. A front is a key up to the
-- end of its name, so that the rows of one name stand under one front.
use Rattle.std.specs.Prelude.{ℕ, ◌+◌, ◌==◌, ◌||◌, ◌&&◌, Bool, false, List, [], ◌∷◌, take, slice_get, Option, Some, None}
use Rattle.std.specs.Prelude.{if◌then◌else◌}
use Rattle.std.specs.Option.{option_map}
use Rattle.apex_base.specs.Reading.{short_at}
use Rattle.apex_base.specs.Text.{is_name}

-- a name after its length, and then another that is all of the rest
abbrev pub are_names : Option (List ℕ × List ℕ) → Bool
are_names None = false
are_names (Some names) = is_name names.0 && is_name names.1

-- a key of data is two names, by the key without its tag; and so is one of a watch
abbrev pub is_data_row : List ℕ → Bool
is_data_row key = are_names (short_at key)

-- a key up to the end of the name whose length stands at this place
abbrev pub up_to_name : ℕ → List ℕ → Option (List ℕ)
up_to_name place key = option_map (λ len. take (place + 1 + len) key) (slice_get key place)

-- the front of a key, if it is of data or of what a session keeps
abbrev pub front_by : ℕ → List ℕ → Option (List ℕ)
front_by tag key =
    if tag == 6 then up_to_name 1 key else (if (tag == 7) || (tag == 8) then up_to_name 5 key else None)

abbrev pub front_of : List ℕ → Option (List ℕ)
front_of [] = None
front_of (tag ∷ rest) = front_by tag (tag ∷ rest)
