-- Whether rows of what sessions keep are those of the world that they open to: docs/rows.md. Each row is one that its
-- session keeps, and each value that a session keeps is in its row.
use Rattle.std.specs.Prelude.{◌≡◌, ℕ, ◌==◌, ◌&&◌, Bool, true, false, List, [], ◌∷◌, Option, Some, None}
use Rattle.std.specs.Prelude.{if◌then◌else◌}
use Rattle.std.specs.Int.{w32}
use Rattle.std.specs.List.{list_all, AllByRecursion}
use Rattle.std.specs.FinMap as fin
use Rattle.apex_base.specs.declared.records.Record.{Record}
use Rattle.apex_base.specs.Keys.{RowMap, id_of}
use Rattle.apex_base.specs.Members.{In}
use Rattle.apex_base.specs.Reading.{◌>>=◌, number_at, short_at, four_text}
use Rattle.apex_base.specs.Sessions.{session_of}
use Rattle.row_check.specs.KeptRows.{era_key, keeps, kept_if}
use Rattle.row_key.specs.Kept.{kept_text}
use Rattle.row_check.specs.RightRows.{is_value}
use Rattle.row_key.specs.RowBytes.{FitBytes}
use Rattle.row_check.specs.RowFronts.{rows_after}

-- rows whose keys are bytes
abbrev pub FitKeys : List (List ℕ × List ℕ) → Type 0
FitKeys rows = AllByRecursion (λ row. FitBytes row.0) rows

-- what a key says, without its tag: a session that is there, a name, a key, and what follows the session
abbrev pub place_in : List Record → List ℕ → Option (Record × List ℕ × List ℕ × List ℕ)
place_in sessions rest = do
  id ← number_at w32 rest
  name ← short_at id.1
  r ← session_of sessions (id_of id.0)
  Some (r, name.0, name.1, id.1)

-- the values are those that names had before boots
module _ (sessions : List Record) (values : RowMap) (tag : ℕ) where
  -- the session of a place keeps this value there
  abbrev pub is_kept : Option (Record × List ℕ × List ℕ × List ℕ) → List ℕ → Bool
  is_kept None value = false
  is_kept (Some p) value =
      is_value (kept_if sessions tag p.1 (fin.get values (four_text p.0.activation p.3)) p.0) value

  -- a row of the tag is one that its session keeps
  abbrev pub is_right_row : List ℕ → List ℕ → Bool
  is_right_row [] value = true
  is_right_row (first ∷ rest) value = if first == tag then is_kept (place_in sessions rest) value else true

  abbrev pub are_right_rows : List (List ℕ × List ℕ) → Bool
  are_right_rows [] = true
  are_right_rows (row ∷ rows) = is_right_row row.0 row.1 && are_right_rows rows

  -- a row that isn't right
  pub record WrongRow (rows : List (List ℕ × List ℕ)) : Type 0 where
    pub row : List ℕ × List ℕ
    pub member : In row rows
    pub fits : FitBytes row.0
    pub wrong : is_right_row row.0 row.1 ≡ false

  module _ (m : RowMap) where
    -- a session has these values of a name
    abbrev pub has_values : Record → List ℕ → List (List ℕ × List ℕ) → Bool
    has_values r name rows = list_all (λ row. is_value (fin.get m (kept_text tag r.id name row.0)) row.1) rows

    -- all that the name had before its boot
    abbrev pub has_name_kept : Record → List ℕ → Bool
    has_name_kept r name = has_values r name (rows_after (era_key r.activation name []) (fin.entries values))

    -- what it keeps of all its names
    abbrev pub has_kept : Record → Bool
    has_kept r = if keeps sessions tag r then list_all (λ p. has_name_kept r p.name) r.parts else true

    -- and so has each of these sessions
    abbrev pub have_kept : List Record → Bool
    have_kept rs = list_all has_kept rs
