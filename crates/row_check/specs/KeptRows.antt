-- What rows of tags 7 and 8 say of the data just before each boot, and which of them stand in the rows of the world
-- that they open to: docs/rows.md, "Opening". The sessions and the number of boots are the opened ones.
use Rattle.std.specs.Prelude.{◌≡◌, ℕ, ◌<◌, ◌^◌, ◌==◌, ◌&&◌, Bool, not, nat_le, List, [], ◌∷◌, Option}
use Rattle.std.specs.Prelude.{Some, None, option_and_then, if◌then◌else◌}
use Rattle.std.specs.List.{AllByRecursion}
use Rattle.std.specs.Option.{option_or}
use Rattle.std.specs.FinMap as fin
use Rattle.apex_base.specs.declared.numbers.SessionId.{SessionId}
use Rattle.apex_base.specs.declared.records.Record.{Record}
use Rattle.apex_base.specs.Keys.{RowMap}
use Rattle.apex_base.specs.Reading.{four_text, short_text}
use Rattle.apex_base.specs.Sessions.{names, session_of}
use Rattle.apex_base.specs.Text.{is_name}
use Rattle.row_key.specs.Kept.{key_under, kept_text}
use Rattle.apex_world.specs.Opened.{opened_boots, opened_sessions, activated_at, named_in}
use Rattle.apex_world.specs.Rows.{has_snapshot, has_pre_restore}

-- the sessions whose rows count for what a name had before a boot
abbrev pub counting : List Record → ℕ → List ℕ → List Record
counting sessions boot name = named_in name (activated_at boot sessions)

-- the value at the first session's key of this tag, of those that have one
abbrev pub first_kept : RowMap → ℕ → List ℕ → List Record → Option (List ℕ)
first_kept m tag under [] = None
first_kept m tag under (r ∷ rs) = option_or (fin.get m (key_under tag r.id under)) (first_kept m tag under rs)

-- the first snapshot, or else the first value before a rollback
abbrev pub kept_by : RowMap → List ℕ → List Record → Option (List ℕ)
kept_by m under sessions = option_or (first_kept m 7 under sessions) (first_kept m 8 under sessions)

-- boots are numbered from 1
abbrev pub is_boot : ℕ → ℕ → Bool
is_boot boots boot = not (boot == 0) && nat_le boot boots

-- the value that a name had just before a boot
abbrev pub era_value : RowMap → List Record → ℕ → ℕ → List ℕ → List ℕ → Option (List ℕ)
era_value m sessions boots boot name key =
    if is_boot boots boot && is_name key then kept_by m (short_text name key) (counting sessions boot name) else None

-- the key of such a value, among all values that names had before boots
abbrev pub era_key : ℕ → List ℕ → List ℕ → List ℕ
era_key boot name key = four_text boot (short_text name key)

-- these are the values that names had before boots
abbrev pub AreEras : RowMap → List Record → ℕ → RowMap → Type 0
AreEras m sessions boots values = (boot : ℕ) (name key : List ℕ) → boot < 2 ^ 32
    → fin.get values (era_key boot name key) ≡ era_value m sessions boots boot name key

-- the boots that activated these sessions are within the range of boots
abbrev pub HaveBoots : List Record → Type 0
HaveBoots sessions = AllByRecursion (λ r. r.activation < 2 ^ 32) sessions

-- a session keeps values under this tag
abbrev pub keeps : List Record → ℕ → Record → Bool
keeps sessions tag r = if tag == 7 then has_snapshot sessions r else has_pre_restore r

-- this value, if a session keeps values of this name
abbrev pub kept_if : List Record → ℕ → List ℕ → Option (List ℕ) → Record → Option (List ℕ)
kept_if sessions tag name value r = if keeps sessions tag r then (if names name r then value else None) else None

-- the value that a session keeps
abbrev pub kept_value : RowMap → List Record → ℕ → ℕ → List ℕ → List ℕ → Record → Option (List ℕ)
kept_value m sessions boots tag name key r =
    kept_if sessions tag name (era_value m sessions boots r.activation name key) r

-- and that the session of an id keeps
abbrev pub kept_row : RowMap → ℕ → SessionId → List ℕ → List ℕ → Option (List ℕ)
kept_row m tag id name key =
    option_and_then (kept_value m (opened_sessions m) (opened_boots m).0 tag name key)
    (session_of (opened_sessions m) id)

-- each row of this tag is of a session, a name and a key, and such rows are those that sessions keep
pub record AreKept (m : RowMap) (tag : ℕ) : Type 0 where
  pub keyed : (rest value : List ℕ) → fin.get m (tag ∷ rest) ≡ Some value
      → (id : SessionId) × (name key : List ℕ) × (id.0 < 2 ^ 32) × (tag ∷ rest ≡ kept_text tag id name key)
  pub same : (id : SessionId) (name key : List ℕ) → id.0 < 2 ^ 32
      → fin.get m (kept_text tag id name key) ≡ kept_row m tag id name key
