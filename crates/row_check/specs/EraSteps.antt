-- What names had before boots, put together session by session: the first value counts.
use Rattle.std.specs.Prelude.{◌≡◌, ℕ, ◌<◌, ◌^◌, ◌==◌, ◌&&◌, List, Option, None, if◌then◌else◌}
use Rattle.std.specs.List.{list_any}
use Rattle.std.specs.Option.{option_or}
use Rattle.std.specs.Str.{bytes_eq}
use Rattle.std.specs.FinMap as fin
use Rattle.apex_base.specs.declared.records.Part.{Part}
use Rattle.apex_base.specs.declared.records.Record.{Record}
use Rattle.apex_base.specs.Keys.{RowMap}
use Rattle.apex_base.specs.Reading.{short_text}
use Rattle.apex_base.specs.Text.{is_name}
use Rattle.row_check.specs.KeptRows.{counting, first_kept, is_boot, era_key}
use Rattle.row_key.specs.Kept.{kept_text}

-- values before boots, and with them those that are told by boot, name and key, where there was none
abbrev pub Adds : RowMap → RowMap → (ℕ → List ℕ → List ℕ → Option (List ℕ)) → Type 0
Adds old new value = (boot : ℕ) (name key : List ℕ) → boot < 2 ^ 32
    → fin.get new (era_key boot name key) ≡ option_or (fin.get old (era_key boot name key)) (value boot name key)

module _ (m : RowMap) where
  -- what a session's rows of a tag say of one name
  abbrev pub kept_of_name : ℕ → Record → List ℕ → ℕ → List ℕ → List ℕ → Option (List ℕ)
  kept_of_name tag r own boot name key =
      if ((r.activation == boot) && is_name key) && bytes_eq own name then fin.get m (kept_text tag r.id name key)
      else None

  -- of the names of these parts
  abbrev pub kept_of_parts : ℕ → Record → List Part → ℕ → List ℕ → List ℕ → Option (List ℕ)
  kept_of_parts tag r parts boot name key =
      if ((r.activation == boot) && is_name key) && list_any (λ p. bytes_eq p.name name) parts
      then fin.get m (kept_text tag r.id name key) else None

  module _ (boots tag : ℕ) where
    -- of all its names
    abbrev pub kept_of_session : Record → ℕ → List ℕ → List ℕ → Option (List ℕ)
    kept_of_session r boot name key =
        if is_boot boots r.activation then kept_of_parts tag r r.parts boot name key else None

    -- and what the rows of all these sessions say
    abbrev pub kept_of_all : List Record → ℕ → List ℕ → List ℕ → Option (List ℕ)
    kept_of_all sessions boot name key =
        if is_boot boots boot && is_name key then first_kept m tag (short_text name key) (counting sessions boot name)
        else None
