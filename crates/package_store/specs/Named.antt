-- How changes are noted: first what names hold and held before, then what each row makes of it.
use Rattle.std.specs.Prelude.{ℕ, ◌&&◌, ◌||◌, ◌==◌, not, List, [], ◌∷◌, fold, Option, Some, None, if◌then◌else◌, Bool}
use Rattle.std.specs.Prelude.{false}
use Rattle.std.specs.Str.{bytes_eq}
use Rattle.apex_base.specs.declared.records.Part.{Part}
use Rattle.apex_base.specs.declared.records.Record.{Record}
use Rattle.apex_base.specs.declared.records.Target.{Target}
use Rattle.apex_base.specs.Held.{is_undoable, before}
use Rattle.apex_base.specs.Spelling.{target_text}
use Rattle.package_store.specs.Latest.{Best}

-- what is noted of a key
abbrev pub Note : Type 0
Note = Option (Option (List ℕ))

-- what was noted first stays
abbrev pub or_first : Note → Note → Note
or_first None next = next
or_first (Some value) next = Some value

-- a name holds this target
abbrev pub note_active : List ℕ → Target → List ℕ → Note → Note
note_active name target key noted =
    if bytes_eq key (3 ∷ name) then Some (Some (target_text target [])) else noted

-- what all names hold is noted, and nothing else yet
abbrev pub note_held : List (List ℕ × Best) → List ℕ → Note
note_held held key = fold (λ noted (e : List ℕ × Best). note_active e.0 e.1.1 key noted) None held

-- what a name held before a session that can be undone
abbrev pub note_backup : List Record → Record → List ℕ → List ℕ → Note → Note
note_backup records r name key noted =
    if bytes_eq key (4 ∷ name) then or_first noted (Some (Some (target_text (before records r name) []))) else noted

-- the same for each of its names
abbrev pub note_backups : List Record → Record → List ℕ → Note → Note
note_backups records r key noted = fold (λ noted (p : Part). note_backup records r p.name key noted) noted r.parts

-- but for no session that can't be undone
abbrev pub if_undoable : List Record → List ℕ → Note → Record → Note
if_undoable records key noted r = if is_undoable r.state then note_backups records r key noted else noted

-- what names hold, and held before sessions that can be undone
abbrev pub note_all : List Record → List (List ℕ × Best) → List ℕ → Note
note_all records held key = fold (if_undoable records key) (note_held held key) records

-- a value that is wanted is there already, or nothing is wanted where there is one
abbrev pub resettled : Note → List ℕ → Note
resettled None value = Some None
resettled (Some None) value = Some None
resettled (Some (Some wanted)) value = if bytes_eq wanted value then None else Some (Some wanted)

-- what is noted of a row's key once the row is seen, by whether a file's row stays
abbrev pub note_row : (List ℕ → Bool) → List ℕ → List ℕ → Note → Note
note_row stays [] value noted = noted
note_row stays (tag ∷ rest) value noted =
    if (tag == 3) || (tag == 4) then resettled noted value
    else (if (tag == 5) && not (stays rest) then Some None else noted)

-- this value is noted
abbrev pub is_wanted : Note → List ℕ → Bool
is_wanted None value = false
is_wanted (Some None) value = false
is_wanted (Some (Some wanted)) value = bytes_eq wanted value
