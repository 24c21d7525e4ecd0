-- What the rows of names say, by the sessions that were ever made: docs/rows.md, tags 3 and 4.
use Rattle.std.specs.Prelude.{ℕ, ◌&&◌, Bool, List, Option, Some, None, [], find, if◌then◌else◌}
use Rattle.std.specs.List.{list_any}
use Rattle.std.specs.Option.{option_map}
use Rattle.apex_base.specs.declared.records.Record.{Record}
use Rattle.apex_base.specs.Held.{is_undoable, is_standing, held, before}
use Rattle.apex_base.specs.Sessions.{names}
use Rattle.apex_base.specs.Spelling.{target_text}

-- the target that a name holds, where a session that stands names it

abbrev pub stands_for : List ℕ → Record → Bool
stands_for name r = is_standing r.state && names name r

abbrev pub active_of : List Record → List ℕ → Option (List ℕ)
active_of sessions name = if list_any (stands_for name) sessions then Some (target_text (held sessions name) []) else None

-- the target that it held before the session that can still be undone

abbrev pub is_undoable_for : List ℕ → Record → Bool
is_undoable_for name r = is_undoable r.state && names name r

abbrev pub backup_of : List Record → List ℕ → Option (List ℕ)
backup_of sessions name = option_map (λ r. target_text (before sessions r name) []) (find (is_undoable_for name) sessions)
