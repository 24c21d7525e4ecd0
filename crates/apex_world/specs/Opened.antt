-- The world that rows are read back to: docs/rows.md, "Opening". A row that isn't of the form of its table is skipped.
-- Names, keys and paths are sought in all keys, whatever these are of; each is then looked up by its own key.
use Rattle.std.specs.Prelude.{ℕ, zero, suc, ◌==◌, ◌&&◌, nat_lt, List, [], ◌∷◌, ◌++◌, length, take, map, filter, flat_map, fold, Option, Some, None, option_and_then, if◌then◌else◌, ◌≡◌, refl}
use Rattle.std.specs.Int.{w32, w64, from_be_bytes}
use Rattle.std.specs.List.{range_with_len}
use Rattle.std.specs.FinMap as fin
use Rattle.apex_base.specs.declared.numbers.Scale.{Scale}
use Rattle.apex_base.specs.declared.numbers.SessionId.{SessionId}
use Rattle.apex_base.specs.declared.records.Record.{Record}
use Rattle.apex_base.specs.declared.records.Target.{Target}
use Rattle.apex_base.specs.declared.records.Target.TheVariants as targets
use Rattle.apex_base.specs.Held.{kept, is_target}
use Rattle.apex_base.specs.Keys.{RowMap, Boots, RecordOf, key_text, file_front, data_front, snapshot_front, pre_restore_front, watch_front, tabulate, ends_of}
use Rattle.apex_base.specs.Modules.{FileMap}
use Rattle.apex_base.specs.Reading.{◌>>=◌, byte_at, number_at, at_end, bytes_at}
use Rattle.apex_base.specs.Sessions.{names, with_session}
use Rattle.apex_base.specs.Spelling.{record_of, moment_at}
use Rattle.apex_base.specs.Tables.{NameMap, with_part}
use Rattle.apex_base.specs.Text.{is_name, is_path}
use Rattle.apex_world.specs.declared.world.Submission.{Submission}
use Rattle.apex_world.specs.World.{World, Contents, Watches, empty_world}

-- Boots

unfoldable pub moments_at : ℕ → List ℕ → Option (List ℕ)
moments_at zero bytes = at_end [] bytes
moments_at (suc n) bytes = do
  m ← moment_at bytes
  ms ← moments_at n m.1
  Some (m.0 ∷ ms)

-- how many boots there were, and the last moments
unfoldable pub boots_of : List ℕ → Option (ℕ × List ℕ)
boots_of bytes = do
  n ← number_at w32 bytes
  count ← byte_at n.1
  moments ← moments_at count.0 count.1
  Some (n.0, moments)

abbrev pub boots_or_none : Option (ℕ × List ℕ) → ℕ × List ℕ
boots_or_none None = (0, [])
boots_or_none (Some b) = b

abbrev pub opened_boots : RowMap → ℕ × List ℕ
opened_boots rows = boots_or_none (option_and_then boots_of (fin.get rows (key_text Boots)))

-- Sessions

-- the session of an id
abbrev pub record_in : RowMap → SessionId → Option Record
record_in rows id = if nat_lt id.0 4294967296 then option_and_then (record_of id) (fin.get rows (key_text (RecordOf id))) else None

abbrev pub with_some : Option Record → List Record → List Record
with_some None sessions = sessions
with_some (Some r) sessions = with_session r sessions

abbrev pub ids_in : RowMap → List SessionId
ids_in rows = map (λ bytes. record { 0 = from_be_bytes w32 bytes }) (ends_of 1 rows)

-- all sessions, ascending by id
abbrev pub opened_sessions : RowMap → List Record
opened_sessions rows = fold (λ sessions id. with_some (record_in rows id) sessions) [] (ids_in rows)

-- Modules

abbrev pub path_in : RowMap → SessionId → ℕ → List ℕ → Option (List ℕ)
path_in rows session part path = if is_path path then fin.get rows (file_front session part path) else None

-- the files of a session's part
abbrev pub opened_files : RowMap → SessionId → ℕ → FileMap
opened_files rows session part = tabulate (ends_of 6 rows) (path_in rows session part)

-- the module that a session submitted as one of its parts, where it is kept
abbrev pub opened_module : RowMap → List Record → SessionId → Target → List Submission
opened_module rows sessions id targets.Preinstalled = []
opened_module rows sessions id (targets.Module session part version) =
    if (session.0 == id.0) && is_target (kept sessions) session part then record { session = session; part = part; content = opened_files rows session part } ∷ [] else []

abbrev pub opened_modules : RowMap → List Record → List Submission
opened_modules rows sessions = flat_map (λ r. flat_map (λ p. opened_module rows sessions r.id p.target) r.parts) sessions

-- Data

-- the name that stands after its length; some bytes or other where none does
abbrev pub name_in : List ℕ → List ℕ
name_in [] = []
name_in (n ∷ rest) = take n rest

abbrev pub names_in : RowMap → List (List ℕ)
names_in rows = filter is_name (map name_in (ends_of 1 rows))

abbrev pub value_in : RowMap → (List ℕ → List ℕ) → List ℕ → Option (List ℕ)
value_in rows front key = if is_name key then fin.get rows (front key) else None

-- the values under the keys after a front of so many bytes
abbrev pub values_in : RowMap → (List ℕ → List ℕ) → NameMap (List ℕ)
values_in rows front = tabulate (ends_of (length (front [])) rows) (value_in rows front)

abbrev pub opened_contents : RowMap → Contents
opened_contents rows = fold (λ t name. with_part t name (values_in rows (data_front name))) fin.empty (names_in rows)

-- Eras

-- the sessions that a boot activated
abbrev pub activated_at : ℕ → List Record → List Record
activated_at b sessions = filter (λ r. r.activation == b) sessions

-- what they keep of a name, the snapshots first
abbrev pub kept_of : RowMap → List Record → List ℕ → NameMap (List ℕ)
kept_of rows sessions name = fin.from_entries (
    flat_map (λ r. fin.entries (values_in rows (snapshot_front r.id name))) sessions ++
    flat_map (λ r. fin.entries (values_in rows (pre_restore_front r.id name))) sessions)

abbrev pub named_in : List ℕ → List Record → List Record
named_in name sessions = filter (names name) sessions

abbrev pub era_of : RowMap → List Record → Contents
era_of rows sessions = fold (λ t name. with_part t name (kept_of rows (named_in name sessions) name)) fin.empty (flat_map (λ r. map (λ p. p.name) r.parts) sessions)

-- as many eras as boots
abbrev pub opened_eras : RowMap → List Record → ℕ → List Contents
opened_eras rows sessions n = map (λ b. era_of rows (activated_at b sessions)) (range_with_len 1 n)

-- Watches

unfoldable pub end_of : List ℕ → Option ℕ
end_of bytes = do
  n ← number_at w64 bytes
  at_end n.0 n.1

abbrev pub end_in : RowMap → List ℕ → List ℕ → Option ℕ
end_in rows observer name = option_and_then end_of (value_in rows (watch_front observer) name)

abbrev pub opened_ends : RowMap → List ℕ → NameMap ℕ
opened_ends rows observer = tabulate (ends_of (length (watch_front observer [])) rows) (end_in rows observer)

abbrev pub opened_watches : RowMap → Watches
opened_watches rows = fold (λ t observer. with_part t observer (opened_ends rows observer)) fin.empty (names_in rows)

-- The world, in which nothing runs yet

abbrev pub opened : RowMap → Scale → World
opened rows scale = record (empty_world scale) {
  sessions = opened_sessions rows;
  modules = opened_modules rows (opened_sessions rows);
  contents = opened_contents rows;
  eras = opened_eras rows (opened_sessions rows) (opened_boots rows).0;
  moments = (opened_boots rows).1;
  watches = opened_watches rows;
}

-- Worked values: the row of boots, read back; and bytes that end early

pub first_boot : boots_of (0 ∷ 0 ∷ 0 ∷ 1 ∷ 1 ∷ 0 ∷ 0 ∷ 0 ∷ 0 ∷ 0 ∷ 0 ∷ 3 ∷ 232 ∷ []) ≡ Some (1, 1000 ∷ [])
unfolding boots_of moments_at moment_at number_at bytes_at
first_boot = refl

pub ends_early : boots_of (0 ∷ 0 ∷ 0 ∷ 1 ∷ 1 ∷ 0 ∷ 0 ∷ []) ≡ None
unfolding boots_of moments_at moment_at number_at bytes_at
ends_early = refl
