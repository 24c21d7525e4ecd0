-- Which session is unfinished and has a name: docs/sessions.md. No two of them share a name.
use Rattle.std.specs.Prelude.{ℕ, ◌≡◌, ◌&&◌, ◌==◌, Bool, true, false, not, List, is_some, Option, Some, None, find}
use Rattle.std.specs.Prelude.{option_and_then, if◌then◌else◌}
use Rattle.std.specs.BTreeMap as tree
use Rattle.std.specs.BTreeMap.{BTreeMap}
use Rattle.std.specs.Cmp.Lexicographic.{slice_cmp}
use Rattle.std.specs.List.{AllByRecursion, list_any}
use Rattle.std.specs.Option.{option_map}
use Rattle.std.specs.Ordering.{nat_cmp}
use Rattle.std.specs.Str.{bytes_eq}
use Rattle.apex_base.specs.declared.numbers.SessionId.{SessionId}
use Rattle.apex_base.specs.declared.records.Part.{Part}
use Rattle.apex_base.specs.declared.records.Record.{Record}
use Rattle.apex_base.specs.Held.{is_unfinished}
use Rattle.apex_base.specs.Sessions.{names}

-- the session that is unfinished and has the name
abbrev pub unfinished_with : List Record → List ℕ → Option SessionId
unfinished_with sessions name = option_map (λ r. r.id) (find (λ r. is_unfinished r.state && names name r) sessions)

-- sessions by names. Under a name there may be room for one, and none
abbrev pub ByName : Type 0
ByName = BTreeMap (List ℕ) (Option SessionId)

-- the session that stands under a name
abbrev pub under : ByName → List ℕ → Option SessionId
under by_name name = option_and_then (λ id. id) (tree.get (slice_cmp nat_cmp) by_name name)

-- under each name stands the session that is unfinished and has it
abbrev pub AreUnfinished : ByName → List Record → Type 0
AreUnfinished by_name sessions = (name : List ℕ) → under by_name name ≡ unfinished_with sessions name

-- there is room under the names of these parts
abbrev pub HaveRoom : ByName → List Part → Type 0
HaveRoom by_name parts = AllByRecursion (λ p. is_some (tree.get (slice_cmp nat_cmp) by_name p.name) ≡ true) parts

-- one of the parts has the name
abbrev pub has_name : List Part → List ℕ → Bool
has_name parts name = list_any (λ p. bytes_eq p.name name) parts

-- it is this session
abbrev pub is_session : SessionId → Option SessionId → Bool
is_session id None = false
is_session id (Some x) = x.0 == id.0

-- what stands under a name, but for this session if that gives the name up
abbrev pub without : Bool → SessionId → Option SessionId → Option SessionId
without gives_up id found = if gives_up && is_session id found then None else found

-- a session has its names no more once it is finished
abbrev pub left_to : Record → List ℕ → Option SessionId → Option SessionId
left_to r name before = without (not (is_unfinished r.state) && names name r) r.id before

-- a new session has its names
abbrev pub entered_to : Record → List ℕ → Option SessionId → Option SessionId
entered_to r name before = if names name r then Some r.id else before
