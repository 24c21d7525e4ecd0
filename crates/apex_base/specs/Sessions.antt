-- Looking for sessions: docs/sessions.md.
use Rattle.std.specs.Prelude.{ℕ, ◌==◌, ◌||◌, Bool, nat_lt, List, [], ◌∷◌, Option, Some, None, if◌then◌else◌, ◌<◌}
use Rattle.std.specs.List.{list_any}
use Rattle.std.specs.Str.{bytes_eq}
use Rattle.apex_base.specs.declared.numbers.SessionId.{SessionId}
use Rattle.apex_base.specs.declared.records.Record.{Record}
use Rattle.apex_base.specs.Members.{EachPair}

-- a session has the id, or one of its children does
abbrev pub has_id : SessionId → Record → Bool
has_id id r = (r.id.0 == id.0) || list_any (λ c. c.0 == id.0) r.children

-- a session has a part of this name
abbrev pub names : List ℕ → Record → Bool
names name r = list_any (λ p. bytes_eq p.name name) r.parts

-- two sessions have a name in common
abbrev pub shares : Record → Record → Bool
shares r s = list_any (λ p. names p.name s) r.parts

-- the session of an id, in a list that ascends by id
abbrev pub session_of : List Record → SessionId → Option Record
session_of [] id = None
session_of (r ∷ rs) id = if nat_lt r.id.0 id.0 then session_of rs id else (if r.id.0 == id.0 then Some r else None)

-- a list that ascends by id, with this session in place of the one of its id
abbrev pub with_session : Record → List Record → List Record
with_session s [] = s ∷ []
with_session s (r ∷ rs) = if nat_lt r.id.0 s.id.0 then r ∷ with_session s rs else (if r.id.0 == s.id.0 then s ∷ rs else s ∷ r ∷ rs)

-- sessions ascend by id
abbrev pub Ascend : List Record → Type 0
Ascend sessions = EachPair (λ r s. r.id.0 < s.id.0) sessions
