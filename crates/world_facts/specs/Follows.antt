-- What boots and calls leave of sessions: docs/sessions.md, "What stays".
use Rattle.std.specs.Prelude.{◌≡◌, ◌⊎◌, false, List, Some}
use Rattle.apex_base.specs.declared.moves.Move.{Move}
use Rattle.apex_base.specs.declared.numbers.SessionId.{SessionId}
use Rattle.apex_base.specs.declared.records.Record.{Record}
use Rattle.apex_base.specs.declared.records.State.{State}
use Rattle.apex_base.specs.Members.{In}
use Rattle.apex_base.specs.Moves.{moved}
use Rattle.apex_base.specs.Sessions.{has_id, Ascend}
use Rattle.apex_world.specs.Lawful.{ids_of}

-- what nothing changes of a session
pub record IsKeptAs (r s : Record) : Type 0 where
  pub id : s.id ≡ r.id
  pub children : s.children ≡ r.children
  pub kind : s.kind ≡ r.kind
  pub parts : s.parts ≡ r.parts
  pub print : s.print ≡ r.print

-- a state stays, or goes by one of the moves
abbrev pub GoesTo : State → State → Type 0
GoesTo s t = (t ≡ s) ⊎ ((m : Move) × (moved s m ≡ Some t))

-- what a boot or a call makes of a session
pub record Becomes (r s : Record) : Type 0 where
  pub kept : IsKeptAs r s
  pub goes : GoesTo r.state s.state

-- a session none of whose ids any session has had
abbrev pub IsNew : List Record → Record → Type 0
IsNew sessions s = (r : Record) (id : SessionId) → In r sessions → In id (ids_of s) → has_id id r ≡ false

-- each session leads to one, and each later one comes from one or is new
pub record Leads (P : Record → Record → Type 0) (before after : List Record) : Type 0 where
  pub ascend : Ascend after
  pub forth : (r : Record) → In r before → (s : Record) × In s after × P r s
  pub back : (s : Record) → In s after → ((r : Record) × In r before × P r s) ⊎ IsNew before s

-- sessions before and after a boot or a call
abbrev pub Follows : List Record → List Record → Type 0
Follows before after = Leads Becomes before after
