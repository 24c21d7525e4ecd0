-- What the commit of a rollback does to the sessions: docs/rollbacks.md, "Commit"
-- (AOSP's RollbackManagerServiceImpl).
use Rattle.std.specs.Prelude.{◌≡◌, ℕ, ◌+◌, ◌==◌, ◌&&◌, Bool, true, false, nat_le, refl, codes, List, [], ◌∷◌, map, drop, find, Option, Some, None, Result, Ok, Err, if◌then◌else◌}
use Rattle.apex_base.specs.declared.numbers.SessionId.{SessionId}
use Rattle.apex_base.specs.declared.records.Cause.TheVariants.{Superseded}
use Rattle.apex_base.specs.declared.records.Kind.{Kind}
use Rattle.apex_base.specs.declared.records.Kind.TheVariants.{Plain, WithRollback, RollbackOf}
use Rattle.apex_base.specs.declared.records.Part.{Part}
use Rattle.apex_base.specs.declared.records.Record.{Record}
use Rattle.apex_base.specs.declared.records.RollbackState.{RollbackState}
use Rattle.apex_base.specs.declared.records.RollbackState.TheVariants as rollbacks
use Rattle.apex_base.specs.declared.records.State.{State}
use Rattle.apex_base.specs.declared.records.State.TheVariants as state
use Rattle.apex_base.specs.declared.records.Target.{Target}
use Rattle.apex_base.specs.declared.records.Target.TheVariants as targets
use Rattle.apex_base.specs.declared.refusal.Refusal.{Refusal}
use Rattle.apex_base.specs.declared.refusal.Refusal.TheVariants.{NoRollback, NotAvailable, Overlap}
use Rattle.apex_base.specs.Held.{before, is_undoable}
use Rattle.apex_base.specs.Rollbacks.{not_enabled}
use Rattle.apex_base.specs.Sessions.{names, shares, with_session}

-- the ids that callers may give: above them are those of the sessions that take others back
abbrev pub is_caller_id : SessionId → Bool
is_caller_id id = nat_le 1 id.0 && nat_le id.0 1073741823

-- The new session

-- the id of the session that the rollback of session x makes; likewise those of its children
abbrev pub rollback_id : SessionId → SessionId
rollback_id x = record { 0 = x.0 + 1073741824 }

-- the version that a part has by its target
abbrev pub target_version : Target → Option ℕ
target_version targets.Preinstalled = None
target_version (targets.Module session part version) = Some version

-- a part goes back to what its name held before session x
abbrev pub part_before : List Record → Record → Part → Part
part_before sessions x p = let target = before sessions x p.name in record { name = p.name; version = target_version target; target = target }

-- the session that takes x back: it is ready for the next boot
abbrev pub rollback_session : List Record → Record → List ℕ → Record
rollback_session sessions x print = record {
  id = rollback_id x.id;
  children = map rollback_id x.children;
  kind = RollbackOf x.id;
  parts = map (part_before sessions x) x.parts;
  print = print;
  state = state.Staged;
  cause = None;
  activation = 0;
  rollback = None;
  moment = 0;
}

-- The other sessions

-- the state of a session that no boot has looked at
abbrev pub is_waiting : State → Bool
is_waiting state.Verified = true
is_waiting state.Staged = true
is_waiting _ = false

-- a session that gives way to a new one
abbrev pub superseded : SessionId → Record → Record
superseded new r = record r { state = state.ActivationFailed; cause = Some (Superseded new); rollback = not_enabled r.rollback }

abbrev pub is_superseded : Record → Record → Bool
is_superseded x r = is_waiting r.state && shares x r

-- what the commit of x makes of a session: x's rollback is committed, and what waits for a name of x fails
abbrev pub after_commit : Record → Record → Record
after_commit x r =
    if r.id.0 == x.id.0 then record r { rollback = Some rollbacks.Committed }
    else (if is_superseded x r then superseded (rollback_id x.id) r
    else r)

-- the sessions after the commit of x
abbrev pub committed : List Record → Record → List ℕ → List Record
committed sessions x print = with_session (rollback_session sessions x print) (map (after_commit x) sessions)

-- Refusals

-- a session that may be rolled back
abbrev pub rolls_back : Kind → Bool
rolls_back WithRollback = true
rolls_back _ = false

-- a session that takes another back
abbrev pub undoes : Kind → Bool
undoes (RollbackOf x) = true
undoes _ = false

-- no session with rollback has the id
abbrev pub with_rollback_only : SessionId → Option Record → Result Record Refusal
with_rollback_only id None = Err (NoRollback id)
with_rollback_only id (Some r) = if rolls_back r.kind then Ok r else Err (NoRollback id)

-- its rollback isn't available
abbrev pub not_available : SessionId → Option RollbackState → Option Refusal
not_available id None = Some (NoRollback id)
not_available id (Some rollbacks.Enabling) = Some (NotAvailable rollbacks.Enabling)
not_available id (Some rollbacks.Available) = None
not_available id (Some rollbacks.Committed) = Some (NotAvailable rollbacks.Committed)
not_available id (Some rollbacks.Deleted) = Some (NotAvailable rollbacks.Deleted)

-- a session that can still be undone has one of its names: the first such name, and the session
abbrev pub in_use : List ℕ → Option Record → Option Refusal → Option Refusal
in_use name None rest = rest
in_use name (Some r) rest = Some (Overlap name r.id)

abbrev pub first_in_use : List Record → List Part → Option Refusal
first_in_use sessions [] = None
first_in_use sessions (p ∷ ps) = in_use p.name (find (λ r. is_undoable r.state && names p.name r) sessions) (first_in_use sessions ps)

-- Worked values: session 1 of `a` succeeded at boot 2, and session 5 of `a` at boot 3, with a rollback. Session 7 of
-- `a` waits. The commit of 5 makes a session that goes back to the module of 1, and 7 gives way to it

abbrev pub example : ℕ → Kind → State → ℕ → Option RollbackState → Record
example n kind s boot rollback = record {
  id = record { 0 = n };
  children = [];
  kind = kind;
  parts = record { name = codes "a"; version = Some n; target = targets.Module (record { 0 = n }) 0 n } ∷ [];
  print = codes "P";
  state = s;
  cause = None;
  activation = boot;
  rollback = rollback;
  moment = 0;
}

abbrev pub examples : List Record
examples = example 1 Plain state.Success 2 None ∷ example 5 WithRollback state.Success 3 (Some rollbacks.Available) ∷ example 7 Plain state.Verified 0 None ∷ []

pub goes_back : map (λ r. map (λ p. p.target) r.parts) (drop 3 (committed examples (example 5 WithRollback state.Success 3 (Some rollbacks.Available)) (codes "P"))) ≡ (targets.Module (record { 0 = 1 }) 0 1 ∷ []) ∷ []
goes_back = refl

pub states_after : map (λ r. r.state) (committed examples (example 5 WithRollback state.Success 3 (Some rollbacks.Available)) (codes "P")) ≡ state.Success ∷ state.Success ∷ state.ActivationFailed ∷ state.Staged ∷ []
states_after = refl

pub ids_after : map (λ r. r.id.0) (committed examples (example 5 WithRollback state.Success 3 (Some rollbacks.Available)) (codes "P")) ≡ 1 ∷ 5 ∷ 7 ∷ 1073741829 ∷ []
ids_after = refl
