-- Which targets names have, and which are kept, by the sessions that were ever made: docs/sessions.md,
-- "Held and before" and "Kept".
use Rattle.std.specs.Prelude.{ℕ, ◌&&◌, ◌||◌, ◌==◌, Bool, true, false, nat_lt, List, [], ◌∷◌, ◌++◌, Option, Some, None, ◌≡◌, refl, codes}
use Rattle.std.specs.Prelude.{find, fold, flat_map, if◌then◌else◌}
use Rattle.std.specs.List.{list_any}
use Rattle.std.specs.Option.{option_map}
use Rattle.std.specs.Str.{bytes_eq}
use Rattle.apex_base.specs.declared.numbers.SessionId.{SessionId}
use Rattle.apex_base.specs.declared.records.Part.{Part}
use Rattle.apex_base.specs.declared.records.Record.{Record}
use Rattle.apex_base.specs.declared.records.RollbackState.{RollbackState}
use Rattle.apex_base.specs.declared.records.RollbackState.TheVariants as rollbacks
use Rattle.apex_base.specs.declared.records.Target.{Target}
use Rattle.apex_base.specs.declared.records.Target.TheVariants as targets
use Rattle.apex_base.specs.declared.records.State.{State}
use Rattle.apex_base.specs.declared.records.State.TheVariants as state
use Rattle.apex_base.specs.declared.records.Kind.TheVariants.{Plain}

-- the state of a session that may still change what a name holds
abbrev pub is_unfinished : State → Bool
is_unfinished state.Verified = true
is_unfinished state.Staged = true
is_unfinished state.Activated = true
is_unfinished state.RevertInProgress = true
is_unfinished _ = false

-- the state of a session that can still be undone
abbrev pub is_undoable : State → Bool
is_undoable state.Activated = true
is_undoable state.RevertInProgress = true
is_undoable _ = false

-- the state of a session whose modules count
abbrev pub is_standing : State → Bool
is_standing state.Activated = true
is_standing state.Success = true
is_standing state.RevertInProgress = true
is_standing _ = false

-- the state of a session that the next boot activates
abbrev pub is_staged : State → Bool
is_staged state.Staged = true
is_staged _ = false

-- the state of a session that was marked successful
abbrev pub is_success : State → Bool
is_success state.Success = true
is_success _ = false

-- there is a rollback, and it is AVAILABLE
abbrev pub is_available : Option RollbackState → Bool
is_available (Some rollbacks.Available) = true
is_available _ = false

-- the activation boot and the target that a session has for a name, if it counts and names it
abbrev pub candidate : Bool → List ℕ → Record → Option (ℕ × Target)
candidate counts name r =
    if counts then option_map (λ p. (r.activation, p.target)) (find (λ p. bytes_eq p.name name) r.parts) else None

-- the one with the greater activation boot
abbrev pub later : Option (ℕ × Target) → Option (ℕ × Target) → Option (ℕ × Target)
later best None = best
later None (Some c) = Some c
later (Some b) (Some c) = if nat_lt b.0 c.0 then Some c else Some b

abbrev pub target_of : Option (ℕ × Target) → Target
target_of None = targets.Preinstalled
target_of (Some c) = c.1

-- of the sessions that count and name it, the target of the one with the greatest activation boot
abbrev pub latest : (Record → Bool) → List Record → List ℕ → Target
latest counts sessions name = target_of (fold (λ best r. later best (candidate (counts r) name r)) None sessions)

-- the target that a name holds: that of the sessions that are ACTIVATED, SUCCESS or REVERT_IN_PROGRESS
abbrev pub held : List Record → List ℕ → Target
held sessions name = latest (λ r. is_standing r.state) sessions name

-- the target that a name held before session x: that of the SUCCESS sessions that were activated before it
abbrev pub before : List Record → Record → List ℕ → Target
before sessions x name = latest (λ r. is_success r.state && nat_lt r.activation x.activation) sessions name

-- the targets that a session keeps for one of its names: its own while it is unfinished, what the name holds
-- while its modules count, and what the name held before while it can be undone or rolled back
abbrev pub kept_for : List Record → Record → Part → List Target
kept_for sessions r p =
    (if is_unfinished r.state then p.target ∷ [] else [])
    ++ (if is_standing r.state then held sessions p.name ∷ [] else [])
    ++ (if is_undoable r.state || is_available r.rollback then before sessions r p.name ∷ [] else [])

-- the targets whose modules are kept
abbrev pub kept : List Record → List Target
kept sessions = flat_map (λ r. flat_map (kept_for sessions r) r.parts) sessions

-- a target is the module that this part of this session submitted
abbrev pub is_module : SessionId → ℕ → Target → Bool
is_module session part targets.Preinstalled = false
is_module session part (targets.Module s p version) = (s.0 == session.0) && (p == part)

-- this module is among the targets
abbrev pub is_target : List Target → SessionId → ℕ → Bool
is_target targets session part = list_any (is_module session part) targets

-- Worked values: session 1 of `a` succeeded at boot 2, and boot 3 activated session 2 of `a`, which can still be undone.
-- The name holds the module of 2, and held that of 1 before it; both are kept

abbrev pub example_target : ℕ → Target
example_target n = targets.Module (record { 0 = n }) 0 n

abbrev pub example : ℕ → State → ℕ → Record
example n s boot = record {
  id = record { 0 = n };
  children = [];
  kind = Plain;
  parts = record { name = codes "a"; version = Some n; target = example_target n } ∷ [];
  print = codes "P";
  state = s;
  cause = None;
  activation = boot;
  rollback = None;
  moment = 0;
}

abbrev pub examples : List Record
examples = example 1 state.Success 2 ∷ example 2 state.Activated 3 ∷ []

pub holds_the_later : held examples (codes "a") ≡ example_target 2
holds_the_later = refl

pub held_before : before examples (example 2 state.Activated 3) (codes "a") ≡ example_target 1
held_before = refl

pub keeps_both : kept examples ≡ example_target 2 ∷ example_target 2 ∷ example_target 2 ∷ example_target 1 ∷ []
keeps_both = refl

pub nothing_held : held examples (codes "b") ≡ targets.Preinstalled
nothing_held = refl
