-- What a boot makes of the state and the activation boot of a session. Callers want `turns`.
use Rattle.std.proofs.Common.{◌≡◌, ◌≢◌, ℕ, Bool, true, false, cond, List, Option, Some, None, sym, ap, ◌∙◌, refl}
use Rattle.std.proofs.lemmas.Bool.{false≢true}
use Rattle.apex_base.specs.declared.records.Cause.{Cause}
use Rattle.apex_base.specs.declared.records.Cause.TheVariants as causes
use Rattle.apex_base.specs.declared.records.Record.{Record}
use Rattle.apex_base.specs.declared.records.RollbackState.{RollbackState}
use Rattle.apex_base.specs.declared.records.State.{State}
use Rattle.apex_base.specs.declared.records.State.TheVariants as state
use Rattle.apex_base.specs.Held.{is_undoable, is_unfinished, is_standing, is_success}
use Rattle.apex_base.specs.Rollbacks.{given_up}
use Rattle.apex_world.specs.declared.calls.BootOrder.{BootOrder}
use Rattle.apex_world.specs.declared.calls.Image.{Image}
use Rattle.apex_world.specs.declared.world.Submission.{Submission}
use Rattle.apex_world.specs.Boot.{ended, rebuilt_in, with_rollback, activated_by, kept_by, activated, become}
use Rattle.apex_world.specs.Boot.{is_same_build, keeps_rollback}
use Rattle.apex_world.specs.Lawful.{never_activated}
use Rattle.apex_world.specs.Selection.{Mounts, cause_of}
use Rattle.world_facts.proofs.facts.StateFacts.{undoable_unfinished}

-- the state of a session that no boot changes
abbrev pub rests : State → Bool
rests state.Verified = true
rests state.Staged = false
rests state.Activated = false
rests state.ActivationFailed = true
rests state.Success = true
rests state.RevertInProgress = false
rests state.Reverted = true
rests state.Aborted = true

-- the ways that boot b has with session r, whose parts have a cause not to work, or none
pub data Turns (cause : Option Cause) (b : ℕ) (r s : Record) : Type 0 where
  Rests : rests r.state ≡ true → s.state ≡ r.state → s.activation ≡ r.activation → Turns cause b r s
  Activates : r.state ≡ state.Staged → s.state ≡ state.Activated → s.activation ≡ b → cause ≡ None → Turns cause b r s
  Remains : r.state ≡ state.Activated → s.state ≡ state.Activated → s.activation ≡ r.activation → cause ≡ None
      → Turns cause b r s
  Fails : r.state ≡ state.Staged → s.state ≡ state.ActivationFailed → s.activation ≡ r.activation → Turns cause b r s
  Reverts : is_undoable r.state ≡ true → s.state ≡ state.Reverted → s.activation ≡ r.activation → Turns cause b r s

abbrev in_state : Record → State → Record
in_state r s = record r { state = s }

staged : (same : Bool) (cause : Option Cause) (b : ℕ) (r : Record) (o : Option RollbackState)
    → Turns cause b (in_state r state.Staged) (cond same
    (activated_by cause b (with_rollback o (in_state r state.Staged)))
    (ended state.ActivationFailed causes.OtherBuild (with_rollback o (in_state r state.Staged))))
staged true None b r o = Activates refl refl refl refl
staged true (Some cause) b r o = Fails refl refl refl
staged false cause b r o = Fails refl refl refl

remains : (cause : Option Cause) (b : ℕ) (r : Record) (o : Option RollbackState)
    → Turns cause b (in_state r state.Activated) (kept_by cause (with_rollback o (in_state r state.Activated)))
remains None b r o = Remains refl refl refl refl
remains (Some cause) b r o = Reverts refl refl refl

module _ (mounts : Mounts) (modules : List Submission) (order : BootOrder) (b : ℕ) where
  abbrev image : Image
  image = order.image

  active : (same : Bool) (r : Record) (o : Option RollbackState)
      → Turns (cause_of mounts modules image.modules r.parts) b (in_state r state.Activated)
      (activated mounts modules image b (with_rollback o
      (rebuilt_in state.Activated same (in_state r state.Activated))))
  active true r o = remains (cause_of mounts modules image.modules r.parts) b r o
  active false r o = Reverts refl refl refl

  turns_in : (s : State) (r : Record) → Turns (cause_of mounts modules image.modules r.parts) b (in_state r s)
      (become mounts modules order b (in_state r s))
  turns_in state.Verified r = Rests refl refl refl
  turns_in state.Staged r =
      elim (staged (is_same_build image r) (cause_of mounts modules image.modules r.parts) b r
      (cond (keeps_rollback image r) r.rollback (given_up r.rollback))) [
        | Rests e f g ↦ Rests e f g
        | Activates e f g h ↦ Activates e f g h
        | Remains e f g h ↦ Remains e f g h
        | Fails e f g ↦ Fails e f g
        | Reverts e f g ↦ Reverts e f g
      ]
  turns_in state.Activated r =
      elim (active (is_same_build image r) r (cond (keeps_rollback image
      (rebuilt_in state.Activated true (in_state r state.Activated))) r.rollback (given_up r.rollback))) [
        | Rests e f g ↦ Rests e f g
        | Activates e f g h ↦ Activates e f g h
        | Remains e f g h ↦ Remains e f g h
        | Fails e f g ↦ Fails e f g
        | Reverts e f g ↦ Reverts e f g
      ]
  turns_in state.ActivationFailed r = Rests refl refl refl
  turns_in state.Success r = Rests refl refl refl
  turns_in state.RevertInProgress r = Reverts refl refl refl
  turns_in state.Reverted r = Rests refl refl refl
  turns_in state.Aborted r = Rests refl refl refl

  pub turns : (r : Record) → Turns (cause_of mounts modules image.modules r.parts) b r (become mounts modules order b r)
  turns r = turns_in r.state r

-- What follows

-- a session that a boot moves was unfinished
pub moved_unfinished : (cause : Option Cause) (b : ℕ) (r s : Record) (t : State) → r.state ≢ t → s.state ≡ t
    → Turns cause b r s → is_unfinished r.state ≡ true
moved_unfinished cause b r s t d e (Rests f g a) = absurd (d (sym g ∙ e))
moved_unfinished cause b r s t d e (Activates f g a c) = ap is_unfinished f
moved_unfinished cause b r s t d e (Remains f g a c) = ap is_unfinished f
moved_unfinished cause b r s t d e (Fails f g a) = ap is_unfinished f
moved_unfinished cause b r s t d e (Reverts f g a) = undoable_unfinished r.state f

-- the parts of what is activated work
pub activated_works : (cause : Option Cause) (b : ℕ) (r s : Record) → s.state ≡ state.Activated → Turns cause b r s
    → cause ≡ None
activated_works cause b r s e (Rests f g a) = absurd (cc)
activated_works cause b r s e (Activates f g a c) = c
activated_works cause b r s e (Remains f g a c) = c
activated_works cause b r s e (Fails f g a) = absurd (cc)
activated_works cause b r s e (Reverts f g a) = absurd (cc)

-- what is reverted keeps its activation boot
pub reverted_keeps : (cause : Option Cause) (b : ℕ) (r s : Record) → s.state ≡ state.Reverted → Turns cause b r s
    → s.activation ≡ r.activation
reverted_keeps cause b r s e (Rests f g a) = a
reverted_keeps cause b r s e (Activates f g a c) = absurd (cc)
reverted_keeps cause b r s e (Remains f g a c) = a
reverted_keeps cause b r s e (Fails f g a) = a
reverted_keeps cause b r s e (Reverts f g a) = a

pub success_states : (s : State) → is_success s ≡ true
    → (s ≡ state.Success) × (never_activated s ≡ false) × (is_standing s ≡ true)
success_states state.Verified e = absurd (cc)
success_states state.Staged e = absurd (cc)
success_states state.Activated e = absurd (cc)
success_states state.ActivationFailed e = absurd (cc)
success_states state.Success e = (refl, refl, refl)
success_states state.RevertInProgress e = absurd (cc)
success_states state.Reverted e = absurd (cc)
success_states state.Aborted e = absurd (cc)

-- and what a boot reverts could be undone
pub reverted_undoable : (cause : Option Cause) (b : ℕ) (r s : Record) → r.state ≢ state.Reverted
    → s.state ≡ state.Reverted → Turns cause b r s → is_undoable r.state ≡ true
reverted_undoable cause b r s d e (Rests f g a) = absurd (d (sym g ∙ e))
reverted_undoable cause b r s d e (Activates f g a c) = absurd (cc)
reverted_undoable cause b r s d e (Remains f g a c) = absurd (cc)
reverted_undoable cause b r s d e (Fails f g a) = absurd (cc)
reverted_undoable cause b r s d e (Reverts f g a) = f

-- what can be undone after a boot is activated
rests_not : (s : State) → rests s ≡ true → is_undoable s ≡ false
rests_not state.Verified e = refl
rests_not state.Staged e = refl
rests_not state.Activated e = absurd (cc)
rests_not state.ActivationFailed e = refl
rests_not state.Success e = refl
rests_not state.RevertInProgress e = absurd (cc)
rests_not state.Reverted e = refl
rests_not state.Aborted e = refl

pub undoable_turned : (cause : Option Cause) (b : ℕ) (r s : Record) → is_undoable s.state ≡ true → Turns cause b r s
    → s.state ≡ state.Activated
undoable_turned cause b r s e (Rests f g a) =
    absurd (false≢true (sym (rests_not r.state f) ∙ ap is_undoable (sym g) ∙ e))
undoable_turned cause b r s e (Activates f g a c) = g
undoable_turned cause b r s e (Remains f g a c) = g
undoable_turned cause b r s e (Fails f g a) = absurd (false≢true (sym (ap is_undoable g) ∙ e))
undoable_turned cause b r s e (Reverts f g a) = absurd (false≢true (sym (ap is_undoable g) ∙ e))
