-- What a boot makes of the cause of one session. Callers want `causes_made` and `cause_of_parts`.
use Rattle.std.proofs.Common.{◌≡◌, ℕ, Bool, true, false, cond, List, [], ◌∷◌, Option, Some, None, refl, is_some, IsTrue}
use Rattle.std.specs.List.{AllByRecursion}
use Rattle.apex_base.specs.declared.records.Case.{Case}
use Rattle.apex_base.specs.declared.records.Cause.{Cause}
use Rattle.apex_base.specs.declared.records.Cause.TheVariants as causes
use Rattle.apex_base.specs.declared.records.Part.{Part}
use Rattle.apex_base.specs.declared.records.Record.{Record}
use Rattle.apex_base.specs.declared.records.RollbackState.{RollbackState}
use Rattle.apex_base.specs.declared.records.State.{State}
use Rattle.apex_base.specs.declared.records.State.TheVariants as state
use Rattle.apex_base.specs.Rollbacks.{given_up}
use Rattle.apex_base.specs.Spelling.{IsCause, IsPart}
use Rattle.apex_base.specs.Text.{is_name}
use Rattle.apex_world.specs.declared.calls.BootOrder.{BootOrder}
use Rattle.apex_world.specs.declared.calls.Image.{Image}
use Rattle.apex_world.specs.declared.modules.Package.{Package}
use Rattle.apex_world.specs.declared.world.Submission.{Submission}
use Rattle.apex_world.specs.Boot.{ended, rebuilt_in, with_rollback, activated_by}
use Rattle.apex_world.specs.Boot.{kept_by, activated, become, is_same_build, keeps_rollback}
use Rattle.apex_world.specs.Lawful.{has_cause}
use Rattle.apex_world.specs.Selection.{Mounts, case_of, cause_or, cause_of}

-- no cause is that of a session without one, and the name in a cause is a part's
pub record CausesMade (cause : Option Cause) (r s : Record) : Type 0 where
  pub has : has_cause r.state ≡ is_some r.cause → has_cause s.state ≡ is_some s.cause
  pub is : IsCause r.cause → IsCause cause → IsCause s.cause
  pub moment : s.moment ≡ r.moment

abbrev in_state : Record → State → Record
in_state r s = record r { state = s }

staged : (same : Bool) (cause : Option Cause) (b : ℕ) (r : Record) (o : Option RollbackState)
    → CausesMade cause (in_state r state.Staged) (cond same
    (activated_by cause b (with_rollback o (in_state r state.Staged)))
    (ended state.ActivationFailed causes.OtherBuild (with_rollback o (in_state r state.Staged))))
staged true None b r o = record { has = λ e. e; is = λ i c. i; moment = refl }
staged true (Some cause) b r o = record { has = λ e. refl; is = λ i c. c; moment = refl }
staged false cause b r o = record { has = λ e. refl; is = λ i c. tt; moment = refl }

remains : (cause : Option Cause) (b : ℕ) (r : Record) (o : Option RollbackState)
    → CausesMade cause (in_state r state.Activated) (kept_by cause (with_rollback o (in_state r state.Activated)))
remains None b r o = record { has = λ e. e; is = λ i c. i; moment = refl }
remains (Some cause) b r o = record { has = λ e. refl; is = λ i c. c; moment = refl }

module _ (mounts : Mounts) (modules : List Submission) (order : BootOrder) (b : ℕ) where
  abbrev image : Image
  image = order.image

  abbrev cause_for : Record → Option Cause
  cause_for r = cause_of mounts modules image.modules r.parts

  active : (same : Bool) (r : Record) (o : Option RollbackState)
      → CausesMade (cause_for r) (in_state r state.Activated)
      (activated mounts modules image b (with_rollback o
      (rebuilt_in state.Activated same (in_state r state.Activated))))
  active true r o = remains (cause_for r) b r o
  active false r o = record { has = λ e. refl; is = λ i c. tt; moment = refl }

  made_in : (s : State) (r : Record) → CausesMade (cause_for r) (in_state r s)
      (become mounts modules order b (in_state r s))
  made_in state.Verified r = record { has = λ e. e; is = λ i c. i; moment = refl }
  made_in state.Staged r =
      let m = staged (is_same_build image r) (cause_for r) b r
      (cond (keeps_rollback image r) r.rollback (given_up r.rollback)) in
      record { has = m.has; is = m.is; moment = m.moment }
  made_in state.Activated r =
      let m = active (is_same_build image r) r (cond (keeps_rollback image
      (rebuilt_in state.Activated true (in_state r state.Activated))) r.rollback (given_up r.rollback)) in
      record { has = m.has; is = m.is; moment = m.moment }
  made_in state.ActivationFailed r = record { has = λ e. e; is = λ i c. i; moment = refl }
  made_in state.Success r = record { has = λ e. e; is = λ i c. i; moment = refl }
  made_in state.RevertInProgress r = record { has = λ e. refl; is = λ i c. tt; moment = refl }
  made_in state.Reverted r = record { has = λ e. e; is = λ i c. i; moment = refl }
  made_in state.Aborted r = record { has = λ e. e; is = λ i c. i; moment = refl }

  pub causes_made : (r : Record) → CausesMade (cause_for r) r (become mounts modules order b r)
  causes_made r = made_in r.state r

cause_if : (name : List ℕ) (case : Option Case) (rest : Option Cause) → IsTrue (is_name name) → IsCause rest
    → IsCause (cause_or name case rest)
cause_if name None rest named is = is
cause_if name (Some case) rest named is = named

-- the name in the cause is that of a part
pub cause_of_parts : (mounts : Mounts) (modules : List Submission) (packages : List Package) (ps : List Part)
    → AllByRecursion IsPart ps → IsCause (cause_of mounts modules packages ps)
cause_of_parts mounts modules packages [] a = tt
cause_of_parts mounts modules packages (p ∷ ps) a =
    cause_if p.name (case_of mounts modules packages p) (cause_of mounts modules packages ps) a.0.name
    (cause_of_parts mounts modules packages ps a.1)
