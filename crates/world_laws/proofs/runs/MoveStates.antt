-- The states that a call leads from and to. Callers want `IsMove`, `no_move`, `is_reverting`, `ready_move`,
-- `abort_move`, `activated_undoable` and `undoing`.
use Rattle.std.proofs.Common.{◌≡◌, ◌⊎◌, true, false, Some}
use Rattle.std.proofs.Common.{sym, subst, refl, inl, inr}
use Rattle.std.proofs.lemmas.Bool.{false≢true}
use Rattle.apex_base.specs.declared.moves.Move.TheVariants as step_of
use Rattle.apex_base.specs.declared.numbers.SessionId.{SessionId}
use Rattle.apex_base.specs.declared.records.Kind.{Kind}
use Rattle.apex_base.specs.declared.records.Kind.TheVariants.{Plain, WithRollback, RollbackOf}
use Rattle.apex_base.specs.declared.records.State.{State}
use Rattle.apex_base.specs.declared.records.State.TheVariants as state
use Rattle.apex_base.specs.Held.{is_unfinished, is_undoable, is_standing, is_success, is_staged}
use Rattle.apex_base.specs.Moves.{moved}
use Rattle.apex_world.specs.Lawful.{never_activated, has_cause, is_verified}
use Rattle.apex_base.specs.Commit.{undoes}
use Rattle.apex_world.specs.Running.{is_activated}

-- what a state has that a call leads to from another one
pub record IsMove (s t : State) : Type 0 where
  pub unfinished : is_unfinished t ≡ true → is_unfinished s ≡ true
  pub undoable : is_undoable t ≡ true → is_undoable s ≡ true
  pub standing : is_standing t ≡ is_standing s
  pub success : is_success s ≡ true → is_success t ≡ true
  pub never : never_activated t ≡ never_activated s
  pub failed : has_cause t ≡ has_cause s
  pub begun : is_verified s ≡ false → is_verified t ≡ false
  pub activated : is_activated t ≡ true → is_activated s ≡ true
  pub staged : is_staged t ≡ true → is_verified s ≡ false → is_staged s ≡ true

-- a state that stays is one
pub no_move : (s : State) → IsMove s s
no_move s = record {
  unfinished = λ e. e;
  undoable = λ e. e;
  standing = refl;
  success = λ e. e;
  never = refl;
  failed = refl;
  begun = λ e. e;
  activated = λ e. e;
  staged = λ e f. e;
}

-- a verified session is made ready
is_readied : IsMove state.Verified state.Staged
is_readied = record {
  unfinished = λ e. refl;
  undoable = λ e. absurd (false≢true e);
  standing = refl;
  success = λ e. absurd (false≢true e);
  never = refl;
  failed = refl;
  begun = λ e. refl;
  activated = λ e. absurd (false≢true e);
  staged = λ e f. absurd (false≢true (sym f));
}

-- a session that no boot has looked at is aborted
is_aborted : (s : State) → (s ≡ state.Verified) ⊎ (s ≡ state.Staged) → IsMove s state.Aborted
is_aborted s (inl e) = subst (λ (s : State). IsMove s state.Aborted) (sym e) (record {
  unfinished = λ e. refl;
  undoable = λ e. absurd (false≢true e);
  standing = refl;
  success = λ e. absurd (false≢true e);
  never = refl;
  failed = refl;
  begun = λ e. refl;
  activated = λ e. absurd (false≢true e);
  staged = λ e f. absurd (false≢true e);
})
is_aborted s (inr e) = subst (λ (s : State). IsMove s state.Aborted) (sym e) (record {
  unfinished = λ e. refl;
  undoable = λ e. absurd (false≢true e);
  standing = refl;
  success = λ e. absurd (false≢true e);
  never = refl;
  failed = refl;
  begun = λ e. refl;
  activated = λ e. absurd (false≢true e);
  staged = λ e f. refl;
})

-- an activated session is to be reverted
pub is_reverting : IsMove state.Activated state.RevertInProgress
is_reverting = record {
  unfinished = λ e. refl;
  undoable = λ e. refl;
  standing = refl;
  success = λ e. absurd (false≢true e);
  never = refl;
  failed = refl;
  begun = λ e. refl;
  activated = λ e. refl;
  staged = λ e f. absurd (false≢true e);
}

-- Ready leads to such a state, which is unfinished
pub ready_move : (s t : State) → moved s step_of.Ready ≡ Some t
    → IsMove s t × (is_unfinished s ≡ true → is_unfinished t ≡ true)
ready_move state.Verified t e =
    let same : state.Staged ≡ t = cc in
    subst (λ (t : State). IsMove state.Verified t × (true ≡ true → is_unfinished t ≡ true)) same (is_readied, λ e. refl)
ready_move state.Staged t e =
    let same : state.Staged ≡ t = cc in
    subst (λ (t : State). IsMove state.Staged t × (true ≡ true → is_unfinished t ≡ true)) same
    (no_move state.Staged, λ e. refl)
ready_move state.Activated t e = absurd (cc)
ready_move state.ActivationFailed t e = absurd (cc)
ready_move state.Success t e = absurd (cc)
ready_move state.RevertInProgress t e = absurd (cc)
ready_move state.Reverted t e = absurd (cc)
ready_move state.Aborted t e = absurd (cc)

-- Abort leads to such a state
pub abort_move : (s t : State) → moved s step_of.Abort ≡ Some t → IsMove s t
abort_move state.Verified t e =
    let same : state.Aborted ≡ t = cc in
    subst (λ (t : State). IsMove state.Verified t) same (is_aborted state.Verified (inl refl))
abort_move state.Staged t e =
    let same : state.Aborted ≡ t = cc in
    subst (λ (t : State). IsMove state.Staged t) same (is_aborted state.Staged (inr refl))
abort_move state.Activated t e = absurd (cc)
abort_move state.ActivationFailed t e = absurd (cc)
abort_move state.Success t e = absurd (cc)
abort_move state.RevertInProgress t e = absurd (cc)
abort_move state.Reverted t e = absurd (cc)
abort_move state.Aborted t e = absurd (cc)

-- an activated session can be undone
pub activated_undoable : (s : State) → is_activated s ≡ true → is_undoable s ≡ true
activated_undoable state.Verified e = absurd (cc)
activated_undoable state.Staged e = absurd (cc)
activated_undoable state.Activated e = refl
activated_undoable state.ActivationFailed e = absurd (cc)
activated_undoable state.Success e = absurd (cc)
activated_undoable state.RevertInProgress e = refl
activated_undoable state.Reverted e = absurd (cc)
activated_undoable state.Aborted e = absurd (cc)

-- a session that undoes another is a rollback session
pub undoing : (k : Kind) → undoes k ≡ true → (id : SessionId) × (k ≡ RollbackOf id)
undoing Plain e = absurd (cc)
undoing WithRollback e = absurd (cc)
undoing (RollbackOf id) e = (id, refl)
