-- What a boot makes of a session by itself, and what commits make of the others.
use Rattle.std.proofs.Common.{◌≡◌, ◌⊎◌, ℕ, Bool, true, false, cond, List, Option, Some, None, sym, ap, ◌∙◌, refl, inl, inr, if◌then◌else◌, eqb}
use Rattle.std.proofs.lemmas.Bool.{false≢true, and_parts}
use Rattle.apex_base.specs.declared.records.Cause.{Cause}
use Rattle.apex_base.specs.declared.records.Record.{Record}
use Rattle.apex_base.specs.declared.records.RollbackState.TheVariants as rollbacks
use Rattle.apex_base.specs.declared.records.State.{State}
use Rattle.apex_base.specs.declared.records.State.TheVariants as state
use Rattle.apex_base.specs.declared.moves.Move.{Move}
use Rattle.apex_base.specs.declared.moves.Move.TheVariants as step_of
use Rattle.apex_base.specs.Commit.{is_waiting, is_superseded, superseded, rollback_id, after_commit}
use Rattle.apex_base.specs.Moves.{moved}
use Rattle.apex_base.specs.Sessions.{shares}
use Rattle.apex_world.specs.declared.calls.BootOrder.{BootOrder}
use Rattle.apex_world.specs.declared.calls.Image.{Image}
use Rattle.apex_world.specs.declared.world.Submission.{Submission}
use Rattle.apex_world.specs.Boot.{reverted_in, reverted, rebuilt_in, rebuilt, is_same_build, activated_in, booted, become}
use Rattle.world_facts.specs.Follows.{IsKeptAs, GoesTo, Becomes}
use Rattle.apex_world.specs.Selection.{Mounts, cause_of}
use Rattle.world_facts.proofs.facts.LeadsLemmas.{changed, same, kept_on}
use Rattle.world_facts.proofs.facts.PlainLemmas.{booted_keeps}

-- Boots

-- a boot leaves a state, or moves it to one that no commit touches
abbrev pub BootGoes : State → State → Type 0
BootGoes s t = (t ≡ s) ⊎ ((m : Move) × (moved s m ≡ Some t) × (is_waiting t ≡ false))

-- from a state to itself, or from one to REVERTED
abbrev Ends : State → State → State → Type 0
Ends from s t = (t ≡ s) ⊎ ((s ≡ from) × (t ≡ state.Reverted))

reverted_ends : (s : State) (r : Record) → r.state ≡ s → Ends state.RevertInProgress s (reverted_in s r).state
reverted_ends state.Verified r e = inl e
reverted_ends state.Staged r e = inl e
reverted_ends state.Activated r e = inl e
reverted_ends state.ActivationFailed r e = inl e
reverted_ends state.Success r e = inl e
reverted_ends state.RevertInProgress r e = inr (refl, refl)
reverted_ends state.Reverted r e = inl e
reverted_ends state.Aborted r e = inl e

rebuilt_ends : (s : State) (b : Bool) (r : Record) → r.state ≡ s → Ends state.Activated s (rebuilt_in s b r).state
rebuilt_ends state.Verified b r e = inl e
rebuilt_ends state.Staged b r e = inl e
rebuilt_ends state.Activated true r e = inl e
rebuilt_ends state.Activated false r e = inr (refl, refl)
rebuilt_ends state.ActivationFailed b r e = inl e
rebuilt_ends state.Success b r e = inl e
rebuilt_ends state.RevertInProgress b r e = inl e
rebuilt_ends state.Reverted b r e = inl e
rebuilt_ends state.Aborted b r e = inl e

activated_goes : (s : State) (b : Bool) (cause : Option Cause) (n : ℕ) (r : Record) → r.state ≡ s
    → BootGoes s (activated_in s b cause n r).state
activated_goes state.Verified b cause n r e = inl e
activated_goes state.Staged true None n r e = inr (step_of.Activate, refl, refl)
activated_goes state.Staged true (Some cause) n r e = inr (step_of.Fail, refl, refl)
activated_goes state.Staged false cause n r e = inr (step_of.Fail, refl, refl)
activated_goes state.Activated b None n r e = inl e
activated_goes state.Activated b (Some cause) n r e = inr (step_of.Undo, refl, refl)
activated_goes state.ActivationFailed b cause n r e = inl e
activated_goes state.Success b cause n r e = inl e
activated_goes state.RevertInProgress b cause n r e = inl e
activated_goes state.Reverted b cause n r e = inl e
activated_goes state.Aborted b cause n r e = inl e

from : (s s' t : State) → s ≡ s' → BootGoes s' t → BootGoes s t
from s s' t e (inl f) = inl (f ∙ sym e)
from s s' t e (inr (m, f, w)) = inr (m, ap (λ (s : State). moved s m) e ∙ f, w)

undone : (s t : State) → (s ≡ state.Activated) ⊎ (s ≡ state.RevertInProgress) → t ≡ state.Reverted → BootGoes s t
undone s t (inl e) f = inr (
  step_of.Undo,
  ap (λ (s : State). moved s step_of.Undo) e
      ∙ ap (λ (t : State). Some t) (sym f),
  ap is_waiting f,
)
undone s t (inr e) f = inr (
  step_of.Undo,
  ap (λ (s : State). moved s step_of.Undo) e
      ∙ ap (λ (t : State). Some t) (sym f),
  ap is_waiting f,
)

module _ (mounts : Mounts) (modules : List Submission) (image : Image) (n : ℕ) (r : Record) where
  abbrev second : Record
  second = reverted r

  abbrev third : Record
  third = rebuilt image second

  abbrev last : Record
  last = booted mounts modules image n r

  -- what is REVERTED stays so
  rest_stays : third.state ≡ state.Reverted → last.state ≡ state.Reverted
  rest_stays e = ap (λ (s : State). (activated_in s (is_same_build image third)
      (cause_of mounts modules image.modules third.parts) n third).state) e ∙ e

  second_stays : second.state ≡ state.Reverted → third.state ≡ state.Reverted
  second_stays e = ap (λ (s : State). (rebuilt_in s (is_same_build image second) second).state) e ∙ e

  goes_on : Ends state.RevertInProgress r.state second.state → Ends state.Activated second.state third.state
      → BootGoes third.state last.state → BootGoes r.state last.state
  goes_on (inl e) (inl f) g = from r.state third.state last.state (sym (f ∙ e)) g
  goes_on (inl e) (inr (f, h)) g = undone r.state last.state (inl (sym e ∙ f)) (rest_stays h)
  goes_on (inr (e, f)) h g = undone r.state last.state (inr e) (rest_stays (second_stays f))

  booted_goes : BootGoes r.state last.state
  booted_goes = goes_on (reverted_ends r.state r refl) (rebuilt_ends second.state
      (is_same_build image second) second refl)
      (activated_goes third.state (is_same_build image third)
      (cause_of mounts modules image.modules third.parts) n third refl)

pub record Boots (r s : Record) : Type 0 where
  pub kept : IsKeptAs r s
  pub goes : BootGoes r.state s.state

pub become_boots : (mounts : Mounts) (modules : List Submission) (order : BootOrder) (n : ℕ) (r : Record)
    → Boots r (become mounts modules order n r)
become_boots mounts modules order n r = let k = booted_keeps mounts modules order.image n r in record {
  kept = record { id = k.id; children = k.children; kind = k.kind; parts = k.parts; print = k.print };
  goes = booted_goes mounts modules order.image n r;
}

-- Commits

-- a commit leaves a state, or a session that waits fails
pub record Waits (r s : Record) : Type 0 where
  pub kept : IsKeptAs r s
  pub goes : (s.state ≡ r.state) ⊎ ((is_waiting r.state ≡ true) × (s.state ≡ state.ActivationFailed))

pub waits_same : (r : Record) → Waits r r
waits_same r = record { kept = same r; goes = inl refl }

fails_if : (b : Bool) (x r : Record) → is_superseded x r ≡ b → Waits r (cond b (superseded (rollback_id x.id) r) r)
fails_if false x r e = waits_same r
fails_if true x r e = record {
  kept = changed r;
  goes = inr ((and_parts (is_waiting r.state) (shares x r) e).0, refl);
}

commits_if : (b : Bool) (x r : Record) → Waits r (cond b (record r {
  rollback =
      Some rollbacks.Committed;
}) (if is_superseded x r then superseded (rollback_id x.id) r else r))
commits_if true x r = record {
  kept = changed r;
  goes = inl refl;
}
commits_if false x r = fails_if (is_superseded x r) x r refl

pub after_waits : (x r : Record) → Waits r (after_commit x r)
after_waits x r = commits_if (eqb r.id.0 x.id.0) x r

failed_once : (s : State) → s ≡ state.ActivationFailed → is_waiting s ≡ true → ⊥
failed_once s e f = absurd (false≢true (sym (ap is_waiting e) ∙ f))

pub waits_then : (r s t : Record) → Waits r s → Waits s t → Waits r t
waits_then r s t w v = record {
  kept = kept_on r s t w.kept v.kept;
  goes = elim w.goes [
    | inl e ↦ elim v.goes [
      | inl f ↦ inl (f ∙ e)
      | inr (f, g) ↦ inr (ap is_waiting (sym e) ∙ f, g)
    ]
    | inr (e, f) ↦ elim v.goes [
      | inl g ↦ inr (e, g ∙ f)
      | inr (g, h) ↦ absurd (failed_once s.state f g)
    ]
  ];
}

-- a session that waits can fail
fail_of : (s : State) → is_waiting s ≡ true → moved s step_of.Fail ≡ Some state.ActivationFailed
fail_of state.Verified e = refl
fail_of state.Staged e = refl
fail_of state.Activated e = absurd (cc)
fail_of state.ActivationFailed e = absurd (cc)
fail_of state.Success e = absurd (cc)
fail_of state.RevertInProgress e = absurd (cc)
fail_of state.Reverted e = absurd (cc)
fail_of state.Aborted e = absurd (cc)

fails_to : (s t : State) → is_waiting s ≡ true → t ≡ state.ActivationFailed → GoesTo s t
fails_to s t e f = inr (step_of.Fail, fail_of s e ∙ ap (λ (t : State). Some t) (sym f))

pub waits_becomes : (r s : Record) → Waits r s → Becomes r s
waits_becomes r s w = record {
  kept = w.kept;
  goes = elim w.goes [
    | inl e ↦ inl e
    | inr (e, f) ↦ fails_to r.state s.state e f
  ];
}

pub boots_becomes : (r s : Record) → Boots r s → Becomes r s
boots_becomes r s b = record {
  kept = b.kept;
  goes = elim b.goes [
    | inl e ↦ inl e
    | inr (m, e, f) ↦ inr (m, e)
  ];
}

-- a boot, and then commits: at most one of them moves a state
pub boots_then : (r s t : Record) → Boots r s → Waits s t → Becomes r t
boots_then r s t b w = record {
  kept = kept_on r s t b.kept w.kept;
  goes = elim w.goes [
    | inl e ↦ elim b.goes [
      | inl f ↦ inl (e ∙ f)
      | inr (m, f, g) ↦ inr (m, f ∙ ap (λ (t : State). Some t) (sym e))
    ]
    | inr (e, f) ↦ elim b.goes [
      | inl g ↦ fails_to r.state t.state (ap is_waiting (sym g) ∙ e) f
      | inr (m, g, h) ↦ absurd (false≢true (sym h ∙ e))
    ]
  ];
}
