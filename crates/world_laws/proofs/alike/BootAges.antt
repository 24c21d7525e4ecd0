-- Whether a boot activated a session, and what it leaves of the session's modules. Callers want `aged`,
-- `turn_unfinished`, `turn_stays` and `turn_came`.
use Rattle.std.proofs.Common.{◌≡◌, ◌⊎◌, ℕ, true, Option, sym, ap}
use Rattle.std.proofs.Common.{◌∙◌, refl, inl, inr}
use Rattle.std.proofs.lemmas.Bool.{false≢true}
use Rattle.apex_base.specs.declared.records.Cause.{Cause}
use Rattle.apex_base.specs.declared.records.Record.{Record}
use Rattle.apex_base.specs.declared.records.State.{State}
use Rattle.apex_base.specs.declared.records.State.TheVariants as state
use Rattle.apex_base.specs.Held.{is_unfinished, is_undoable, is_standing, is_success}
use Rattle.world_laws.proofs.meaning.BootTurns.{Turns, Rests, Activates, Remains, Fails, Reverts, rests}
use Rattle.world_facts.proofs.facts.KeptLemmas.{undoable_no_success}
use Rattle.world_facts.proofs.facts.StateFacts.{undoable_unfinished}

-- the boot of this number activated the session
pub record IsYoung (b : ℕ) (r s : Record) : Type 0 where
  pub staged : r.state ≡ state.Staged
  pub activation : s.activation ≡ b

-- or it left the activation boot, and the session stands only if it stood
pub record IsOld (r s : Record) : Type 0 where
  pub activation : s.activation ≡ r.activation
  pub stands : is_standing s.state ≡ true → is_standing r.state ≡ true
  pub undoable : is_undoable s.state ≡ true → is_undoable r.state ≡ true

-- a boot activates a session, or leaves its activation boot
pub aged : (cause : Option Cause) (b : ℕ) (r s : Record) → Turns cause b r s → IsYoung b r s ⊎ IsOld r s
aged cause b r s (Rests e f g) = inr (record {
  activation = g;
  stands = λ u. ap is_standing (sym f) ∙ u;
  undoable = λ u. ap is_undoable (sym f) ∙ u;
})
aged cause b r s (Activates e f g h) = inl (record { staged = e; activation = g })
aged cause b r s (Remains e f g h) = inr (record {
  activation = g;
  stands = λ u. ap is_standing e;
  undoable = λ u. ap is_undoable e;
})
aged cause b r s (Fails e f g) = inr (record {
  activation = g;
  stands = λ u. absurd (false≢true (sym (ap is_standing f) ∙ u));
  undoable = λ u. absurd (false≢true (sym (ap is_undoable f) ∙ u));
})
aged cause b r s (Reverts e f g) = inr (record {
  activation = g;
  stands = λ u. absurd (false≢true (sym (ap is_standing f) ∙ u));
  undoable = λ u. absurd (false≢true (sym (ap is_undoable f) ∙ u));
})

rests_success : (s : State) → rests s ≡ true → is_standing s ≡ true → is_success s ≡ true
rests_success state.Verified e f = absurd (cc)
rests_success state.Staged e f = absurd (cc)
rests_success state.Activated e f = absurd (cc)
rests_success state.ActivationFailed e f = absurd (cc)
rests_success state.Success e f = refl
rests_success state.RevertInProgress e f = absurd (cc)
rests_success state.Reverted e f = absurd (cc)
rests_success state.Aborted e f = absurd (cc)

-- What a turn leaves of a session's modules

-- no session begins anew
pub turn_unfinished : (cause : Option Cause) (b : ℕ) (r s : Record) → Turns cause b r s → is_unfinished s.state ≡ true
    → is_unfinished r.state ≡ true
turn_unfinished cause b r s (Rests e f g) u = ap is_unfinished (sym f) ∙ u
turn_unfinished cause b r s (Activates e f g h) u = ap is_unfinished e
turn_unfinished cause b r s (Remains e f g h) u = ap is_unfinished e
turn_unfinished cause b r s (Fails e f g) u = ap is_unfinished e
turn_unfinished cause b r s (Reverts e f g) u = undoable_unfinished r.state e

-- a success stays so, with its activation boot
pub turn_stays : (cause : Option Cause) (b : ℕ) (r s : Record) → Turns cause b r s → is_success r.state ≡ true
    → (is_success s.state ≡ true) × (s.activation ≡ r.activation)
turn_stays cause b r s (Rests e f g) u = (ap is_success f ∙ u, g)
turn_stays cause b r s (Activates e f g h) u = absurd (false≢true (sym (ap is_success e) ∙ u))
turn_stays cause b r s (Remains e f g h) u = absurd (false≢true (sym (ap is_success e) ∙ u))
turn_stays cause b r s (Fails e f g) u = absurd (false≢true (sym (ap is_success e) ∙ u))
turn_stays cause b r s (Reverts e f g) u = absurd (undoable_no_success r.state e u)

-- what stands was unfinished or a success
pub turn_came : (cause : Option Cause) (b : ℕ) (r s : Record) → Turns cause b r s → is_standing s.state ≡ true
    → (is_unfinished r.state ≡ true) ⊎ (is_success r.state ≡ true)
turn_came cause b r s (Rests e f g) u = inr (rests_success r.state e (ap is_standing (sym f) ∙ u))
turn_came cause b r s (Activates e f g h) u = inl (ap is_unfinished e)
turn_came cause b r s (Remains e f g h) u = inl (ap is_unfinished e)
turn_came cause b r s (Fails e f g) u = inl (ap is_unfinished e)
turn_came cause b r s (Reverts e f g) u = inl (undoable_unfinished r.state e)
