-- What follows from the way that a boot has with a session: what it was before, and when it was activated.
use Rattle.std.proofs.Common.{◌≡◌, ◌⊎◌, ℕ, ◌≤◌, ◌<◌, Bool, true, false, Option, sym, ap, ◌∙◌, refl, inl, inr, arith}
use Rattle.std.proofs.lemmas.Bool.{false≢true}
use Rattle.apex_base.specs.declared.records.Cause.{Cause}
use Rattle.apex_base.specs.declared.records.Record.{Record}
use Rattle.apex_base.specs.declared.records.State.{State}
use Rattle.apex_base.specs.declared.records.State.TheVariants as state
use Rattle.apex_base.specs.Held.{is_undoable, is_unfinished, is_standing, is_success, is_staged}
use Rattle.apex_world.specs.Lawful.{HasActivation, AreActivatedApart, NotBothUnfinished, never_activated, is_verified}
use Rattle.apex_world.specs.Running.{is_activated}
use Rattle.world_laws.proofs.meaning.BootTurns.{Turns, Rests, Activates, Remains, Fails, Reverts, rests}
use Rattle.world_facts.proofs.facts.KeptLemmas.{stands_as, success_stands, undoable_no_success}
use Rattle.world_facts.proofs.facts.StateFacts.{undoable_unfinished, undoable_activated}

staged_moves : (s : State) → rests s ≡ true → is_staged s ≡ true → ⊥
staged_moves state.Verified e f = absurd (cc)
staged_moves state.Staged e f = absurd (cc)
staged_moves state.Activated e f = absurd (cc)
staged_moves state.ActivationFailed e f = absurd (cc)
staged_moves state.Success e f = absurd (cc)
staged_moves state.RevertInProgress e f = absurd (cc)
staged_moves state.Reverted e f = absurd (cc)
staged_moves state.Aborted e f = absurd (cc)

pub activated_is : (s : State) → is_activated s ≡ true → s ≡ state.Activated
activated_is state.Verified e = absurd (cc)
activated_is state.Staged e = absurd (cc)
activated_is state.Activated e = refl
activated_is state.ActivationFailed e = absurd (cc)
activated_is state.Success e = absurd (cc)
activated_is state.RevertInProgress e = absurd (cc)
activated_is state.Reverted e = absurd (cc)
activated_is state.Aborted e = absurd (cc)

-- a state that fails a test doesn't pass it
no_test : (test : State → Bool) (s t : State) → s ≡ t → test t ≡ false → test s ≡ true → ⊥
no_test test s t e f g = absurd (false≢true (sym f ∙ ap test (sym e) ∙ g))

module _ (cause : Option Cause) (b : ℕ) (r s : Record) where
  -- what is unfinished was so
  pub turned_unfinished : is_unfinished s.state ≡ true → Turns cause b r s → is_unfinished r.state ≡ true
  turned_unfinished u (Rests e f g) = ap is_unfinished (sym f) ∙ u
  turned_unfinished u (Activates e f g c) = ap is_unfinished e
  turned_unfinished u (Remains e f g c) = ap is_unfinished e
  turned_unfinished u (Fails e f g) = ap is_unfinished e
  turned_unfinished u (Reverts e f g) = undoable_unfinished r.state e

  -- a success stays, with its boot
  pub turned_success : is_success r.state ≡ true → Turns cause b r s
      → (s.state ≡ r.state) × (s.activation ≡ r.activation)
  turned_success u (Rests e f g) = (f, g)
  turned_success u (Activates e f g c) = absurd (no_test is_success r.state state.Staged e refl u)
  turned_success u (Remains e f g c) = absurd (no_test is_success r.state state.Activated e refl u)
  turned_success u (Fails e f g) = absurd (no_test is_success r.state state.Staged e refl u)
  turned_success u (Reverts e f g) = absurd (undoable_no_success r.state e u)

  -- and no boot makes one
  pub turned_from_success : is_success s.state ≡ true → Turns cause b r s → is_success r.state ≡ true
  turned_from_success u (Rests e f g) = ap is_success (sym f) ∙ u
  turned_from_success u (Activates e f g c) = absurd (no_test is_success s.state state.Activated f refl u)
  turned_from_success u (Remains e f g c) = absurd (no_test is_success s.state state.Activated f refl u)
  turned_from_success u (Fails e f g) = absurd (no_test is_success s.state state.ActivationFailed f refl u)
  turned_from_success u (Reverts e f g) = absurd (no_test is_success s.state state.Reverted f refl u)

  was_standing : (is_undoable r.state ≡ true) × (is_unfinished r.state ≡ true) ⊎ (is_success r.state ≡ true)
      → (is_unfinished r.state ≡ true) ⊎ (is_success r.state ≡ true)
  was_standing (inl e) = inl e.1
  was_standing (inr e) = inr e

  -- what stands was unfinished, or a success
  pub turned_standing : is_standing s.state ≡ true → Turns cause b r s
      → (is_unfinished r.state ≡ true) ⊎ (is_success r.state ≡ true)
  turned_standing u (Rests e f g) = was_standing (stands_as r.state (ap is_standing (sym f) ∙ u))
  turned_standing u (Activates e f g c) = inl (ap is_unfinished e)
  turned_standing u (Remains e f g c) = inl (ap is_unfinished e)
  turned_standing u (Fails e f g) = absurd (no_test is_standing s.state state.ActivationFailed f refl u)
  turned_standing u (Reverts e f g) = absurd (no_test is_standing s.state state.Reverted f refl u)

  -- nothing is STAGED after a boot
  pub turned_staged : is_staged s.state ≡ true → Turns cause b r s → ⊥
  turned_staged u (Rests e f g) = staged_moves r.state e (ap is_staged (sym f) ∙ u)
  turned_staged u (Activates e f g c) = no_test is_staged s.state state.Activated f refl u
  turned_staged u (Remains e f g c) = no_test is_staged s.state state.Activated f refl u
  turned_staged u (Fails e f g) = no_test is_staged s.state state.ActivationFailed f refl u
  turned_staged u (Reverts e f g) = no_test is_staged s.state state.Reverted f refl u

  -- what wasn't VERIFIED isn't
  pub turned_begun : is_verified r.state ≡ false → Turns cause b r s → is_verified s.state ≡ false
  turned_begun u (Rests e f g) = ap is_verified f ∙ u
  turned_begun u (Activates e f g c) = ap is_verified f
  turned_begun u (Remains e f g c) = ap is_verified f
  turned_begun u (Fails e f g) = ap is_verified f
  turned_begun u (Reverts e f g) = ap is_verified f

  -- an activation boot stays, or is this boot
  pub turned_activation : Turns cause b r s
      → (s.activation ≡ r.activation) ⊎ ((s.activation ≡ b) × (is_unfinished r.state ≡ true))
  turned_activation (Rests e f g) = inl g
  turned_activation (Activates e f g c) = inr (g, ap is_unfinished e)
  turned_activation (Remains e f g c) = inl g
  turned_activation (Fails e f g) = inl g
  turned_activation (Reverts e f g) = inl g

  -- what can be undone was activated now, or could be undone
  pub turned_undoable : is_undoable s.state ≡ true → Turns cause b r s
      → (s.activation ≡ b) ⊎ ((is_undoable r.state ≡ true) × (s.activation ≡ r.activation))
  turned_undoable u (Rests e f g) = inr (ap is_undoable (sym f) ∙ u, g)
  turned_undoable u (Activates e f g c) = inl g
  turned_undoable u (Remains e f g c) = inr (ap is_undoable e, g)
  turned_undoable u (Fails e f g) = absurd (no_test is_undoable s.state state.ActivationFailed f refl u)
  turned_undoable u (Reverts e f g) = absurd (no_test is_undoable s.state state.Reverted f refl u)

  yes_no : (test : State → Bool) (t : State) → s.state ≡ t → test t ≡ true → test s.state ≡ false → ⊥
  yes_no test t e f g = absurd (false≢true (sym g ∙ ap test e ∙ f))

  none_after : HasActivation b r → never_activated s.state ≡ true → Turns cause b r s → s.activation ≡ 0
  none_after h u (Rests e f g) = g ∙ h.none (ap never_activated (sym f) ∙ u)
  none_after h u (Activates e f g c) = absurd (no_test never_activated s.state state.Activated f refl u)
  none_after h u (Remains e f g c) = absurd (no_test never_activated s.state state.Activated f refl u)
  none_after h u (Fails e f g) = g ∙ h.none (ap never_activated e)
  none_after h u (Reverts e f g) = absurd (no_test never_activated s.state state.Reverted f refl u)

  some_after : 1 ≤ b → HasActivation b r → never_activated s.state ≡ false → Turns cause b r s → 1 ≤ s.activation
  some_after l h u (Rests e f g) = let m = h.some (ap never_activated (sym f) ∙ u) in omega (arith, g, m)
  some_after l h u (Activates e f g c) = omega (arith, g, l)
  some_after l h u (Remains e f g c) = let m = h.some (ap never_activated e) in omega (arith, g, m)
  some_after l h u (Fails e f g) = absurd (yes_no never_activated state.ActivationFailed f refl u)
  some_after l h u (Reverts e f g) = let m = h.some (undoable_activated r.state e) in omega (arith, g, m)

  most_after : HasActivation b r → Turns cause b r s → s.activation ≤ b
  most_after h t =
      let m = h.most in
      elim (turned_activation t) [
        | inl e ↦ omega (arith, e, m)
        | inr (e, u) ↦ omega (arith, e)
      ]

  -- an activation boot is there if and only if it was activated
  pub turned_has : 1 ≤ b → HasActivation b r → Turns cause b r s → HasActivation b s
  turned_has l h t = record {
    none = λ e. none_after h e t;
    some = λ e. some_after l h e t;
    most = most_after h t;
  }

-- two sessions that share a name are still activated apart
module _ (b : ℕ) (cause cause' : Option Cause) (r r' s s' : Record) (turn : Turns cause b r r')
    (turn' : Turns cause' b s s') (low : r.activation < b) (low' : s.activation < b)
    (alone : NotBothUnfinished r s) (apart : AreActivatedApart r s) where
  boots_differ : (r'.activation ≡ 0 → ⊥) → (s'.activation ≡ 0 → ⊥) → r'.activation ≡ s'.activation → ⊥
  boots_differ n m same =
      elim (turned_activation cause b r r' turn) [
        | inl e ↦ elim (turned_activation cause' b s s' turn') [
          | inl f ↦ apart.apart (λ z. n (e ∙ z)) (λ z. m (f ∙ z)) (sym e ∙ same ∙ f)
          | inr (f, u) ↦ absurd (omega (arith, e, f, low, same))
        ]
        | inr (e, u) ↦ elim (turned_activation cause' b s s' turn') [
          | inl f ↦ absurd (omega (arith, e, f, low', same))
          | inr (f, v) ↦ alone u v
        ]
      ]

  boots_ascend : is_undoable r'.state ≡ true → is_standing s'.state ≡ true → s'.activation < r'.activation
  boots_ascend u st =
      let was = turned_unfinished cause b r r' (undoable_unfinished r'.state u) turn in
      elim (turned_standing cause' b s s' st turn') [
        | inl v ↦ absurd (alone was v)
        | inr v ↦
            let same = (turned_success cause' b s s' v turn').1 in
            elim (turned_undoable cause b r r' u turn) [
              | inl e ↦ omega (arith, e, same, low')
              | inr (f, e) ↦
                  let l = apart.above f (success_stands s.state v) in
                  omega (arith, e, same, l)
            ]
      ]

  pub turned_apart : AreActivatedApart r' s'
  turned_apart = record { apart = boots_differ; above = boots_ascend }
