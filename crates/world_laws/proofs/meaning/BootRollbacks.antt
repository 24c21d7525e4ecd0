-- What a boot makes of the rollback of one session: it stays what it is, or is deleted. Callers want `settles`,
-- `settled_available` and `settled_enabling`.
use Rattle.std.proofs.Common.{◌≡◌, ℕ, Bool, true, false, cond, List, Option, sym, ap, ◌∙◌, refl}
use Rattle.std.specs.Prelude.{nat_le, ◌+◌}
use Rattle.std.proofs.lemmas.Bool.{and_parts}
use Rattle.apex_base.specs.declared.records.Record.{Record}
use Rattle.apex_base.specs.declared.records.RollbackState.{RollbackState}
use Rattle.apex_base.specs.declared.records.State.{State}
use Rattle.apex_base.specs.declared.records.State.TheVariants as state
use Rattle.apex_base.specs.Held.{is_available}
use Rattle.apex_base.specs.Rollbacks.{is_enabling, no_longer, given_up, is_expired, lifetime}
use Rattle.apex_world.specs.declared.calls.BootOrder.{BootOrder}
use Rattle.apex_world.specs.declared.world.Submission.{Submission}
use Rattle.apex_world.specs.Boot.{reverted, rebuilt}
use Rattle.apex_world.specs.Boot.{booted, kept_in, become, is_same_build, keeps_rollback}
use Rattle.apex_world.specs.Selection.{Mounts, cause_of}
use Rattle.world_facts.proofs.facts.PlainLemmas.{reverted_keeps, activated_keeps}
use Rattle.world_laws.proofs.meaning.RollbackStates.{Settles, settles_same, settles_on, settles_given_up, settles_no_longer}
use Rattle.world_laws.proofs.meaning.RollbackStates.{settles_kept, settles_if, not_enabled_not, given_up_not, available_longer}

-- the state of a session that failed or was reverted, for which no rollback is kept
abbrev pub gives_up : State → Bool
gives_up state.Verified = false
gives_up state.Staged = false
gives_up state.Activated = false
gives_up state.ActivationFailed = true
gives_up state.Success = false
gives_up state.RevertInProgress = false
gives_up state.Reverted = true
gives_up state.Aborted = false

kept_enabling : (s : State) (o : Option RollbackState) → is_enabling (kept_in s o) ≡ true → gives_up s ≡ false
kept_enabling state.Verified o e = refl
kept_enabling state.Staged o e = refl
kept_enabling state.Activated o e = refl
kept_enabling state.ActivationFailed o e = absurd (not_enabled_not o e)
kept_enabling state.Success o e = refl
kept_enabling state.RevertInProgress o e = refl
kept_enabling state.Reverted o e = absurd (not_enabled_not o e)
kept_enabling state.Aborted o e = refl

aged_enabling : (b : Bool) (s : State) (o : Option RollbackState) → (b ≡ true → is_available o ≡ true)
    → is_enabling (cond b (no_longer o) (kept_in s o)) ≡ true → gives_up s ≡ false
aged_enabling true s o old e = absurd (available_longer o (old refl) e)
aged_enabling false s o old e = kept_enabling s o e

rebuilt_available : (b : Bool) (o : Option RollbackState) → is_available (cond b o (given_up o)) ≡ true → b ≡ true
rebuilt_available true o e = refl
rebuilt_available false o e = absurd (given_up_not o e)

module _ (mounts : Mounts) (modules : List Submission) (order : BootOrder) (n : ℕ) (r : Record) where
  abbrev second : Record
  second = reverted r

  abbrev third : Record
  third = rebuilt order.image second

  abbrev last : Record
  last = booted mounts modules order.image n r

  abbrev after : Record
  after = become mounts modules order n r

  same_third : last.rollback ≡ third.rollback
  same_third = (activated_keeps third.state (is_same_build order.image third)
      (cause_of mounts modules order.image.modules third.parts) n third).1

  same_second : second.rollback ≡ r.rollback
  same_second = (reverted_keeps r.state r).1

  settles_third : Settles r.rollback third.rollback
  settles_third =
      settles_on r.rollback second.rollback third.rollback
      (settles_same r.rollback second.rollback same_second)
      (settles_if (keeps_rollback order.image second) second.rollback second.rollback (given_up second.rollback)
      (settles_same second.rollback second.rollback refl) (settles_given_up second.rollback))

  settles_last : Settles last.rollback after.rollback
  settles_last = settles_if (is_expired order.time last) last.rollback (no_longer last.rollback)
      (kept_in last.state last.rollback) (settles_no_longer last.rollback) (settles_kept last.state last.rollback)

  -- a rollback stays what it is, or is deleted
  pub settles : Settles r.rollback after.rollback
  settles =
      settles_on r.rollback third.rollback after.rollback settles_third
      (settles_on third.rollback last.rollback after.rollback (settles_same third.rollback last.rollback same_third)
      settles_last)

  -- one that is available stays so only for this build, and while the image has each name
  pub settled_available : is_available after.rollback ≡ true → keeps_rollback order.image second ≡ true
  settled_available e = rebuilt_available (keeps_rollback order.image second) second.rollback
      (ap is_available (sym same_third) ∙ settles_last.available e)

  -- none becomes available later where its session has failed
  pub settled_enabling : is_enabling after.rollback ≡ true → gives_up after.state ≡ false
  settled_enabling e = aged_enabling (is_expired order.time last) last.state last.rollback
      (λ f. (and_parts (is_available last.rollback) (nat_le (last.moment + lifetime) order.time) f).0) e
