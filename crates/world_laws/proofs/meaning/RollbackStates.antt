-- What becomes of the state of a rollback that is given up, kept no longer or not enabled: it stays, or is deleted.
-- Callers want `Fades`, `Settles`, its lemmas, `not_enabled_not`, `given_up_not` and `available_longer`.
use Rattle.std.proofs.Common.{◌≡◌, ◌⊎◌, Bool, true, false, cond, Option, Some, None, sym, ap, ◌∙◌, refl, inl, inr, is_some}
use Rattle.apex_base.specs.declared.records.RollbackState.{RollbackState}
use Rattle.apex_base.specs.declared.records.RollbackState.TheVariants as rollbacks
use Rattle.apex_base.specs.declared.records.State.{State}
use Rattle.apex_base.specs.declared.records.State.TheVariants as state
use Rattle.apex_base.specs.Held.{is_available}
use Rattle.apex_base.specs.Rollbacks.{is_enabling, is_committed, not_enabled, no_longer, given_up}
use Rattle.apex_world.specs.Boot.{kept_in}

-- a rollback stays, or is deleted
abbrev pub Fades : Option RollbackState → Option RollbackState → Type 0
Fades o p = (p ≡ o) ⊎ (p ≡ Some rollbacks.Deleted)

fades_on : (o p q : Option RollbackState) → Fades o p → Fades p q → Fades o q
fades_on o p q (inl e) (inl f) = inl (f ∙ e)
fades_on o p q (inr e) (inl f) = inr (f ∙ e)
fades_on o p q a (inr f) = inr f

-- a rollback stays what it is, or is deleted before it was committed
pub record Settles (o p : Option RollbackState) : Type 0 where
  pub fades : Fades o p
  pub some : is_some p ≡ is_some o
  pub committed : is_committed p ≡ is_committed o
  pub available : is_available p ≡ true → is_available o ≡ true
  pub enabling : is_enabling p ≡ true → is_enabling o ≡ true

pub settles_same : (o p : Option RollbackState) → p ≡ o → Settles o p
settles_same o p e = record {
  fades = inl e;
  some = ap is_some e;
  committed = ap is_committed e;
  available = λ f. ap is_available (sym e) ∙ f;
  enabling = λ f. ap is_enabling (sym e) ∙ f;
}

pub settles_on : (o p q : Option RollbackState) → Settles o p → Settles p q → Settles o q
settles_on o p q a b = record {
  fades = fades_on o p q a.fades b.fades;
  some = b.some ∙ a.some;
  committed = b.committed ∙ a.committed;
  available = λ e. a.available (b.available e);
  enabling = λ e. a.enabling (b.enabling e);
}

pub settles_given_up : (o : Option RollbackState) → Settles o (given_up o)
settles_given_up None = settles_same None None refl
settles_given_up (Some rollbacks.Enabling) =
    record { fades = inr refl; some = refl; committed = refl; available = λ e. absurd (cc); enabling = λ e. refl }
settles_given_up (Some rollbacks.Available) =
    record { fades = inr refl; some = refl; committed = refl; available = λ e. refl; enabling = λ e. absurd (cc) }
settles_given_up (Some rollbacks.Committed) = settles_same _ _ refl
settles_given_up (Some rollbacks.Deleted) = settles_same _ _ refl

pub settles_no_longer : (o : Option RollbackState) → Settles o (no_longer o)
settles_no_longer None = settles_same None None refl
settles_no_longer (Some rollbacks.Enabling) = settles_same _ _ refl
settles_no_longer (Some rollbacks.Available) =
    record { fades = inr refl; some = refl; committed = refl; available = λ e. refl; enabling = λ e. absurd (cc) }
settles_no_longer (Some rollbacks.Committed) = settles_same _ _ refl
settles_no_longer (Some rollbacks.Deleted) = settles_same _ _ refl

pub settles_not_enabled : (o : Option RollbackState) → Settles o (not_enabled o)
settles_not_enabled None = settles_same None None refl
settles_not_enabled (Some rollbacks.Enabling) =
    record { fades = inr refl; some = refl; committed = refl; available = λ e. absurd (cc); enabling = λ e. refl }
settles_not_enabled (Some rollbacks.Available) = settles_same _ _ refl
settles_not_enabled (Some rollbacks.Committed) = settles_same _ _ refl
settles_not_enabled (Some rollbacks.Deleted) = settles_same _ _ refl

pub settles_kept : (s : State) (o : Option RollbackState) → Settles o (kept_in s o)
settles_kept state.Verified o = settles_same o o refl
settles_kept state.Staged o = settles_same o o refl
settles_kept state.Activated o = settles_same o o refl
settles_kept state.ActivationFailed o = settles_not_enabled o
settles_kept state.Success o = settles_same o o refl
settles_kept state.RevertInProgress o = settles_same o o refl
settles_kept state.Reverted o = settles_not_enabled o
settles_kept state.Aborted o = settles_same o o refl

pub settles_if : (b : Bool) (o p q : Option RollbackState) → Settles o p → Settles o q → Settles o (cond b p q)
settles_if true o p q a b = a
settles_if false o p q a b = b

-- What isn't enabled is enabled no more, what is given up isn't available, and what was available isn't enabled

pub not_enabled_not : (o : Option RollbackState) → is_enabling (not_enabled o) ≡ true → ⊥
not_enabled_not None e = absurd (cc)
not_enabled_not (Some rollbacks.Enabling) e = absurd (cc)
not_enabled_not (Some rollbacks.Available) e = absurd (cc)
not_enabled_not (Some rollbacks.Committed) e = absurd (cc)
not_enabled_not (Some rollbacks.Deleted) e = absurd (cc)

pub given_up_not : (o : Option RollbackState) → is_available (given_up o) ≡ true → ⊥
given_up_not None e = absurd (cc)
given_up_not (Some rollbacks.Enabling) e = absurd (cc)
given_up_not (Some rollbacks.Available) e = absurd (cc)
given_up_not (Some rollbacks.Committed) e = absurd (cc)
given_up_not (Some rollbacks.Deleted) e = absurd (cc)

pub available_longer : (o : Option RollbackState) → is_available o ≡ true → is_enabling (no_longer o) ≡ true → ⊥
available_longer None e f = absurd (cc)
available_longer (Some rollbacks.Enabling) e f = absurd (cc)
available_longer (Some rollbacks.Available) e f = absurd (cc)
available_longer (Some rollbacks.Committed) e f = absurd (cc)
available_longer (Some rollbacks.Deleted) e f = absurd (cc)
