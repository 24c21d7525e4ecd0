-- When a rollback may happen. Callers want `available_may`, `may_as_before`, `may_if_not_enabled` and
-- `may_if_no_longer`.
use Rattle.std.proofs.Common.{◌≡◌, true, List, Option, Some, None, refl}
use Rattle.apex_base.specs.declared.numbers.SessionId.{SessionId}
use Rattle.apex_base.specs.declared.records.Record.{Record}
use Rattle.apex_base.specs.declared.records.RollbackState.{RollbackState}
use Rattle.apex_base.specs.declared.records.RollbackState.TheVariants.{Enabling, Available, Committed, Deleted}
use Rattle.apex_base.specs.Commit.{rollback_id}
use Rattle.apex_base.specs.Held.{is_available}
use Rattle.apex_base.specs.Rollbacks.{is_committed, not_enabled, no_longer}
use Rattle.apex_base.specs.Sessions.{session_of}
use Rattle.apex_world.specs.Rows.{is_staged_session, may_happen}

-- an available rollback may happen
pub available_may : (ss : List Record) (id : SessionId) (o : Option RollbackState) → is_available o ≡ true
    → may_happen ss id o ≡ true
available_may ss id None e = absurd (cc)
available_may ss id (Some Enabling) e = absurd (cc)
available_may ss id (Some Available) e = refl
available_may ss id (Some Committed) e = absurd (cc)
available_may ss id (Some Deleted) e = absurd (cc)

-- a rollback may happen as it might before, if a committed one may
pub may_as_before : (ss after : List Record) (id : SessionId) (o : Option RollbackState)
    → (is_committed o ≡ true → is_staged_session (session_of after (rollback_id id)) ≡ true
    → is_staged_session (session_of ss (rollback_id id)) ≡ true)
    → may_happen after id o ≡ true → may_happen ss id o ≡ true
may_as_before ss after id None back m = absurd (cc)
may_as_before ss after id (Some Enabling) back m = refl
may_as_before ss after id (Some Available) back m = refl
may_as_before ss after id (Some Committed) back m = back refl m
may_as_before ss after id (Some Deleted) back m = absurd (cc)

-- and it may happen, if it may where it isn't enabled
pub may_if_not_enabled : (ss : List Record) (id : SessionId) (o : Option RollbackState)
    → may_happen ss id (not_enabled o) ≡ true → may_happen ss id o ≡ true
may_if_not_enabled ss id None m = absurd (cc)
may_if_not_enabled ss id (Some Enabling) m = refl
may_if_not_enabled ss id (Some Available) m = refl
may_if_not_enabled ss id (Some Committed) m = m
may_if_not_enabled ss id (Some Deleted) m = absurd (cc)

-- or where it is kept no longer
pub may_if_no_longer : (ss : List Record) (id : SessionId) (o : Option RollbackState)
    → may_happen ss id (no_longer o) ≡ true → may_happen ss id o ≡ true
may_if_no_longer ss id None m = absurd (cc)
may_if_no_longer ss id (Some Enabling) m = refl
may_if_no_longer ss id (Some Available) m = refl
may_if_no_longer ss id (Some Committed) m = m
may_if_no_longer ss id (Some Deleted) m = absurd (cc)
