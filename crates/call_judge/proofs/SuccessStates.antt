-- States and moments of a success. Callers want `success_state`, `activated_state`, `is_success_state`, `time_is` and
-- `other_clock`.
use Rattle.std.proofs.Common.{◌≡◌, ℕ, true, false, max}
use Rattle.std.proofs.Common.{Some, refl, arith}
use Rattle.std.proofs.Math.Nat.{le-max_right}
use Rattle.apex_base.specs.declared.moves.Move.TheVariants as step_of
use Rattle.apex_base.specs.declared.records.State.{State}
use Rattle.apex_base.specs.declared.records.State.TheVariants as state
use Rattle.apex_base.specs.Held.{is_success}
use Rattle.apex_base.specs.Keys.{Key, Boots, RecordOf, ActiveOf, BackupOf, FileOf, DataOf, SnapshotOf, PreRestoreOf}
use Rattle.apex_base.specs.Keys.{WatchOf}
use Rattle.apex_base.specs.Moves.{moved}
use Rattle.apex_base.specs.Ranges.{IsMillis}
use Rattle.apex_world.specs.Rows.{row_at}
use Rattle.apex_world.specs.World.{World}
use Rattle.world_facts.proofs.facts.StateFacts.{success_from}

-- a session that can be marked successful is ACTIVATED, or SUCCESS already
pub success_state : (a b : State) → moved a step_of.Success ≡ Some b → b ≡ state.Success
success_state state.Verified b e = absurd (cc)
success_state state.Staged b e = absurd (cc)
success_state state.Activated b e = cc
success_state state.ActivationFailed b e = absurd (cc)
success_state state.Success b e = cc
success_state state.RevertInProgress b e = absurd (cc)
success_state state.Reverted b e = absurd (cc)
success_state state.Aborted b e = absurd (cc)

pub activated_state : (a b : State) → moved a step_of.Success ≡ Some b → is_success a ≡ false → a ≡ state.Activated
activated_state = success_from

pub is_success_state : (a : State) → is_success a ≡ true → a ≡ state.Success
is_success_state state.Verified e = absurd (cc)
is_success_state state.Staged e = absurd (cc)
is_success_state state.Activated e = absurd (cc)
is_success_state state.ActivationFailed e = absurd (cc)
is_success_state state.Success e = refl
is_success_state state.RevertInProgress e = absurd (cc)
is_success_state state.Reverted e = absurd (cc)
is_success_state state.Aborted e = absurd (cc)

-- a moment that is at most another is one
pub time_is : (a b clock : ℕ) → clock ≡ max a b → IsMillis clock → IsMillis b
time_is a b clock e is = omega (arith, le-max_right a b, e, is)

-- The rows of another clock

pub other_clock : (w : World) (clock : ℕ) (k : Key) → row_at (record w { clock = clock }) k ≡ row_at w k
other_clock w clock Boots = refl
other_clock w clock (RecordOf id) = refl
other_clock w clock (ActiveOf name) = refl
other_clock w clock (BackupOf name) = refl
other_clock w clock (FileOf id part path) = refl
other_clock w clock (DataOf name key) = refl
other_clock w clock (SnapshotOf id name key) = refl
other_clock w clock (PreRestoreOf id name key) = refl
other_clock w clock (WatchOf observer name) = refl
