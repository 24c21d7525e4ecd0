-- When a rollback can be committed, and when it is given up: docs/rollbacks.md
-- (AOSP's RollbackManagerServiceImpl).
use Rattle.std.specs.Prelude.{◌≡◌, ℕ, ◌+◌, ◌&&◌, Bool, true, false, not, refl, codes, nat_le, List, [], ◌∷◌, Option, Some, None}
use Rattle.std.specs.List.{list_any}
use Rattle.apex_base.specs.declared.records.Kind.TheVariants.{Plain, WithRollback}
use Rattle.apex_base.specs.declared.records.Record.{Record}
use Rattle.apex_base.specs.declared.records.RollbackState.{RollbackState}
use Rattle.apex_base.specs.declared.records.RollbackState.TheVariants.{Enabling, Available, Committed, Deleted}
use Rattle.apex_base.specs.declared.records.State.TheVariants.{Activated, Success}
use Rattle.apex_base.specs.declared.records.Target.TheVariants.{Preinstalled}
use Rattle.apex_base.specs.Held.{is_undoable, is_available}
use Rattle.apex_base.specs.Sessions.{shares}

-- one that isn't available yet is deleted
abbrev pub not_enabled : Option RollbackState → Option RollbackState
not_enabled (Some Enabling) = Some Deleted
not_enabled rollback = rollback

-- one that is available is deleted
abbrev pub no_longer : Option RollbackState → Option RollbackState
no_longer (Some Available) = Some Deleted
no_longer rollback = rollback

-- one that may still be used is deleted
abbrev pub given_up : Option RollbackState → Option RollbackState
given_up (Some Enabling) = Some Deleted
given_up (Some Available) = Some Deleted
given_up rollback = rollback

abbrev pub is_enabling : Option RollbackState → Bool
is_enabling (Some Enabling) = true
is_enabling _ = false

abbrev pub is_committed : Option RollbackState → Bool
is_committed (Some Committed) = true
is_committed _ = false

-- 14 days, in milliseconds
abbrev pub lifetime : ℕ
lifetime = 1209600000

-- an available rollback is too old at a moment
abbrev pub is_expired : ℕ → Record → Bool
is_expired t r = is_available r.rollback && nat_le (r.moment + lifetime) t

-- a session that can still be undone has one of its names
abbrev pub is_in_use : List Record → Record → Bool
is_in_use sessions x = list_any (λ r. is_undoable r.state && shares x r) sessions

-- the rollback of a session can be committed
abbrev pub is_eligible : List Record → Record → Bool
is_eligible sessions x = is_available x.rollback && not (is_in_use sessions x)

-- Worked values: a rollback that is available since 1000 expires 14 days later, to the millisecond

abbrev pub available_since : ℕ → Record
available_since t = record {
  id = record { 0 = 1 };
  children = [];
  kind = WithRollback;
  parts = record { name = codes "a"; version = None; target = Preinstalled } ∷ [];
  print = codes "P";
  state = Success;
  cause = None;
  activation = 2;
  rollback = Some Available;
  moment = t;
}

pub not_expired : is_expired 1209600999 (available_since 1000) ≡ false
not_expired = refl

pub expired : is_expired 1209601000 (available_since 1000) ≡ true
expired = refl

-- it is eligible while no session that names it can be undone

abbrev pub activated_after : Record
activated_after = record (available_since 0) { id = record { 0 = 3 }; kind = Plain; state = Activated; rollback = None }

pub is_free : is_eligible (available_since 0 ∷ []) (available_since 0) ≡ true
is_free = refl

pub is_taken : is_eligible (available_since 0 ∷ activated_after ∷ []) (available_since 0) ≡ false
is_taken = refl
