-- What is lawful of sessions by themselves: docs/rows.md, "Lawful worlds". The fields are those of `Lawful` that
-- speak of nothing but sessions and the number of boots.
use Rattle.std.specs.Prelude.{◌≡◌, ℕ, List, is_some}
use Rattle.apex_base.specs.declared.records.Record.{Record}
use Rattle.apex_base.specs.Members.{In}
use Rattle.apex_world.specs.Lawful.{HaveIds, HasParts, AllPeers, NotBothUnfinished, HaveActivations, has_cause}
use Rattle.apex_world.specs.Lawful.{HaveRollbacks, HaveRollbackSessions}

pub record AreLawfulSessions (boots : ℕ) (sessions : List Record) : Type 0 where
  pub ids : HaveIds sessions
  pub parts : (r : Record) → In r sessions → HasParts r
  pub alone : AllPeers NotBothUnfinished sessions
  pub activations : HaveActivations boots sessions
  pub causes : (r : Record) → In r sessions → has_cause r.state ≡ is_some r.cause
  pub rollbacks : HaveRollbacks sessions
  pub undone : HaveRollbackSessions sessions
