-- How much a world has used of its scale: docs/sessions.md, "Limits".
use Rattle.std.specs.Prelude.{ℕ, List, if◌then◌else◌, ◌≡◌, refl, codes, [], ◌∷◌, None}
use Rattle.std.specs.List.{sum_by}
use Rattle.apex_base.specs.declared.records.Kind.{Kind}
use Rattle.apex_base.specs.declared.records.Kind.TheVariants.{Plain, WithRollback, RollbackOf}
use Rattle.apex_base.specs.declared.records.Record.{Record}
use Rattle.apex_base.specs.declared.records.Target.{Target}
use Rattle.apex_base.specs.Held.{is_target, kept}
use Rattle.apex_base.specs.Modules.{module_weight}
use Rattle.apex_world.specs.declared.world.Submission.{Submission}
use Rattle.apex_world.specs.World.{World, empty_world}
use Rattle.apex_base.specs.declared.numbers.Scale.TheVariants.{Small}
use Rattle.apex_base.specs.declared.records.State.TheVariants.{Aborted}

-- a session counts one unit, and one with rollback two; the session that a rollback made counts none
abbrev pub kind_units : Kind → ℕ
kind_units Plain = 1
kind_units WithRollback = 2
kind_units (RollbackOf x) = 0

-- the units of all sessions ever made
abbrev pub units_of : List Record → ℕ
units_of sessions = sum_by (λ r. kind_units r.kind) sessions

-- the weight of a module that is among the targets
abbrev pub target_weight : List Target → Submission → ℕ
target_weight targets s = if is_target targets s.session s.part then module_weight s.content else 0

-- the weight of the modules that are kept
abbrev pub weight_of : List Record → List Submission → ℕ
weight_of sessions modules = sum_by (target_weight (kept sessions)) modules

abbrev pub units : World → ℕ
units w = units_of w.sessions

abbrev pub weight : World → ℕ
weight w = weight_of w.sessions w.modules

-- Worked values: a plain session, one with rollback and the session that the rollback made count three units together

abbrev pub example : ℕ → Kind → Record
example n kind = record {
  id = record { 0 = n };
  children = [];
  kind = kind;
  parts = [];
  print = codes "P";
  state = Aborted;
  cause = None;
  activation = 0;
  rollback = None;
  moment = 0;
}

pub three_units : units_of (example 1 Plain ∷ example 2 WithRollback ∷ example 1073741826 (RollbackOf (record { 0 = 2 })) ∷ []) ≡ 3
three_units = refl

pub no_weight : weight (empty_world Small) ≡ 0
no_weight = refl
