-- What is counted of sessions: docs/rows.md, "What is kept at most".
use Rattle.std.specs.Prelude.{ℕ, ◌≤◌, Bool, List, length, if◌then◌else◌}
use Rattle.std.specs.List.{sum_by}
use Rattle.apex_base.specs.declared.numbers.Scale.{Scale}
use Rattle.apex_base.specs.declared.records.Record.{Record}
use Rattle.apex_base.specs.Numbers.{scale_modules, scale_units}
use Rattle.apex_world.specs.Bounds.{can_be_undone, can_be_rolled_back, is_ready_rollback}
use Rattle.apex_world.specs.Limits.{kind_units}
use Rattle.world_check.specs.declared.counts.Counted.{Counted}
use Rattle.world_check.specs.declared.counts.Counted.TheVariants.{Units, Undoable, Available, Waiting}

-- how many names a session has, where it counts
abbrev pub names_if : Bool → Record → ℕ
names_if counts r = if counts then length r.parts else 0

-- how much of it a session has
abbrev pub amount : Counted → Record → ℕ
amount Units r = kind_units r.kind
amount Undoable r = names_if (can_be_undone r) r
amount Available r = names_if (can_be_rolled_back r) r
amount Waiting r = names_if (is_ready_rollback r) r

-- how much of it a scale allows
abbrev pub most : Counted → Scale → ℕ
most Units scale = scale_units scale
most _ scale = scale_modules scale

-- sessions have at most as much of it together
abbrev pub AreFew : Counted → Scale → List Record → Type 0
AreFew counted scale sessions = sum_by (amount counted) sessions ≤ most counted scale
