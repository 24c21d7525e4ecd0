-- What a world holds at most: docs/sessions.md, "Limits", and docs/rows.md, "What is kept at most".
use Rattle.std.specs.Prelude.{ℕ, ◌*◌, ◌≤◌, ◌&&◌, Bool, List, length, map, sum, if◌then◌else◌, ◌≡◌, refl}
use Rattle.std.specs.List.{sum_by}
use Rattle.std.specs.FinMap as fin
use Rattle.apex_base.specs.declared.numbers.Scale.{Scale}
use Rattle.apex_base.specs.declared.records.Record.{Record}
use Rattle.apex_base.specs.Held.{is_undoable, is_available, examples, is_staged}
use Rattle.apex_base.specs.Members.{In}
use Rattle.apex_base.specs.Numbers.{scale_modules, scale_file_weight, scale_data_weight, scale_units}
use Rattle.apex_base.specs.Tables.{Table}
use Rattle.apex_world.specs.Data.{data_weight}
use Rattle.apex_world.specs.Limits.{units, weight}
use Rattle.apex_base.specs.Commit.{undoes}
use Rattle.apex_world.specs.World.{World, Contents}

-- how many names such sessions have together
abbrev pub name_count : (Record → Bool) → List Record → ℕ
name_count test sessions = sum_by (λ r. if test r then length r.parts else 0) sessions

-- a session that can still be undone; one whose rollback is available; and a rollback session that is ready

abbrev pub can_be_undone : Record → Bool
can_be_undone r = is_undoable r.state

abbrev pub can_be_rolled_back : Record → Bool
can_be_rolled_back r = is_available r.rollback

abbrev pub is_ready_rollback : Record → Bool
is_ready_rollback r = undoes r.kind && is_staged r.state

-- how many values stand in a table
abbrev pub table_len : {X : Type 0} → Table X → ℕ
table_len t = sum (map (λ e. fin.len e.1) (fin.entries t))

-- data is of few names, and weighs little for each
pub record HasLittleData (scale : Scale) (contents : Contents) : Type 0 where
  pub names : fin.len contents ≤ scale_modules scale
  pub weight : (name : List ℕ) → data_weight contents name ≤ scale_data_weight scale

-- what is within the scale
pub record IsWithinScale (w : World) : Type 0 where
  pub units : units w ≤ scale_units w.scale
  pub weight : weight w ≤ scale_file_weight w.scale
  pub contents : HasLittleData w.scale w.contents
  pub eras : (contents : Contents) → In contents w.eras → HasLittleData w.scale contents
  pub undoable : name_count can_be_undone w.sessions ≤ scale_modules w.scale
  pub available : name_count can_be_rolled_back w.sessions ≤ scale_modules w.scale
  pub waiting : name_count is_ready_rollback w.sessions ≤ scale_modules w.scale
  pub watches : table_len w.watches ≤ 8 * scale_modules w.scale

-- Worked values: of the two sessions, the second can be undone, and has one name

pub one_name : name_count can_be_undone examples ≡ 1
one_name = refl

pub none_waits : name_count is_ready_rollback examples ≡ 0
none_waits = refl
