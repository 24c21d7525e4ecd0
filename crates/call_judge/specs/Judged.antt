-- What a call is to do: docs/rows.md, "A core".
use Rattle.std.specs.Prelude.{◌≡◌, ◌≤◌, ◌<◌, ◌+◌, ℕ, List, length, insert, slice_set, vec_len, vec_capacity, Option}
use Rattle.apex_base.specs.declared.numbers.SessionId.{SessionId}
use Rattle.apex_base.specs.declared.records.Record.{Record}
use Rattle.apex_base.specs.Keys.{RowMap}
use Rattle.call_judge.specs.declared.judged.Judged.{Judged}
use Rattle.call_judge.specs.declared.judged.Patch.{Patch}
use Rattle.call_judge.specs.declared.judged.Patch.TheVariants.{Nothing, Session, Success, New}
use Rattle.call_judge.specs.declared.tables.Tables.{Tables}
use Rattle.apex_world.specs.declared.calls.Call.{Call}
use Rattle.apex_world.specs.Limits.{kind_units, units}
use Rattle.apex_world.specs.Rows.{rows}
use Rattle.apex_world.specs.Running.{Running}
use Rattle.apex_world.specs.Step.{step}
use Rattle.apex_world.specs.World.{World}
use Rattle.row_map.specs.Rows.{changed}
use Rattle.stored_world.specs.Stored.{IsSimple}
use Rattle.call_judge.specs.Unfinished.{HaveRoom, unfinished_with, under, left_to, entered_to}

-- the sessions after a patch
abbrev pub patched : Patch → List Record → List Record
patched Nothing sessions = sessions
patched (Session place session) sessions = slice_set sessions place session
patched (Success place session clock) sessions = slice_set sessions place session
patched (New place session) sessions = insert sessions place session

-- the clock after it
abbrev pub clock_after : Patch → ℕ → ℕ
clock_after Nothing clock = clock
clock_after (Session place session) clock = clock
clock_after (Success place session later) clock = later
clock_after (New place session) clock = clock

-- the units after it
abbrev pub units_after : Patch → ℕ → ℕ
units_after Nothing units = units
units_after (Session place session) units = units
units_after (Success place session clock) units = units
units_after (New place session) units = units + kind_units session.kind

-- the unfinished session of a name after it
abbrev pub unfinished_after : Patch → List ℕ → Option SessionId → Option SessionId
unfinished_after Nothing name before = before
unfinished_after (Session place session) name before = left_to session name before
unfinished_after (Success place session clock) name before = left_to session name before
unfinished_after (New place session) name before = entered_to session name before

-- the place is one of the list's, or for a new session its end
abbrev pub IsPlaced : Patch → List Record → Type 0
IsPlaced Nothing sessions = Unit {0}
IsPlaced (Session place session) sessions = place < length sessions
IsPlaced (Success place session clock) sessions = place < length sessions
IsPlaced (New place session) sessions = place ≤ length sessions

-- there is room for a new session
abbrev pub HasRoom : Patch → Tables → Type 0
HasRoom Nothing tables = Unit {0}
HasRoom (Session place session) tables = Unit {0}
HasRoom (Success place session clock) tables = Unit {0}
HasRoom (New place session) tables =
    (vec_len tables.sessions < vec_capacity tables.sessions) × HaveRoom tables.unfinished session.parts

-- what runs since the last boot is the same, but for the clock
pub record RunsOn (w v : World) : Type 0 where
  pub scale : w.scale ≡ v.scale
  pub image : w.image ≡ v.image
  pub active : w.active ≡ v.active

-- the reply, the rows and the tables are those of the call in this world
pub record IsJudged (judged : Judged) (kept : RowMap) (w : World) (call : Call) : Type 0 where
  pub reply : judged.reply ≡ (step w call).reply
  pub running : Running (step w call).world
  pub simple : IsSimple (step w call).world
  pub stored : changed kept judged.rows.items ≡ rows (step w call).world
  pub sessions : patched judged.patch w.sessions ≡ (step w call).world.sessions
  pub clock : clock_after judged.patch w.clock ≡ (step w call).world.clock
  pub units : units_after judged.patch (units w) ≡ units (step w call).world
  pub unfinished : (name : List ℕ) → unfinished_after judged.patch name (unfinished_with w.sessions name)
      ≡ unfinished_with (step w call).world.sessions name
  pub rest : RunsOn w (step w call).world

-- the tables with a patch, and the weight of the files that are kept now
pub record IsPatched (patch : Patch) (kept : ℕ) (before after : Tables) : Type 0 where
  pub sessions : after.sessions.items ≡ patched patch before.sessions.items
  pub clock : after.clock ≡ clock_after patch before.clock
  pub units : after.units ≡ units_after patch before.units
  pub unfinished : (name : List ℕ) → under after.unfinished name ≡ unfinished_after patch name (under before.unfinished name)
  pub weight : after.weight ≡ kept
  pub scale : after.scale ≡ before.scale
  pub image : after.image ≡ before.image
  pub active : after.active ≡ before.active

-- the same tables, whatever room they have
pub record IsSame (before after : Tables) : Type 0 where
  pub sessions : after.sessions.items ≡ before.sessions.items
  pub clock : after.clock ≡ before.clock
  pub units : after.units ≡ before.units
  pub unfinished : (name : List ℕ) → under after.unfinished name ≡ under before.unfinished name
  pub weight : after.weight ≡ before.weight
  pub scale : after.scale ≡ before.scale
  pub image : after.image ≡ before.image
  pub active : after.active ≡ before.active
