-- What a core keeps, and what holds of its answers: docs/rows.md, "A core", and docs/calls.md.
use Rattle.std.specs.Prelude.{Bool}
use Rattle.apex_base.specs.Keys.{RowMap}
use Rattle.apex_world.specs.declared.calls.Reply.{Reply}
use Rattle.call_judge.specs.declared.tables.Tables.{Tables}
use Rattle.apex_core.specs.declared.answer.Answer.{Answer}
use Rattle.apex_core.specs.declared.answer.Answer.TheVariants.{Answered, NoMemory}

-- the rows and the tables of a core
pub record Kept : Type 0 where
  pub rows : RowMap
  pub tables : Tables

-- what holds of the reply, if there is one
abbrev pub IfAnswered : Answer → (Reply → Type 0) → Type 0
IfAnswered (Answered reply) P = P reply
IfAnswered (NoMemory entered) P = Unit {0}

-- what holds where memory ran out, by whether the turn entered a history
abbrev pub IfNoMemory : Answer → (Bool → Type 0) → Type 0
IfNoMemory (Answered reply) P = Unit {0}
IfNoMemory (NoMemory entered) P = P entered
