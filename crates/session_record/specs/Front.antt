-- The front of a record, before its parts: docs/rows.md, "A record".
use Rattle.std.specs.Prelude.{ℕ, List, Option, Some}
use Rattle.std.specs.Int.{w32}
use Rattle.apex_base.specs.Reading.{◌>>=◌, byte_at, number_at}
use Rattle.apex_base.specs.Spelling.{state_at, kind_at, rollback_at, moment_at, print_at, cause_at}
use Rattle.session_record.specs.declared.front.Front.{Front}

unfoldable pub front_at : List ℕ → Option (Front × List ℕ)
front_at bytes = do
  phase ← state_at bytes
  kind ← kind_at phase.1
  rollback ← rollback_at kind.1
  moment ← moment_at rollback.1
  activation ← number_at w32 moment.1
  print ← print_at activation.1
  cause ← cause_at print.1
  parts ← byte_at cause.1
  children ← byte_at parts.1
  Some (record { state = phase.0; kind = kind.0; rollback = rollback.0; moment = moment.0; activation = activation.0; print = print.0; cause = cause.0; parts = parts.0; children = children.0 }, children.1)
