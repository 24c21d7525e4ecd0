-- What each session says by itself, as one test: docs/rows.md, "Lawful worlds".
use Rattle.std.specs.Prelude.{ℕ, ◌&&◌, Bool}
use Rattle.apex_base.specs.declared.records.Record.{Record}
use Rattle.apex_world.specs.Decided.{has_parts, has_activation, has_its_cause, has_rollback, has_caller_ids}

abbrev pub is_sound : ℕ → Record → Bool
is_sound boots r = has_parts r && (has_activation boots r && (has_its_cause r && (has_rollback r && has_caller_ids r)))
