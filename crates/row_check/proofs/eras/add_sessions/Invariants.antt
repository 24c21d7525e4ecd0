use Rattle.std.proofs.Common.{◌≡◌, ℕ, List, drop, ◌<◌, ◌^◌}
use Rattle.std.specs.FinMap as fin
use Rattle.std.specs.Option.{option_or}
use Rattle.row_check.specs.KeptRows.{era_key}
use Rattle.row_check.specs.EraSteps.{kept_of_all}
use Rattle.row_check.proofs.eras.add_sessions.Given as goal

-- what is there now, and what the rest adds, is what all add
abbrev pub invariant-loop-r : goal.invariant-loop-r
invariant-loop-r l = (boot : ℕ) (name key : List ℕ) → boot < 2 ^ 32
    → option_or (fin.get l.values (era_key boot name key))
    (kept_of_all l.source.rows.now l.source.boots l.source.tag (drop l.r-index l.sessions) boot name key)
    ≡ option_or (fin.get l.fn.values (era_key boot name key))
    (kept_of_all l.source.rows.now l.source.boots l.source.tag l.sessions boot name key)
