use Rattle.std.proofs.Common.{◌≡◌, ℕ, List, drop, ◌<◌, ◌^◌}
use Rattle.std.specs.FinMap as fin
use Rattle.std.specs.Option.{option_or}
use Rattle.row_check.specs.KeptRows.{era_key}
use Rattle.row_check.specs.EraSteps.{kept_of_parts}
use Rattle.row_check.proofs.eras.add_names.Given as goal

-- what is there now, and what the rest adds, is what all add
abbrev pub invariant-loop-p : goal.invariant-loop-p
invariant-loop-p l = (boot : ℕ) (name key : List ℕ) → boot < 2 ^ 32
    → option_or (fin.get l.values (era_key boot name key))
    (kept_of_parts l.source.rows.now l.source.tag l.r (drop l.p-index l.r.parts) boot name key)
    ≡ option_or (fin.get l.fn.values (era_key boot name key))
    (kept_of_parts l.source.rows.now l.source.tag l.r l.r.parts boot name key)
