-- What the rows of a lawful world are, what they weigh, and the modules that they hold: docs/rows.md.
use Rattle.std.specs.Prelude.{◌≡◌, ℕ, true, List, Some}
use Rattle.std.specs.FinMap as fin
use Rattle.apex_base.specs.declared.numbers.SessionId.{SessionId}
use Rattle.apex_base.specs.Held.{kept, is_target}
use Rattle.apex_base.specs.Keys.{Key, IsKey, key_text}
use Rattle.apex_base.specs.RowSums.{kept_weight, module_at}
use Rattle.apex_world.specs.Lawful.{Lawful}
use Rattle.apex_world.specs.Limits.{weight}
use Rattle.apex_world.specs.Rows.{row_at, rows}
use Rattle.apex_world.specs.Selection.{submitted_by}
use Rattle.apex_world.specs.World.{World}

-- at each key, the rows have what the definition of its tag says
abbrev pub RowsHaveTheirValues : Type 0
RowsHaveTheirValues = (w : World) → Lawful w → (k : Key) → IsKey k → fin.get (rows w) (key_text k) ≡ row_at w k

-- and each row is that of a key
abbrev pub RowsHaveKeys : Type 0
RowsHaveKeys = (w : World) → Lawful w → (bytes value : List ℕ) → fin.get (rows w) bytes ≡ Some value
    → (k : Key) × IsKey k × (bytes ≡ key_text k) × (row_at w k ≡ Some value)

-- the rows of files weigh as much as the modules that are kept
abbrev pub FileRowsWeighTheModules : Type 0
FileRowsWeighTheModules = (w : World) → Lawful w → kept_weight (rows w) ≡ weight w

-- the rows of a part whose module is kept are the module that was submitted
abbrev pub RowsHoldTheModules : Type 0
RowsHoldTheModules =
    (w : World) → Lawful w → (session : SessionId) (part : ℕ) → is_target (kept w.sessions) session part ≡ true
    → submitted_by w.modules session part ≡ Some (module_at (rows w) session part)
