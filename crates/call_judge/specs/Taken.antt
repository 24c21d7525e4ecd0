-- The rows of a module's files, and the batch that deletes them: docs/rows.md, tag 5.
use Rattle.std.specs.Prelude.{ℕ, List, [], ◌∷◌, map, None, eqb}
use Rattle.std.specs.List.{filter, starts_with}
use Rattle.std.specs.FinMap as fin
use Rattle.apex_base.specs.declared.records.Part.{Part}
use Rattle.apex_base.specs.declared.records.Target.{Target}
use Rattle.apex_base.specs.declared.records.Target.TheVariants.{Preinstalled, Module}
use Rattle.apex_base.specs.Keys.{RowMap, file_front}
use Rattle.row_codec.specs.declared.batch.Row.{Row}

-- the row at a key goes
abbrev pub deletion : List ℕ → Row
deletion key = record { key = key; value = None }

-- the rows at those of the keys that begin so go
abbrev pub taken : List ℕ → List (List ℕ) → List Row
taken front keys = map deletion (filter (λ key. starts_with eqb key front) keys)

-- the files of a module go, ascending by key
abbrev pub files_taken : RowMap → Target → List Row
files_taken rows Preinstalled = []
files_taken rows (Module session part version) = taken (file_front session part []) (fin.keys rows)

-- what the first part of a session has, if it has one
abbrev pub first_of : (Part → Target) → List Part → Target
first_of target [] = Preinstalled
first_of target (p ∷ ps) = target p
