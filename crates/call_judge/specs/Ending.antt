-- The rows that a success changes in a world of plain sessions: docs/rows.md, "After a call".
use Rattle.std.specs.Prelude.{ℕ, List, [], ◌∷◌, ◌++◌, Option, Some, None, option_and_then}
use Rattle.std.specs.FinMap as fin
use Rattle.apex_base.specs.declared.records.Part.{Part}
use Rattle.apex_base.specs.declared.records.Record.{Record}
use Rattle.apex_base.specs.declared.records.Target.{Target}
use Rattle.apex_base.specs.declared.records.Target.TheVariants.{Preinstalled}
use Rattle.apex_base.specs.Held.{before}
use Rattle.apex_base.specs.Keys.{BackupOf, RecordOf, RowMap, key_text}
use Rattle.apex_base.specs.Spelling.{record_text, target_at}
use Rattle.row_codec.specs.declared.batch.Row.{Row}
use Rattle.call_judge.specs.Taken.{deletion, files_taken, first_of}

-- the row of a session's record
abbrev pub record_change : Record → Row
record_change r = record { key = key_text (RecordOf r.id); value = Some (record_text r) }

-- what the name of a session held before it
abbrev pub held_before : List Record → Record → Target
held_before sessions r = first_of (λ p. before sessions r p.name) r.parts

-- the row of what it held before goes
abbrev pub backups_taken : List Part → List Row
backups_taken [] = []
backups_taken (p ∷ ps) = deletion (key_text (BackupOf p.name)) ∷ []

-- the target that is read from a value; preinstalled where none is there

abbrev pub read_target : Option (Target × List ℕ) → Target
read_target None = Preinstalled
read_target (Some found) = found.0

abbrev pub spelled : Option (List ℕ) → Target
spelled value = read_target (option_and_then target_at value)

-- what the name of a session held before it, as its row says
abbrev pub row_before : RowMap → Record → Target
row_before rows r = first_of (λ p. spelled (fin.get rows (key_text (BackupOf p.name)))) r.parts

-- the session's record, the row of what its name held before, and the files of that
abbrev pub success_batch : RowMap → Record → List Row
success_batch rows r = (record_change r ∷ backups_taken r.parts) ++ files_taken rows (row_before rows r)
