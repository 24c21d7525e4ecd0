-- A batch of a session's record and the files of its module. Callers want `record_ascends` and `joined`.
use Rattle.std.proofs.Common.{◌≡◌, ℕ, List, [], ◌∷◌, ◌++◌, map, ap, ◌∙◌, refl}
use Rattle.std.specs.Cmp.Lexicographic.{slice_cmp}
use Rattle.std.specs.Ordering.{nat_cmp}
use Rattle.std.specs.List.{AllByRecursion}
use Rattle.std.specs.List.Sorted.{IsStrictlySortedBy}
use Rattle.std.specs.FinMap as fin
use Rattle.std.specs.declared.cmp.Ordering.TheVariants.{Less}
use Rattle.apex_base.specs.declared.numbers.SessionId.{SessionId}
use Rattle.apex_base.specs.declared.records.Record.{Record}
use Rattle.apex_base.specs.Keys.{id_text}
use Rattle.apex_base.specs.Modules.{FileMap}
use Rattle.package_store.specs.Placed.{file_change, file_changes}
use Rattle.row_codec.specs.declared.batch.Row.{Row}
use Rattle.row_codec.specs.Batch.{keys_of}
use Rattle.call_judge.specs.Submitting.{submitted_rows}

-- the key of a record is below those of files
below_files : (rest : List ℕ) (session : SessionId) (part : ℕ) (files : List (List ℕ × List ℕ))
    → AllByRecursion (λ k. slice_cmp nat_cmp (2 ∷ rest) k ≡ Less) (keys_of (map (file_change session part) files))
below_files rest session part [] = tt
below_files rest session part (file ∷ files) = (refl, below_files rest session part files)

-- a record's row, and then those of files, ascend
pub record_ascends : (session : Record) (files : FileMap) (rows : List Row) → rows ≡ submitted_rows session files
    → IsStrictlySortedBy (slice_cmp nat_cmp) (keys_of (file_changes session.id 0 files))
    → IsStrictlySortedBy (slice_cmp nat_cmp) (keys_of rows)
unfolding IsStrictlySortedBy
record_ascends session files rows e up = rw e (below_files (id_text session.id) session.id 0 (fin.entries files), up)

-- rows that were joined are those of a record and of files
pub joined : (session : Record) (files directory : FileMap) (first second all : List Row) (row : Row)
    → directory ≡ files → first ≡ row ∷ [] → second ≡ file_changes session.id 0 directory → all ≡ first ++ second
    → all ≡ row ∷ file_changes session.id 0 files
joined session files directory first second all row same one more is =
    is ∙ ap (λ (rows : List Row). rows ++ second) one
    ∙ ap (λ (rows : List Row). row ∷ rows) (more ∙ ap (file_changes session.id 0) same)
