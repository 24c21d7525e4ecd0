-- The batch of a success. Callers want `success_ascends` and `backup_there`.
use Rattle.std.proofs.Common.{◌≡◌, ◌≤◌, ℕ, true, List, [], ◌∷◌, length, sym, ap, ◌∙◌, refl, inl, inr, arith}
use Rattle.std.specs.Cmp.Lexicographic.{slice_cmp}
use Rattle.std.specs.List.{list_any}
use Rattle.std.specs.Str.{bytes_eq}
use Rattle.std.specs.List.Sorted.{IsStrictlySortedBy}
use Rattle.std.specs.Ordering.{nat_cmp}
use Rattle.apex_base.specs.declared.records.Part.{Part}
use Rattle.apex_base.specs.declared.records.Record.{Record}
use Rattle.apex_base.specs.Keys.{BackupOf, RowMap, key_text}
use Rattle.apex_base.specs.Members.{In}
use Rattle.row_codec.specs.declared.batch.Row.{Row}
use Rattle.row_codec.specs.Batch.{keys_of}
use Rattle.row_map.specs.Room.{in_batch}
use Rattle.world_facts.proofs.facts.WorldRows.{same_name}
use Rattle.call_judge.specs.Ending.{record_change, row_before, backups_taken, success_batch}
use Rattle.call_judge.specs.Taken.{deletion}
use Rattle.stored_world.proofs.BatchRows.{in_batch_row}
use Rattle.call_judge.proofs.TakenFiles.{IsBelowFiles, all_ascend}
use Rattle.call_judge.proofs.Moved.{or_false}

head_ascends : (r : Record) (ps : List Part)
    → IsStrictlySortedBy (slice_cmp nat_cmp) (keys_of (record_change r ∷ backups_taken ps))
unfolding IsStrictlySortedBy
head_ascends r [] = (tt, tt)
head_ascends r (p ∷ ps) = ((refl, tt), (tt, tt))

head_below : (r : Record) (ps : List Part) (row : Row) → In row (record_change r ∷ backups_taken ps)
    → IsBelowFiles row.key
head_below r ps row (inl e) rest = ap (λ (x : Row). slice_cmp nat_cmp x.key (5 ∷ rest)) (sym e)
head_below r [] row (inr i) rest = absurd i
head_below r (p ∷ ps) row (inr (inl e)) rest = ap (λ (x : Row). slice_cmp nat_cmp x.key (5 ∷ rest)) (sym e)
head_below r (p ∷ ps) row (inr (inr i)) rest = absurd i

pub success_ascends : (m : RowMap) (r : Record)
    → IsStrictlySortedBy (slice_cmp nat_cmp) (keys_of (success_batch m r))
success_ascends m r =
    all_ascend m (row_before m r) (record_change r ∷ backups_taken r.parts) (head_ascends r r.parts)
    (head_below r r.parts)

-- a session that names it has the row of what it held before in the batch
pub backup_there : (name : List ℕ) (ps : List Part) → length ps ≤ 1 → list_any (λ p. bytes_eq p.name name) ps ≡ true
    → in_batch (key_text (BackupOf name)) (backups_taken ps) ≡ true
backup_there name [] low e = absurd (cc)
backup_there name (p ∷ []) low e =
    let same : p.name ≡ name = same_name p.name name (sym (or_false (bytes_eq p.name name)) ∙ e) in
    ap (λ (a : List ℕ). in_batch (key_text (BackupOf a)) (backups_taken (p ∷ []))) (sym same)
    ∙ in_batch_row (deletion (key_text (BackupOf p.name))) (backups_taken (p ∷ [])) (inl refl)
backup_there name (p ∷ q ∷ ps) low e = absurd (omega (arith, low))
