-- Batches that delete a module's files. Callers want `of_module` and `files_lead`.
use Rattle.std.proofs.Common.{◌≡◌, ℕ, Bool, true, false, eqb, eq-eqb, eqb-true, List, [], ◌++◌, drop, None, sym, ap}
use Rattle.std.proofs.Common.{◌∙◌, refl, inl, inr}
use Rattle.std.proofs.lemmas.Bool.{and_parts, and_from}
use Rattle.apex_base.specs.declared.numbers.SessionId.{SessionId}
use Rattle.apex_base.specs.declared.records.Target.{Target}
use Rattle.apex_base.specs.declared.records.Target.TheVariants.{Preinstalled, Module}
use Rattle.apex_base.specs.Held.{is_module}
use Rattle.apex_base.specs.Keys.{Key, Boots, RecordOf, ActiveOf, BackupOf, FileOf, DataOf, SnapshotOf, PreRestoreOf}
use Rattle.apex_base.specs.Keys.{WatchOf, IsKey, key_text, file_front}
use Rattle.apex_base.specs.Members.{In}
use Rattle.apex_base.specs.Spelling.{IsTarget}
use Rattle.apex_base.proofs.MemberLemmas.{in_append}
use Rattle.row_codec.specs.declared.batch.Row.{Row}
use Rattle.row_map.specs.Rows.{changed}
use Rattle.row_map.specs.Room.{in_batch}
use Rattle.apex_world.specs.Lawful.{Lawful}
use Rattle.apex_world.specs.Rows.{rows, row_at}
use Rattle.apex_world.specs.World.{World}
use Rattle.world_facts.proofs.facts.WorldRows.{same_id, world_row}
use Rattle.call_judge.specs.Taken.{files_taken}
use Rattle.stored_world.proofs.Batches.{IsRowOf, batch_leads}
use Rattle.call_judge.proofs.TakenFiles.{taken_in, not_taken, not_first, not_second}

-- the key of a file of the module
abbrev pub of_module : Target → Key → Bool
of_module t Boots = false
of_module t (RecordOf id) = false
of_module t (ActiveOf name) = false
of_module t (BackupOf name) = false
of_module t (FileOf session part path) = is_module session part t
of_module t (DataOf name key) = false
of_module t (SnapshotOf id name key) = false
of_module t (PreRestoreOf id name key) = false
of_module t (WatchOf observer name) = false

own_module : (session : SessionId) (part version : ℕ) → is_module session part (Module session part version) ≡ true
own_module session part version = and_from _ _ (eq-eqb session.0 session.0 refl) (eq-eqb part part refl)

module _ (w v : World) (before : Lawful w) (after : Lawful v) (head : List Row)
    (each : (row : Row) → In row head → IsRowOf v row) where
  -- no file of the module is there afterwards
  abbrev Gone : Target → Type 0
  Gone t = (session : SessionId) (part : ℕ) (path : List ℕ) → is_module session part t ≡ true
      → row_at v (FileOf session part path) ≡ None

  file_goes : (t : Target) → IsTarget t → Gone t → (row : Row) → In row (files_taken (rows w) t) → IsRowOf v row
  file_goes Preinstalled is gone row i = absurd i
  file_goes (Module session part version) is gone row i =
      let (goes, begun) = taken_in (file_front session part []) (rows w) row i in record {
        key = FileOf session part (drop 6 row.key);
        is_key = is.0;
        spelled = begun;
        value = ap (λ (r : Row). r.value) goes
            ∙ sym (gone session part (drop 6 row.key) (own_module session part version));
      }

  -- where one of its files isn't taken, it wasn't there
  was_gone : (t : Target) (session : SessionId) (part : ℕ) (path : List ℕ) → IsKey (FileOf session part path)
      → is_module session part t ≡ true
      → in_batch (key_text (FileOf session part path)) (files_taken (rows w) t) ≡ false
      → row_at w (FileOf session part path) ≡ None
  was_gone Preinstalled session part path is m none = absurd (cc)
  was_gone (Module s p version) session part path is m none =
      let (a, b) = and_parts (eqb s.0 session.0) (eqb p part) m in
      let same : file_front s p path ≡ file_front session part path =
      ap (λ (i : SessionId). file_front i p path) (same_id s session (eqb-true _ _ a))
      ∙ ap (λ (n : ℕ). file_front session n path) (eqb-true _ _ b) in
      sym (world_row w before (FileOf session part path) is)
      ∙ not_taken (file_front s p []) (rows w) (file_front session part path) path (sym same) none

  module _ (t : Target) (is : IsTarget t) (gone : Gone t)
      (others : (k : Key) → IsKey k → in_batch (key_text k) head ≡ false → of_module t k ≡ false
      → row_at v k ≡ row_at w k) where
    batch : List Row
    batch = head ++ files_taken (rows w) t

    other_if : (k : Key) (b : Bool) → of_module t k ≡ b → IsKey k → in_batch (key_text k) batch ≡ false
        → row_at v k ≡ row_at w k
    unfolding batch
    other_if k false e i none = others k i (not_first (key_text k) head (files_taken (rows w) t) none) e
    other_if (FileOf session part path) true e i none =
        gone session part path e
        ∙ sym (was_gone t session part path i e
        (not_second (key_text (FileOf session part path)) head (files_taken (rows w) t) none))
    other_if Boots true e i none = absurd (cc)
    other_if (RecordOf id) true e i none = absurd (cc)
    other_if (ActiveOf name) true e i none = absurd (cc)
    other_if (BackupOf name) true e i none = absurd (cc)
    other_if (DataOf name key) true e i none = absurd (cc)
    other_if (SnapshotOf id name key) true e i none = absurd (cc)
    other_if (PreRestoreOf id name key) true e i none = absurd (cc)
    other_if (WatchOf observer name) true e i none = absurd (cc)

    -- rows of the world afterwards, and then the files of a module, lead to it, where no other row changes
    pub files_lead : changed (rows w) (head ++ files_taken (rows w) t) ≡ rows v
    unfolding batch
    files_lead =
        batch_leads w v before after batch
        (λ row i. elim (in_append row head (files_taken (rows w) t) i) [
          | inl j ↦ each row j
          | inr j ↦ file_goes t is gone row j
        ])
        (λ k i none. other_if k (of_module t k) refl i none)
