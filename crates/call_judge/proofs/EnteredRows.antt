-- The rows of a simple world after a submit of one module: a record's, and those of the module's files. Callers want
-- `entered_leads`.
use Rattle.std.proofs.Common.{◌≡◌, ◌≢◌, ℕ, ◌<◌, ◌^◌, zero, suc, Bool, true, false, cond, eqb, ◌&&◌, not, List}
use Rattle.std.proofs.Common.{[], ◌∷◌, Option, Some, None, sym, ap, subst, ◌∙◌, refl, inl, inr, eq-eqb, eqb-true}
use Rattle.std.specs.Prelude.{option_and_then}
use Rattle.std.specs.Option.{option_map}
use Rattle.std.specs.FinMap as fin
use Rattle.std.proofs.lemmas.Bool.{false≢true}
use Rattle.apex_base.specs.declared.numbers.SessionId.{SessionId}
use Rattle.apex_base.specs.declared.records.Kind.{Kind}
use Rattle.apex_base.specs.declared.records.Record.{Record}
use Rattle.apex_base.specs.Commit.{rolls_back, undoes}
use Rattle.apex_base.specs.Held.{is_undoable, kept, is_target}
use Rattle.apex_base.specs.Keys.{Key, Boots, RecordOf, ActiveOf, BackupOf, FileOf, DataOf, SnapshotOf, PreRestoreOf}
use Rattle.apex_base.specs.Keys.{WatchOf, IsKey, key_text}
use Rattle.apex_base.specs.Members.{In}
use Rattle.apex_base.specs.Modules.{FileMap}
use Rattle.apex_base.specs.Sessions.{session_of, with_session}
use Rattle.apex_base.specs.Spelling.{record_text}
use Rattle.apex_base.proofs.MemberLemmas.{in_map, in_map_back}
use Rattle.apex_base.proofs.RowMaps.{in_entries, entry_get}
use Rattle.apex_base.proofs.SessionLemmas.{of_found, of_with, of_other}
use Rattle.apex_world.specs.declared.modules.Package.{Package}
use Rattle.apex_world.specs.Lawful.{Lawful}
use Rattle.world_facts.specs.Plain.{IsPlain}
use Rattle.apex_world.specs.Rows.{rows, row_at, may_happen, has_snapshot, has_pre_restore, earlier}
use Rattle.world_laws.specs.RowsAfter.{still, settled_row, package_file, put_row}
use Rattle.apex_world.specs.Selection.{submitted_by}
use Rattle.apex_world.specs.Submit.{id_taken, image_print, entered}
use Rattle.apex_world.specs.World.{World}
use Rattle.world_laws.proofs.alike.EnteredSessions.{unused}
use Rattle.world_laws.proofs.rows.SubmitRows.{none_before, submit_puts}
use Rattle.world_facts.proofs.facts.WorldRows.{same_id, submission_of, world_row}
use Rattle.package_store.specs.Placed.{file_change}
use Rattle.row_codec.specs.declared.batch.Row.{Row}
use Rattle.row_map.specs.Rows.{changed}
use Rattle.row_map.specs.Room.{in_batch}
use Rattle.call_judge.specs.Submitting.{plain_session, submitted_rows}
use Rattle.stored_world.proofs.BatchRows.{in_batch_row}
use Rattle.stored_world.proofs.Batches.{IsRowOf, batch_leads}
use Rattle.call_judge.proofs.NewRows.{active_same, backup_same, still_target}

-- a key that isn't in a batch is that of none of its rows
no_other : (q : List ℕ) (row : Row) (batch : List Row) → In row batch → in_batch q batch ≡ false → q ≡ row.key → ⊥
no_other q row batch h none same =
    false≢true (sym none ∙ ap (λ (k : List ℕ). in_batch k batch) same ∙ in_batch_row row batch h)

-- Plain sessions keep nothing of the past

module _ (v : World) (plain : IsPlain v) (id : SessionId) (name key : List ℕ) where
  no_snapshot_if : (o : Option Record) → session_of v.sessions id ≡ o
      → option_and_then (λ r. cond (has_snapshot v.sessions r) (earlier v name key r) None) o ≡ None
  no_snapshot_if None e = refl
  no_snapshot_if (Some r) e =
      ap (λ (k : Kind). cond (rolls_back k && not (eqb r.activation 0) && may_happen v.sessions r.id r.rollback)
      (earlier v name key r) None)
      (plain.sessions r (of_found v.sessions id r e).0).kind

  no_snapshot : row_at v (SnapshotOf id name key) ≡ None
  no_snapshot = no_snapshot_if (session_of v.sessions id) refl

  no_pre_restore_if : (o : Option Record) → session_of v.sessions id ≡ o
      → option_and_then (λ r. cond (has_pre_restore r) (earlier v name key r) None) o ≡ None
  no_pre_restore_if None e = refl
  no_pre_restore_if (Some r) e =
      ap (λ (k : Kind). cond (undoes k && is_undoable r.state) (earlier v name key r) None)
      (plain.sessions r (of_found v.sessions id r e).0).kind

  no_pre_restore : row_at v (PreRestoreOf id name key) ≡ None
  no_pre_restore = no_pre_restore_if (session_of v.sessions id) refl

no_file : (b : Bool) → cond {A = Option (List ℕ)} b None None ≡ None
no_file true = refl
no_file false = refl

module _ (w : World) (law : Lawful w) (plain : IsPlain w) (id : SessionId) (p : Package)
    (free : id_taken w.sessions [] (id ∷ []) ≡ None) (ranged : id.0 < 2 ^ 32) where
  abbrev new : Record
  new = plain_session id p (image_print w.image)

  abbrev after : List Record
  after = with_session (plain_session id p (image_print w.image)) w.sessions

  abbrev next : World
  next = entered w id [] false (p ∷ [])

  abbrev batch : List Row
  batch = submitted_rows (plain_session id p (image_print w.image)) p.content

  apart : (r : Record) → In r w.sessions → r.id.0 ≢ id.0
  apart = unused w law id [] false (p ∷ []) free

  puts : (k : Key) → IsKey k → row_at next k ≡ put_row (rows w) after id (p ∷ []) k
  puts = submit_puts w law id [] false (p ∷ []) free

  -- The rows of the batch

  file_put : (path : List ℕ) → row_at next (FileOf id 0 path) ≡ fin.get p.content path
  file_put path =
      puts (FileOf id 0 path) ranged
      ∙ ap (λ (b : Bool). cond b (fin.get p.content path) (settled_row (rows w) after (FileOf id 0 path)))
      (eq-eqb id.0 id.0 refl)

  record_put : row_at next (RecordOf id) ≡ Some (record_text new)
  record_put = ap (option_map record_text) (of_with new w.sessions id refl)

  row_of : (row : Row) → In row batch → IsRowOf next row
  row_of row (inl e) = subst (IsRowOf next) e (record {
    key = RecordOf id;
    is_key = ranged;
    spelled = refl;
    value = sym record_put;
  })
  row_of row (inr h) =
      let (file, i, e) = in_map_back (file_change id 0) row (fin.entries p.content) h in
      subst (IsRowOf next) e (record {
        key = FileOf id 0 file.0;
        is_key = ranged;
        spelled = refl;
        value = sym (file_put file.0 ∙ entry_get p.content file i);
      })

  -- Those that stay

  -- nobody had submitted anything under the id
  none_submitted : (part : ℕ) (o : Option FileMap) → submitted_by w.modules id part ≡ o → o ≡ None
  none_submitted part None e = refl
  none_submitted part (Some m) e =
      let (s, h, same, number, content) = submission_of w.modules id part m e in
      absurd (none_before w law id [] false (p ∷ []) free s h (ap (λ (x : SessionId). x.0) same))

  no_row : (part : ℕ) (path : List ℕ) → row_at w (FileOf id part path) ≡ None
  no_row part path =
      ap (λ (o : Option FileMap). cond (is_target (kept w.sessions) id part)
      (option_and_then (λ (m : FileMap). fin.get m path) o) None)
      (none_submitted part (submitted_by w.modules id part) refl)
      ∙ no_file (is_target (kept w.sessions) id part)

  -- the module has no other file
  no_file_at : (path : List ℕ) → in_batch (key_text (FileOf id 0 path)) batch ≡ false → (o : Option (List ℕ))
      → fin.get p.content path ≡ o → o ≡ None
  no_file_at path none None e = refl
  no_file_at path none (Some value) e =
      let row = file_change id 0 (path, value) in
      absurd (no_other (key_text (FileOf id 0 path)) row batch
      (inr (in_map (file_change id 0) (path, value) (fin.entries p.content) (in_entries p.content path value e)))
      none refl)

  own_none : (part : ℕ) (path : List ℕ) → in_batch (key_text (FileOf id part path)) batch ≡ false
      → package_file (p ∷ []) part path ≡ None
  own_none zero path none = no_file_at path none (fin.get p.content path) refl
  own_none (suc part) path none = refl

  -- files of others are kept as they were
  kept_as : (session : SessionId) (part : ℕ) (path : List ℕ) → session.0 < 2 ^ 32 → (b c : Bool)
      → is_target (kept after) session part ≡ b → is_target (kept w.sessions) session part ≡ c
      → still (rows w) (FileOf session part path) b ≡ row_at w (FileOf session part path)
  kept_as session part path l true c e f = world_row w law (FileOf session part path) l
  kept_as session part path l false false e f =
      sym (ap (λ (b : Bool). cond b (option_and_then (λ (m : FileMap). fin.get m path)
      (submitted_by w.modules session part)) None) f)
  kept_as session part path l false true e f = absurd (false≢true (sym e
      ∙ still_target id [] false (p ∷ []) (image_print w.image) w.sessions apart session part f))

  file_same : (session : SessionId) (part : ℕ) (path : List ℕ) → session.0 < 2 ^ 32 → (b : Bool)
      → eqb session.0 id.0 ≡ b → in_batch (key_text (FileOf session part path)) batch ≡ false
      → row_at next (FileOf session part path) ≡ row_at w (FileOf session part path)
  file_same session part path l true e none =
      let one : session ≡ id = same_id session id (eqb-true session.0 id.0 e) in
      let its : in_batch (key_text (FileOf id part path)) batch ≡ false =
      ap (λ (x : SessionId). in_batch (key_text (FileOf x part path)) batch) (sym one) ∙ none in
      puts (FileOf session part path) l
      ∙ ap (λ (b : Bool). cond b (package_file (p ∷ []) part path)
      (settled_row (rows w) after (FileOf session part path))) e
      ∙ own_none part path its ∙ sym (no_row part path)
      ∙ ap (λ (x : SessionId). row_at w (FileOf x part path)) (sym one)
  file_same session part path l false e none =
      puts (FileOf session part path) l
      ∙ ap (λ (b : Bool). cond b (package_file (p ∷ []) part path)
      (settled_row (rows w) after (FileOf session part path))) e
      ∙ kept_as session part path l (is_target (kept after) session part) (is_target (kept w.sessions) session part)
      refl refl

  record_same : (j : SessionId) → in_batch (key_text (RecordOf j)) batch ≡ false
      → row_at next (RecordOf j) ≡ row_at w (RecordOf j)
  record_same j none =
      ap (option_map record_text) (of_other new w.sessions j
      (λ e. no_other (key_text (RecordOf j)) _ batch (inl refl) none
      (ap (λ (x : SessionId). key_text (RecordOf x)) (same_id j id (sym e)))))

  module _ (plain_next : IsPlain next) where
    -- all other rows stay
    others : (k : Key) → IsKey k → in_batch (key_text k) batch ≡ false → row_at next k ≡ row_at w k
    others Boots i none = refl
    others (RecordOf j) i none = record_same j none
    others (ActiveOf name) i none = active_same id [] false (p ∷ []) (image_print w.image) w.sessions apart name
    others (BackupOf name) i none = backup_same id [] false (p ∷ []) (image_print w.image) w.sessions apart name
    others (FileOf session part path) i none = file_same session part path i (eqb session.0 id.0) refl none
    others (DataOf name key) i none = refl
    others (SnapshotOf x name key) i none =
        no_snapshot next plain_next x name key ∙ sym (no_snapshot w plain x name key)
    others (PreRestoreOf x name key) i none =
        no_pre_restore next plain_next x name key ∙ sym (no_pre_restore w plain x name key)
    others (WatchOf observer name) i none = refl

    -- the batch leads to the rows of the world with the new session
    pub entered_leads : Lawful next → changed (rows w) batch ≡ rows next
    entered_leads lawful = batch_leads w next law lawful batch row_of others
