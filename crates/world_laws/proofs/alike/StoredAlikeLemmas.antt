-- Lawful worlds have the same rows where the same is stored of them, and nowhere else. Callers want `rows_agree` and
-- `stored_alike`.
use Rattle.std.proofs.Common.{◌≡◌, ℕ, Bool, true, false, cond, eqb, List, [], Option, Some, None, sym, ap, subst, ◌∙◌}
use Rattle.std.proofs.Common.{refl, inl, inr}
use Rattle.std.specs.Prelude.{option_and_then}
use Rattle.std.specs.Option.{option_map}
use Rattle.std.specs.FinMap as fin
use Rattle.apex_base.specs.declared.numbers.SessionId.{SessionId}
use Rattle.apex_base.specs.declared.records.Record.{Record}
use Rattle.apex_base.specs.Held.{kept, is_target}
use Rattle.apex_base.specs.Keys.{Key, Boots, RecordOf, ActiveOf, BackupOf, FileOf, DataOf, SnapshotOf, PreRestoreOf}
use Rattle.apex_base.specs.Keys.{WatchOf, IsKey, key_text}
use Rattle.apex_base.specs.Members.{In}
use Rattle.apex_base.specs.Modules.{FileMap}
use Rattle.apex_base.specs.Reading.{eight_text}
use Rattle.apex_base.specs.RowSums.{module_at}
use Rattle.apex_base.specs.Sessions.{names, session_of}
use Rattle.apex_base.specs.Tables.{value_of}
use Rattle.apex_base.specs.Windows.{last_five}
use Rattle.apex_base.proofs.RowMaps.{same_rows}
use Rattle.apex_base.proofs.SessionLemmas.{of_found, of_in}
use Rattle.apex_world.specs.Lawful.{Lawful}
use Rattle.apex_world.specs.Opened.{opened_sessions, opened_contents, opened_boots, opened_watches}
use Rattle.apex_world.specs.Rows.{boots_text, has_snapshot, has_pre_restore, earlier, row_at, row_keys, rows}
use Rattle.apex_world.specs.Selection.{submitted_by}
use Rattle.world_laws.specs.StoredAlike.{KeepsPast, AreStoredAlike}
use Rattle.apex_world.specs.World.{World, Contents, Watches, boots, era}
use Rattle.world_facts.proofs.facts.HeldModules.{rows_hold_module}
use Rattle.world_laws.proofs.alike.OpenedBoots.{boots_same}
use Rattle.world_facts.proofs.facts.OpenedSessions.{same_opened}
use Rattle.world_facts.proofs.facts.OpenedTables.{contents_again, watches_again}
use Rattle.world_facts.proofs.facts.WorldRows.{record_id, world_keys, world_row}

-- Where the same is stored, the rows are the same

module _ (w v : World) (a : AreStoredAlike w v) where
  -- the other world, with the sessions of this one
  abbrev other : World
  other = record v { sessions = w.sessions }

  other_is : other ≡ v
  other_is = ap (λ (ss : List Record). record v { sessions = ss }) a.sessions

  boots_row_same : row_at w Boots ≡ row_at other Boots
  boots_row_same =
      ap (λ (n : ℕ). cond (eqb n 0) None (Some (boots_text n (last_five w.moments)))) a.boots
      ∙ ap (λ (ms : List ℕ). cond (eqb (boots v) 0) None (Some (boots_text (boots v) ms))) a.moments

  file_if : (b : Bool) (session : SessionId) (part : ℕ) (path : List ℕ) → is_target (kept w.sessions) session part ≡ b
      → cond b (option_and_then (λ (m : FileMap). fin.get m path) (submitted_by w.modules session part)) None
      ≡ cond b (option_and_then (λ (m : FileMap). fin.get m path) (submitted_by v.modules session part)) None
  file_if true session part path e =
      ap (λ (o : Option FileMap). option_and_then (λ (m : FileMap). fin.get m path) o) (a.modules session part e)
  file_if false session part path e = refl

  earlier_if : (b : Bool) (name key : List ℕ) (r : Record) → names name r ≡ b → In r w.sessions
      → KeepsPast w.sessions r
      → cond b (value_of (era w.eras r.activation) name key) None
      ≡ cond b (value_of (era v.eras r.activation) name key) None
  earlier_if false name key r e h k = refl
  earlier_if true name key r e h k = a.past r name key h k e

  past_if : (b : Bool) (name key : List ℕ) (r : Record) → In r w.sessions → (b ≡ true → KeepsPast w.sessions r)
      → cond b (earlier w name key r) None ≡ cond b (earlier other name key r) None
  past_if false name key r h k = refl
  past_if true name key r h k = earlier_if (names name r) name key r refl h (k refl)

  past_of : (o : Option Record) (id : SessionId) (test : Record → Bool) (name key : List ℕ)
      → ((r : Record) → test r ≡ true → KeepsPast w.sessions r) → session_of w.sessions id ≡ o
      → option_and_then (λ (r : Record). cond (test r) (earlier w name key r) None) o
      ≡ option_and_then (λ (r : Record). cond (test r) (earlier other name key r) None) o
  past_of None id test name key k e = refl
  past_of (Some r) id test name key k e = past_if (test r) name key r (of_found w.sessions id r e).0 (k r)

  row_same : (k : Key) → row_at w k ≡ row_at other k
  row_same Boots = boots_row_same
  row_same (RecordOf id) = refl
  row_same (ActiveOf name) = refl
  row_same (BackupOf name) = refl
  row_same (FileOf session part path) =
      file_if (is_target (kept w.sessions) session part) session part path refl
  row_same (DataOf name key) = ap (λ (c : Contents). value_of c name key) a.contents
  row_same (SnapshotOf id name key) =
      past_of (session_of w.sessions id) id (has_snapshot w.sessions) name key (λ r e. inl e) refl
  row_same (PreRestoreOf id name key) =
      past_of (session_of w.sessions id) id has_pre_restore name key (λ r e. inr e) refl
  row_same (WatchOf observer name) =
      ap (λ (t : Watches). option_map (λ (end : ℕ). eight_text end []) (value_of t observer name)) a.watches

  pub rows_agree : Lawful w → Lawful v → rows w ≡ rows v
  rows_agree law law' =
      same_rows (row_keys w) (row_keys v) (row_at w) (row_at v) (world_keys w law) (world_keys v law')
      (λ k i. row_same k ∙ ap (λ (z : World). row_at z k) other_is)

-- And where the rows are the same, so is what is stored

module _ (w v : World) (law : Lawful w) (law' : Lawful v) (same : rows w ≡ rows v) where
  same_sessions : w.sessions ≡ v.sessions
  same_sessions = sym (same_opened w law) ∙ ap opened_sessions same ∙ same_opened v law'

  same_modules : (session : SessionId) (part : ℕ) → is_target (kept w.sessions) session part ≡ true
      → submitted_by w.modules session part ≡ submitted_by v.modules session part
  same_modules session part k =
      let k' : is_target (kept v.sessions) session part ≡ true =
      ap (λ (ss : List Record). is_target (kept ss) session part) (sym same_sessions) ∙ k in
      rows_hold_module w law session part k ∙ ap (λ m. Some (module_at m session part)) same
      ∙ sym (rows_hold_module v law' session part k')

  -- the row of a key
  same_row : (k : Key) → IsKey k → row_at w k ≡ row_at v k
  same_row k i = sym (world_row w law k i) ∙ ap (λ m. fin.get m (key_text k)) same ∙ world_row v law' k i

  snapshot_past : (z : World) (r : Record) (name key : List ℕ) → Lawful z → In r z.sessions
      → has_snapshot z.sessions r ≡ true → names name r ≡ true
      → row_at z (SnapshotOf r.id name key) ≡ value_of (era z.eras r.activation) name key
  snapshot_past z r name key lawful h k n =
      ap (option_and_then (λ (r : Record). cond (has_snapshot z.sessions r) (earlier z name key r) None))
      (of_in z.sessions r lawful.ids.ascend h)
      ∙ ap (λ (b : Bool). cond b (earlier z name key r) None) k
      ∙ ap (λ (b : Bool). cond b (value_of (era z.eras r.activation) name key) None) n

  pre_restore_past : (z : World) (r : Record) (name key : List ℕ) → Lawful z → In r z.sessions
      → has_pre_restore r ≡ true → names name r ≡ true
      → row_at z (PreRestoreOf r.id name key) ≡ value_of (era z.eras r.activation) name key
  pre_restore_past z r name key lawful h k n =
      ap (option_and_then (λ (r : Record). cond (has_pre_restore r) (earlier z name key r) None))
      (of_in z.sessions r lawful.ids.ascend h)
      ∙ ap (λ (b : Bool). cond b (earlier z name key r) None) k
      ∙ ap (λ (b : Bool). cond b (value_of (era z.eras r.activation) name key) None) n

  same_past : (r : Record) (name key : List ℕ) → In r w.sessions → KeepsPast w.sessions r → names name r ≡ true
      → value_of (era w.eras r.activation) name key ≡ value_of (era v.eras r.activation) name key
  same_past r name key h (inl k) n =
      let h' : In r v.sessions = subst (λ (ss : List Record). In r ss) same_sessions h in
      let k' : has_snapshot v.sessions r ≡ true = ap (λ (ss : List Record). has_snapshot ss r) (sym same_sessions)
      ∙ k in
      sym (snapshot_past w r name key law h k n)
      ∙ same_row (SnapshotOf r.id name key) (record_id w law r h)
      ∙ snapshot_past v r name key law' h' k' n
  same_past r name key h (inr k) n =
      let h' : In r v.sessions = subst (λ (ss : List Record). In r ss) same_sessions h in
      sym (pre_restore_past w r name key law h k n)
      ∙ same_row (PreRestoreOf r.id name key) (record_id w law r h)
      ∙ pre_restore_past v r name key law' h' k n

  past_same : ◌≡◌ {A = ℕ × List ℕ} (boots w, last_five w.moments) (boots v, last_five v.moments)
  past_same = sym (boots_same w law) ∙ ap opened_boots same ∙ boots_same v law'

  pub stored_alike : AreStoredAlike w v
  stored_alike = record {
    sessions = same_sessions;
    modules = same_modules;
    contents = sym (contents_again w law) ∙ ap opened_contents same ∙ contents_again v law';
    past = same_past;
    boots = ap (λ (p : ℕ × List ℕ). p.0) past_same;
    moments = ap (λ (p : ℕ × List ℕ). p.1) past_same;
    watches = sym (watches_again w law) ∙ ap opened_watches same ∙ watches_again v law';
  }
