-- What a success of a simple world judges. Callers want `success_again`, `success_done`, `success_room`
-- and `held_numbered`.
use Rattle.std.proofs.Common.{◌≡◌, ◌≤◌, ℕ, Bool, true, false, cond, eqb, eq-eqb, List, [], ◌∷◌, ◌++◌, length, max}
use Rattle.std.proofs.Common.{Option, Some, None, sym, ap, subst, ◌∙◌, refl, inl, inr}
use Rattle.std.specs.Prelude.{not}
use Rattle.std.proofs.lemmas.Bool.{false≢true}
use Rattle.apex_base.specs.declared.moves.Move.TheVariants as step_of
use Rattle.apex_base.specs.declared.numbers.SessionId.{SessionId}
use Rattle.apex_base.specs.declared.records.Part.{Part}
use Rattle.apex_base.specs.declared.records.Record.{Record}
use Rattle.apex_base.specs.declared.records.RollbackState.{RollbackState}
use Rattle.apex_base.specs.declared.records.RollbackState.TheVariants.{Available}
use Rattle.apex_base.specs.declared.records.State.{State}
use Rattle.apex_base.specs.declared.records.State.TheVariants as state
use Rattle.apex_base.specs.declared.records.Target.{Target}
use Rattle.apex_base.specs.Held.{is_success, is_undoable, is_module, is_target, kept}
use Rattle.apex_base.specs.Keys.{Key, Boots, RecordOf, ActiveOf, BackupOf, FileOf, DataOf, SnapshotOf, PreRestoreOf}
use Rattle.apex_base.specs.Keys.{WatchOf, IsKey, RowMap, key_text}
use Rattle.apex_base.specs.Members.{In}
use Rattle.apex_base.specs.Ranges.{IsMillis}
use Rattle.apex_base.specs.Rollbacks.{is_enabling}
use Rattle.apex_base.specs.Sessions.{names, session_of, with_session}
use Rattle.apex_base.specs.Spelling.{IsTarget, record_text}
use Rattle.apex_base.proofs.SessionLemmas.{of_found, with_found, with_self}
use Rattle.row_codec.specs.declared.batch.Row.{Row}
use Rattle.row_map.specs.Rows.{changed}
use Rattle.row_map.specs.Room.{in_batch}
use Rattle.session_record.specs.Room.{HasPartNumber, HasRoom}
use Rattle.apex_world.specs.declared.calls.Call.TheVariants as calls
use Rattle.apex_world.specs.declared.calls.Reply.TheVariants as reply
use Rattle.apex_world.specs.Advance.{after_success, success_to, success_found}
use Rattle.apex_world.specs.Lawful.{Lawful}
use Rattle.apex_world.specs.Limits.{units}
use Rattle.apex_world.specs.Rows.{rows, row_at}
use Rattle.world_laws.specs.RowsMoved.{success_row, freed}
use Rattle.apex_world.specs.Step.{step}
use Rattle.apex_world.specs.Stepped.{Stepped, done}
use Rattle.apex_world.specs.World.{World}
use Rattle.world_facts.proofs.facts.KeptLemmas.{names_own}
use Rattle.world_facts.proofs.facts.PlainLemmas.{success_plain}
use Rattle.world_laws.proofs.rows.SuccessRows.{success_rows}
use Rattle.call_judge.specs.declared.judged.Judged.{Judged}
use Rattle.call_judge.specs.declared.judged.Patch.{Patch}
use Rattle.call_judge.specs.declared.judged.Patch.TheVariants.{Success}
use Rattle.call_judge.specs.declared.tables.Tables.{Tables}
use Rattle.call_judge.specs.Stands.{StandsFor}
use Rattle.stored_world.specs.Stored.{IsSimple}
use Rattle.call_judge.specs.Ending.{record_change, held_before, row_before, backups_taken, success_batch}
use Rattle.call_judge.specs.Judged.{IsJudged, patched, clock_after, units_after, unfinished_after}
use Rattle.call_judge.specs.Unfinished.{unfinished_with}
use Rattle.call_judge.specs.Moving.{Moves}
use Rattle.call_judge.specs.Taken.{files_taken}
use Rattle.call_judge.proofs.BackupRows.{backups_are}
use Rattle.stored_world.proofs.Batches.{IsRowOf, batch_leads}
use Rattle.call_judge.proofs.BeforeGoes.{before_goes}
use Rattle.call_judge.proofs.GivenUp.{held_target_of, held_by, none_outdated, no_restore, gives}
use Rattle.stored_world.proofs.Room.{numbered}
use Rattle.call_judge.proofs.TakenBatches.{of_module, files_lead}
use Rattle.call_judge.proofs.SuccessBatches.{backup_there}
use Rattle.call_judge.proofs.SuccessStates.{success_state, activated_state, is_success_state, other_clock}
use Rattle.call_judge.proofs.TakenFiles.{not_second}
use Rattle.call_judge.proofs.Moved.{Moving, left_by, no_record, one_part, is_found, its_id, step_is, runs_on}
use Rattle.call_judge.proofs.Moved.{stays_simple, moved_is, has_room_moved}

cond_none : (b : Bool) (o : Option (List ℕ)) → o ≡ None → cond b None o ≡ o
cond_none true o e = sym e
cond_none false o e = refl

module _ (kept_rows : RowMap) (tables : Tables) (w : World) (s : StandsFor kept_rows tables w) (id : SessionId)
    (place : ℕ) (next : State) (m : Moves tables.sessions.items id step_of.Success place next) (session : Record)
    (same : session ≡ record m.session { state = next; rollback = m.session.rollback }) where
  law : Lawful w
  law = s.running.lawful

  found_it : session_of w.sessions id ≡ Some m.session
  found_it = is_found kept_rows tables w s id step_of.Success place next m

  among : In m.session w.sessions
  among = (of_found w.sessions id m.session found_it).0

  low : length m.session.parts ≤ 1
  low = one_part w law s.simple m.session among

  held_is : IsTarget (held_before w.sessions m.session)
  held_is = held_target_of w law m.session m.session.parts

  pub success_room : HasRoom session
  success_room = has_room_moved kept_rows tables w s id step_of.Success place next m session same

  -- where it was ACTIVATED, the row of its name says what that held before it
  before_is : is_success m.session.state ≡ false → row_before (rows w) m.session ≡ held_before w.sessions m.session
  before_is b = backups_are w law m.session among
      (ap is_undoable (activated_state m.session.state next m.goes b)) m.session.parts (λ p i. i)

  pub held_numbered : is_success m.session.state ≡ false → HasPartNumber (row_before kept_rows session)
  held_numbered b =
      subst (λ (k : RowMap). HasPartNumber (row_before k session)) (sym s.stored)
      (subst (λ (x : Record). HasPartNumber (row_before (rows w) x)) (sym same)
      (subst HasPartNumber (sym (before_is b)) (numbered (held_before w.sessions m.session) held_is)))

  module _ (time : ℕ) (is_time : IsMillis time) where
    abbrev g : Moving
    g = record {
      kept = kept_rows;
      tables = tables;
      w = w;
      stands = s;
      call = calls.Success time id;
      is_call = is_time;
      clock = max w.clock time;
      id = id;
      by = step_of.Success;
      called = success_plain w s.simple.plain time id;
      stays = refl;
      place = place;
      next = next;
      moves = m;
      session = session;
      same = same;
    }

    abbrev after : World
    after = left_by g

    called : step w (calls.Success time id) ≡ done after
    called = step_is g

    later : Lawful after
    later = (runs_on g).lawful

    still : IsSimple after
    still = stays_simple g

    id_is : session.id ≡ m.session.id
    id_is = its_id g

    judged_is : (judged : Judged) (clock : ℕ) → judged.reply ≡ reply.Done
        → changed (rows w) judged.rows.items ≡ rows after → judged.patch ≡ Success place session clock
        → clock ≡ max tables.clock time → IsJudged judged kept_rows w (calls.Success time id)
    judged_is judged clock says leads patch later_one =
        moved_is g judged says leads
        (ap (λ (p : Patch). patched p w.sessions) patch)
        (ap (λ (p : Patch). clock_after p w.clock) patch ∙ later_one ∙ ap (λ n. max n time) s.clock)
        (ap (λ (p : Patch). units_after p (units w)) patch)
        (λ name. ap (λ (p : Patch). unfinished_after p name (unfinished_with w.sessions name)) patch)

    -- a success of a session that is SUCCESS already
    again : is_success m.session.state ≡ true → after ≡ record w { clock = max w.clock time }
    again e =
        let own : next ≡ m.session.state =
        success_state m.session.state next m.goes ∙ sym (is_success_state m.session.state e) in
        let one : session ≡ m.session =
        same ∙ ap (λ (b : State). record m.session { state = b; rollback = m.session.rollback }) own in
        ap (λ (ss : List Record). record w { sessions = ss; clock = max w.clock time })
        (ap (λ (x : Record). with_session x w.sessions) one ∙ with_found w.sessions id m.session found_it)

    pub success_again : (judged : Judged) (clock : ℕ) → is_success m.session.state ≡ true → judged.reply ≡ reply.Done
        → judged.rows.items ≡ [] → judged.patch ≡ Success place session clock → clock ≡ max tables.clock time
        → IsJudged judged kept_rows w (calls.Success time id)
    success_again judged clock e says none patch later_one =
        judged_is judged clock says (ap (changed (rows w)) none ∙ batch_leads w after law later [] (λ row i. absurd i)
        (λ k is out. ap (λ (v : World). row_at v k) (again e) ∙ other_clock w (max w.clock time) k)) patch later_one

    module _ (before_it : is_success m.session.state ≡ false) where
      active : m.session.state ≡ state.Activated
      active = activated_state m.session.state next m.goes before_it

      succeeded : session ≡ record m.session { state = state.Success }
      succeeded =
          same ∙ ap (λ (b : State). record m.session { state = b; rollback = m.session.rollback })
          (success_state m.session.state next m.goes)

      at_key : (k : Key) → row_at after k ≡ success_row w (max w.clock time) m.session k
      at_key k = ap (λ (y : Stepped). row_at y.world k) (sym called)
          ∙ success_rows w law time id m.session found_it active k

      sessions_are : after_success (max w.clock time) m.session w.sessions ≡ with_session session w.sessions
      sessions_are =
          sym (ap (λ (y : Stepped). y.world.sessions) (ap (success_found w (max w.clock time) id) found_it
          ∙ ap (success_to w (max w.clock time) m.session) m.goes)
          ∙ ap (λ b. cond b w.sessions (after_success (max w.clock time) m.session w.sessions)) before_it)
          ∙ ap (λ (y : Stepped). y.world.sessions) called

      -- the files of what its name held before go
      goes : (sid : SessionId) (part : ℕ) (path : List ℕ) → is_module sid part (held_before w.sessions m.session) ≡ true
          → row_at after (FileOf sid part path) ≡ None
      goes sid part path e =
          let (p, i, has) = held_by w.sessions m.session m.session.parts sid part e in
          let no_more : is_target (kept (with_session session w.sessions)) sid part ≡ false =
          before_goes w after law later still m.session session among active succeeded refl p.name
          (names_own m.session p i) sid part has in
          at_key (FileOf sid part path)
          ∙ ap (λ b. freed b (after_success (max w.clock time) m.session w.sessions) sid part
          (row_at w (FileOf sid part path)))
          (gives w s.simple m.session low sid part ∙ e)
          ∙ ap (λ b. cond (not b) None (row_at w (FileOf sid part path)))
          (ap (λ ss. is_target (kept ss) sid part) sessions_are ∙ no_more)

      abbrev head : List Row
      head = record_change session ∷ backups_taken m.session.parts

      backup_if : (name : List ℕ) (b : Bool) → names name m.session ≡ b
          → in_batch (key_text (BackupOf name)) head ≡ false
          → cond b None (row_at w (BackupOf name)) ≡ row_at w (BackupOf name)
      backup_if name true e none =
          absurd (false≢true (sym (not_second (key_text (BackupOf name)) (record_change session ∷ [])
          (backups_taken m.session.parts) none) ∙ backup_there name m.session.parts low e))
      backup_if name false e none = refl

      other : (k : Key) → IsKey k → in_batch (key_text k) head ≡ false
          → of_module (held_before w.sessions m.session) k ≡ false
          → success_row w (max w.clock time) m.session k ≡ row_at w k
      other Boots is none e = refl
      other (RecordOf j) is none e =
          let d : eqb j.0 m.session.id.0 ≡ false = ap (λ (i : SessionId). eqb j.0 i.0) (sym id_is)
          ∙ no_record session j (backups_taken m.session.parts) none in
          rw (d, none_outdated w s.simple m.session j) refl
      other (ActiveOf name) is none e = refl
      other (BackupOf name) is none e = backup_if name (names name m.session) refl none
      other (FileOf sid part path) is none e =
          ap (λ b. freed b (after_success (max w.clock time) m.session w.sessions) sid part
          (row_at w (FileOf sid part path)))
          (gives w s.simple m.session low sid part ∙ e)
      other (DataOf name key) is none e = refl
      other (SnapshotOf j name key) is none e =
          ap (λ b. cond b None (row_at w (SnapshotOf j name key))) (none_outdated w s.simple m.session j)
      other (PreRestoreOf j name key) is none e =
          cond_none (eqb j.0 m.session.id.0) (row_at w (PreRestoreOf j name key))
          (no_restore w s.simple m.session j name key)
      other (WatchOf observer name) is none e = refl

      own_row : IsRowOf after (record_change session)
      own_row = record {
        key = RecordOf session.id;
        is_key = (later.ranges.sessions session (with_self session w.sessions)).id;
        spelled = refl;
        value = sym (at_key (RecordOf session.id)
            ∙ rw (eq-eqb session.id.0 m.session.id.0 (ap (λ (i : SessionId). i.0) id_is)) refl
            ∙ ap (λ (o : Option RollbackState). Some (record_text (cond (is_enabling o)
            (record m.session { state = state.Success; rollback = Some Available; moment = max w.clock time })
            (record m.session { state = state.Success })))) (s.simple.plain.sessions m.session among).rollback
            ∙ ap (λ (x : Record). Some (record_text x)) (sym succeeded));
      }

      backup_row : (ps : List Part) → ((p : Part) → In p ps → In p m.session.parts) → (row : Row)
          → In row (backups_taken ps) → IsRowOf after row
      backup_row [] all row i = absurd i
      backup_row (p ∷ ps) all row (inr i) = absurd i
      backup_row (p ∷ ps) all row (inl e) = subst (IsRowOf after) e (record {
        key = BackupOf p.name;
        is_key = tt;
        spelled = refl;
        value = sym (at_key (BackupOf p.name)
            ∙ ap (λ b. cond b None (row_at w (BackupOf p.name))) (names_own m.session p (all p (inl refl))));
      })

      each : (row : Row) → In row head → IsRowOf after row
      each row (inl e) = subst (IsRowOf after) e own_row
      each row (inr i) = backup_row m.session.parts (λ p j. j) row i

      leads : changed (rows w) (head ++ files_taken (rows w) (held_before w.sessions m.session)) ≡ rows after
      leads = files_lead w after law later head each (held_before w.sessions m.session) held_is goes
          (λ k is none e. at_key k ∙ other k is none e)

      -- a success that is done
      pub success_done : (judged : Judged) (clock : ℕ) → judged.reply ≡ reply.Done
          → judged.rows.items ≡ success_batch kept_rows session
          → judged.patch ≡ Success place session clock → clock ≡ max tables.clock time
          → IsJudged judged kept_rows w (calls.Success time id)
      success_done judged clock says batch patch later_one =
          judged_is judged clock says
          (ap (changed (rows w)) (batch
          ∙ ap (λ (k : RowMap). success_batch k session) s.stored
          ∙ ap (λ (x : Record). (record_change session ∷ backups_taken x.parts)
          ++ files_taken (rows w) (row_before (rows w) x)) same
          ∙ ap (λ (t : Target). head ++ files_taken (rows w) t) (before_is before_it)) ∙ leads) patch later_one
