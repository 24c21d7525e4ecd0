-- What an abort of a simple world judges. Callers want `abort_done`, `abort_numbered`, `own_target` and
-- `record_below`.
use Rattle.std.proofs.Common.{◌≡◌, ℕ, Bool, true, false, cond, eqb, eq-eqb, List, [], ◌∷◌, Some, None, sym, ap, subst}
use Rattle.std.proofs.Common.{◌∙◌, refl, inl, inr}
use Rattle.std.specs.Cmp.Lexicographic.{slice_cmp}
use Rattle.std.specs.Ordering.{nat_cmp}
use Rattle.apex_base.specs.declared.moves.Move.TheVariants as step_of
use Rattle.apex_base.specs.declared.numbers.SessionId.{SessionId}
use Rattle.apex_base.specs.declared.records.Kind.{Kind}
use Rattle.apex_base.specs.declared.records.Kind.TheVariants.{Plain}
use Rattle.apex_base.specs.declared.records.Part.{Part}
use Rattle.apex_base.specs.declared.records.Record.{Record}
use Rattle.apex_base.specs.declared.records.State.{State}
use Rattle.apex_base.specs.declared.records.State.TheVariants as state
use Rattle.apex_base.specs.declared.records.Target.{Target}
use Rattle.apex_base.specs.Commit.{is_waiting, undoes}
use Rattle.apex_base.specs.Held.{is_module}
use Rattle.apex_base.specs.Keys.{Key, Boots, RecordOf, ActiveOf, BackupOf, FileOf, DataOf, SnapshotOf, PreRestoreOf}
use Rattle.apex_base.specs.Keys.{WatchOf, IsKey, RowMap, key_text}
use Rattle.session_record.specs.Room.{HasPartNumber}
use Rattle.apex_base.proofs.MemberLemmas.{each_in}
use Rattle.apex_world.specs.Lawful.{Lawful}
use Rattle.apex_world.specs.Limits.{units}
use Rattle.apex_world.specs.Step.{step}
use Rattle.apex_base.specs.Members.{In}
use Rattle.apex_base.specs.Moves.{moved, rollback_after}
use Rattle.apex_base.specs.Sessions.{session_of, with_session}
use Rattle.apex_base.specs.Spelling.{IsPart, IsRecord, IsTarget, record_text}
use Rattle.row_codec.specs.declared.batch.Row.{Row}
use Rattle.row_map.specs.Rows.{changed}
use Rattle.row_map.specs.Room.{in_batch}
use Rattle.apex_world.specs.declared.calls.Call.TheVariants as calls
use Rattle.apex_world.specs.declared.calls.Reply.TheVariants as reply
use Rattle.apex_world.specs.Rows.{rows, row_at}
use Rattle.world_laws.specs.RowsMoved.{abort_row, aborted, freed, has_target, takes_back}
use Rattle.apex_world.specs.Stepped.{Stepped, done}
use Rattle.apex_world.specs.World.{World}
use Rattle.world_laws.proofs.rows.AbortedFiles.{aborted_files_go}
use Rattle.world_laws.proofs.rows.AbortRows.{abort_rows}
use Rattle.call_judge.specs.declared.judged.Judged.{Judged}
use Rattle.call_judge.specs.declared.judged.Patch.{Patch}
use Rattle.call_judge.specs.declared.judged.Patch.TheVariants.{Session}
use Rattle.call_judge.specs.declared.tables.Tables.{Tables}
use Rattle.call_judge.specs.Ending.{record_change}
use Rattle.call_judge.specs.Stands.{StandsFor}
use Rattle.call_judge.specs.Judged.{IsJudged, patched, clock_after, units_after, unfinished_after}
use Rattle.call_judge.specs.Unfinished.{unfinished_with}
use Rattle.call_judge.specs.Moving.{Moves}
use Rattle.call_judge.specs.Taken.{files_taken, first_of}
use Rattle.stored_world.proofs.Batches.{IsRowOf}
use Rattle.stored_world.proofs.Room.{numbered}
use Rattle.call_judge.proofs.TakenBatches.{of_module, files_lead}
use Rattle.call_judge.proofs.TakenFiles.{IsBelowFiles}
use Rattle.call_judge.proofs.Moved.{Moving, left_by, no_record, one_target, one_part, is_found, is_among, record_is}
use Rattle.call_judge.proofs.Moved.{its_id, session_is, step_is, runs_on, moved_is}

abbrev pub own_target : Record → Target
own_target r = first_of (λ p. p.target) r.parts

-- a session that can be aborted hasn't begun
waits_if : (a b : State) → moved a step_of.Abort ≡ Some b → (is_waiting a ≡ true) × (b ≡ state.Aborted)
waits_if state.Verified b e = (refl, cc)
waits_if state.Staged b e = (refl, cc)
waits_if state.Activated b e = absurd (cc)
waits_if state.ActivationFailed b e = absurd (cc)
waits_if state.Success b e = absurd (cc)
waits_if state.RevertInProgress b e = absurd (cc)
waits_if state.Reverted b e = absurd (cc)
waits_if state.Aborted b e = absurd (cc)

-- the target of the first part is one
target_is : (ps : List Part) → ((p : Part) → In p ps → IsPart p) → IsTarget (first_of (λ p. p.target) ps)
target_is [] all = tt
target_is (p ∷ ps) all = (all p (inl refl)).target

plain_takes : (k : Kind) (id : SessionId) → k ≡ Plain → takes_back k id ≡ false
plain_takes k id e = ap (λ (k : Kind). takes_back k id) e

plain_undoes : (k : Kind) → k ≡ Plain → undoes k ≡ false
plain_undoes k e = ap undoes e

-- a row whose key is that of a record, and then files, ascend
pub record_below : (r : Record) (row : Row) → In row (record_change r ∷ []) → IsBelowFiles row.key
record_below r row (inl e) rest = ap (λ (x : Row). slice_cmp nat_cmp x.key (5 ∷ rest)) (sym e)
record_below r row (inr i) rest = absurd i

module _ (kept : RowMap) (tables : Tables) (w : World) (s : StandsFor kept tables w) (id : SessionId) (place : ℕ)
    (next : State) (m : Moves tables.sessions.items id step_of.Abort place next) where
  is_record_of : IsRecord m.session
  is_record_of = record_is kept tables w s id step_of.Abort place next m

  own_target_is : IsTarget (own_target m.session)
  own_target_is = target_is m.session.parts (each_in IsPart m.session.parts is_record_of.parts)

  pub abort_numbered : HasPartNumber (own_target m.session)
  abort_numbered = numbered (own_target m.session) own_target_is

  among : In m.session w.sessions
  among = is_among kept tables w s id step_of.Abort place next m

  waits : is_waiting m.session.state ≡ true
  waits = (waits_if m.session.state next m.goes).0

  its_kind : m.session.kind ≡ Plain
  its_kind = (s.simple.plain.sessions m.session among).kind

  one_own : (session : SessionId) (part : ℕ)
      → has_target m.session session part ≡ is_module session part (own_target m.session)
  one_own = one_target (λ p. p.target) m.session.parts (one_part w s.running.lawful s.simple m.session among)

  module _ (session : Record) (same : session ≡ record m.session { state = next; rollback = m.session.rollback }) where
    abbrev g : Moving
    g = record {
      kept = kept;
      tables = tables;
      w = w;
      stands = s;
      call = calls.Abort id;
      is_call = tt;
      clock = w.clock;
      id = id;
      by = step_of.Abort;
      called = refl;
      stays = refl;
      place = place;
      next = next;
      moves = m;
      session = session;
      same = same;
    }

    abbrev after : World
    after = left_by g

    called : step w (calls.Abort id) ≡ done after
    called = step_is g

    aborted_is : aborted m.session ≡ session
    aborted_is = ap (λ (b : State). record m.session {
      state = b;
      rollback = rollback_after step_of.Abort m.session.rollback;
    })
        (sym (waits_if m.session.state next m.goes).1)
        ∙ session_is g

    law : Lawful w
    law = s.running.lawful

    found_it : session_of w.sessions id ≡ Some m.session
    found_it = is_found kept tables w s id step_of.Abort place next m

    at_key : (k : Key) → row_at after k ≡ abort_row w m.session k
    at_key k = ap (λ (y : Stepped). row_at y.world k) (sym called) ∙ abort_rows w law id m.session found_it waits k

    goes : (session : SessionId) (part : ℕ) (path : List ℕ) → is_module session part (own_target m.session) ≡ true
        → row_at after (FileOf session part path) ≡ None
    goes session part path e =
        ap (λ (y : Stepped). row_at y.world (FileOf session part path)) (sym called)
        ∙ aborted_files_go w law id m.session found_it waits (plain_undoes m.session.kind its_kind) session part path
        (one_own session part ∙ e)

    other : (k : Key) → IsKey k → in_batch (key_text k) (record_change session ∷ []) ≡ false
        → of_module (own_target m.session) k ≡ false → abort_row w m.session k ≡ row_at w k
    other Boots is none e = refl
    other (RecordOf j) is none e =
        let d : eqb j.0 m.session.id.0 ≡ false = ap (λ (i : SessionId). eqb j.0 i.0)
        (sym (its_id g))
        ∙ no_record session j [] none in rw d refl
    other (ActiveOf name) is none e = refl
    other (BackupOf name) is none e = refl
    other (FileOf j part path) is none e =
        ap (λ (b : Bool). freed b (with_session (aborted m.session) w.sessions) j part (row_at w (FileOf j part path)))
        (one_own j part ∙ e)
    other (DataOf name key) is none e = refl
    other (SnapshotOf j name key) is none e =
        ap (λ (b : Bool). cond b None (row_at w (SnapshotOf j name key))) (plain_takes m.session.kind j its_kind)
    other (PreRestoreOf j name key) is none e = refl
    other (WatchOf observer name) is none e = refl

    own_row : (row : Row) → In row (record_change session ∷ []) → IsRowOf after row
    own_row row (inr i) = absurd i
    own_row row (inl e) =
        let id_is = its_id g in
        subst (IsRowOf after) e (record {
          key = RecordOf session.id;
          is_key = subst (λ (i : SessionId). IsKey (RecordOf i)) (sym id_is) is_record_of.id;
          spelled = refl;
          value = sym (at_key (RecordOf session.id)
              ∙ ap (λ (b : Bool). cond b (Some (record_text (aborted m.session))) (row_at w (RecordOf session.id)))
              (eq-eqb session.id.0 m.session.id.0 (ap (λ (i : SessionId). i.0) id_is))
              ∙ ap (λ (r : Record). Some (record_text r)) aborted_is);
        })

    leads : changed (rows w) (record_change session ∷ files_taken (rows w) (own_target m.session)) ≡ rows after
    leads =
        files_lead w after law
        (runs_on g).lawful
        (record_change session ∷ []) own_row (own_target m.session) own_target_is goes
        (λ k is none e. at_key k ∙ other k is none e)

    -- an abort that is done
    pub abort_done : (judged : Judged) → judged.reply ≡ reply.Done
        → judged.rows.items ≡ record_change session ∷ files_taken kept (own_target m.session)
        → judged.patch ≡ Session place session → IsJudged judged kept w (calls.Abort id)
    abort_done judged says batch patch =
        moved_is g judged says
        (ap (changed (rows w)) (batch
        ∙ ap (λ (k : RowMap). record_change session ∷ files_taken k (own_target m.session)) s.stored) ∙ leads)
        (ap (λ (p : Patch). patched p w.sessions) patch) (ap (λ (p : Patch). clock_after p w.clock) patch)
        (ap (λ (p : Patch). units_after p (units w)) patch)
        (λ name. ap (λ (p : Patch). unfinished_after p name (unfinished_with w.sessions name)) patch)
