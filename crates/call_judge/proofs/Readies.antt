-- What a Ready of a simple world judges. Callers want `ready_again`, `ready_done` and `if_done`.
use Rattle.std.proofs.Common.{◌≡◌, ℕ, Bool, true, false, cond, eqb, eq-eqb, List, [], ◌∷◌, Some, Result, Ok, Err, IfOk}
use Rattle.std.proofs.Common.{sym, ap, subst, ◌∙◌, refl, inl, inr}
use Rattle.apex_base.specs.declared.moves.Move.TheVariants as step_of
use Rattle.apex_base.specs.declared.numbers.SessionId.{SessionId}
use Rattle.apex_base.specs.declared.records.Record.{Record}
use Rattle.apex_base.specs.declared.records.State.{State}
use Rattle.apex_base.specs.declared.records.State.TheVariants as state
use Rattle.apex_base.specs.Keys.{Key, Boots, RecordOf, ActiveOf, BackupOf, FileOf, DataOf, SnapshotOf, PreRestoreOf}
use Rattle.apex_base.specs.Keys.{WatchOf, RowMap, key_text}
use Rattle.apex_base.specs.Members.{In}
use Rattle.apex_base.specs.Moves.{moved}
use Rattle.apex_base.specs.Sessions.{session_of, with_session}
use Rattle.apex_base.specs.Spelling.{record_text}
use Rattle.apex_base.proofs.SessionLemmas.{with_found}
use Rattle.row_codec.specs.declared.batch.Row.{Row}
use Rattle.row_map.specs.Rows.{changed}
use Rattle.row_map.specs.Room.{in_batch}
use Rattle.apex_world.specs.declared.calls.Call.TheVariants as calls
use Rattle.apex_world.specs.declared.calls.Reply.TheVariants as reply
use Rattle.apex_world.specs.Lawful.{Lawful}
use Rattle.apex_world.specs.Limits.{units}
use Rattle.apex_world.specs.Rows.{rows, row_at}
use Rattle.apex_base.specs.Held.{is_staged}
use Rattle.world_laws.specs.RowsMoved.{ready_row}
use Rattle.apex_world.specs.Stepped.{Stepped, done}
use Rattle.apex_world.specs.World.{World}
use Rattle.world_laws.proofs.rows.ReadyRows.{ready_rows}
use Rattle.call_judge.specs.declared.judged.Judged.{Judged}
use Rattle.call_judge.specs.declared.judged.Patch.{Patch}
use Rattle.call_judge.specs.declared.judged.Patch.TheVariants.{Nothing, Session}
use Rattle.call_judge.specs.declared.tables.Tables.{Tables}
use Rattle.call_judge.specs.Stands.{StandsFor}
use Rattle.call_judge.specs.Ending.{record_change}
use Rattle.call_judge.specs.Judged.{IsJudged, patched, clock_after, units_after, unfinished_after}
use Rattle.call_judge.specs.Moving.{Moves, in_state}
use Rattle.call_judge.specs.Unfinished.{unfinished_with}
use Rattle.stored_world.proofs.Batches.{IsRowOf, batch_leads}
use Rattle.call_judge.proofs.Judgements.{quiet_is}
use Rattle.call_judge.proofs.Moved.{Moving, left_by, no_record, is_found, record_is, step_is, runs_on, moved_is}

-- Ready leaves a session that is STAGED in its state
staged_state : (a b : State) → is_staged a ≡ true → moved a step_of.Ready ≡ Some b → b ≡ a
staged_state state.Staged b e f = cc
staged_state state.Verified b e f = absurd (cc)
staged_state state.Activated b e f = absurd (cc)
staged_state state.ActivationFailed b e f = absurd (cc)
staged_state state.Success b e f = absurd (cc)
staged_state state.RevertInProgress b e f = absurd (cc)
staged_state state.Reverted b e f = absurd (cc)
staged_state state.Aborted b e f = absurd (cc)

-- any other that it moves was VERIFIED, and is STAGED now
verified_state : (a b : State) → is_staged a ≡ false → moved a step_of.Ready ≡ Some b
    → (a ≡ state.Verified) × (b ≡ state.Staged)
verified_state state.Verified b e f = (refl, cc)
verified_state state.Staged b e f = absurd (cc)
verified_state state.Activated b e f = absurd (cc)
verified_state state.ActivationFailed b e f = absurd (cc)
verified_state state.Success b e f = absurd (cc)
verified_state state.RevertInProgress b e f = absurd (cc)
verified_state state.Reverted b e f = absurd (cc)
verified_state state.Aborted b e f = absurd (cc)

-- three facts on what was judged, if it was, are one
pub if_done : {E : Type 0} (result : Result Judged E) (place : ℕ) (session : Record) (P : Judged → Type 0)
    → IfOk result (λ j. j.reply ≡ reply.Done) → IfOk result (λ j. j.rows.items ≡ record_change session ∷ [])
    → IfOk result (λ j. j.patch ≡ Session place session)
    → ((j : Judged) → j.reply ≡ reply.Done → j.rows.items ≡ record_change session ∷ []
    → j.patch ≡ Session place session → P j)
    → IfOk result P
if_done (Ok j) place session P says batch patch all = all j says batch patch
if_done (Err e) place session P says batch patch all = tt

module _ (kept : RowMap) (tables : Tables) (w : World) (s : StandsFor kept tables w) (id : SessionId) (place : ℕ)
    (next : State) (m : Moves tables.sessions.items id step_of.Ready place next) where
  abbrev g : Moving
  g = record {
    kept = kept;
    tables = tables;
    w = w;
    stands = s;
    call = calls.Ready id;
    is_call = tt;
    clock = w.clock;
    id = id;
    by = step_of.Ready;
    called = refl;
    stays = refl;
    place = place;
    next = next;
    moves = m;
    session = in_state m.session next;
    same = refl;
  }

  abbrev after : World
  after = left_by g

  found_it : session_of w.sessions id ≡ Some m.session
  found_it = is_found kept tables w s id step_of.Ready place next m

  -- Ready of a session that is STAGED already
  pub ready_again : (judged : Judged) → is_staged m.session.state ≡ true → judged.reply ≡ reply.Done
      → judged.rows.items ≡ [] → judged.patch ≡ Nothing → IsJudged judged kept w (calls.Ready id)
  ready_again judged staged says none nothing =
      let same : with_session (in_state m.session next) w.sessions ≡ w.sessions =
      ap (λ (b : State). with_session (in_state m.session b) w.sessions)
      (staged_state m.session.state next staged m.goes)
      ∙ with_found w.sessions id m.session found_it in
      quiet_is kept tables w s judged (calls.Ready id) (done after) (step_is g)
      (ap (λ (ss : List Record). record w { sessions = ss }) same) says none nothing

  module _ (unstaged : is_staged m.session.state ≡ false) where
    law : Lawful w
    law = s.running.lawful

    staged_is : record m.session { state = state.Staged } ≡ in_state m.session next
    staged_is = ap (λ (b : State). in_state m.session b) (sym (verified_state m.session.state next unstaged m.goes).1)

    at_key : (k : Key) → row_at after k ≡ ready_row w m.session k
    at_key k =
        ap (λ (y : Stepped). row_at y.world k) (sym (step_is g))
        ∙ ready_rows w law id m.session found_it (verified_state m.session.state next unstaged m.goes).0 k

    other : (k : Key) → in_batch (key_text k) (record_change (in_state m.session next) ∷ []) ≡ false
        → ready_row w m.session k ≡ row_at w k
    other Boots none = refl
    other (RecordOf j) none =
        let d : eqb j.0 m.session.id.0 ≡ false = no_record (in_state m.session next) j [] none in rw d refl
    other (ActiveOf name) none = refl
    other (BackupOf name) none = refl
    other (FileOf session part path) none = refl
    other (DataOf name key) none = refl
    other (SnapshotOf session name key) none = refl
    other (PreRestoreOf session name key) none = refl
    other (WatchOf observer name) none = refl

    own_row : (row : Row) → In row (record_change (in_state m.session next) ∷ []) → IsRowOf after row
    own_row row (inr i) = absurd i
    own_row row (inl e) = subst (IsRowOf after) e (record {
      key = RecordOf m.session.id;
      is_key = (record_is kept tables w s id step_of.Ready place next m).id;
      spelled = refl;
      value = sym (at_key (RecordOf m.session.id)
          ∙ ap (λ (b : Bool). cond b (Some (record_text (record m.session { state = state.Staged })))
          (row_at w (RecordOf m.session.id))) (eq-eqb m.session.id.0 m.session.id.0 refl)
          ∙ ap (λ (x : Record). Some (record_text x)) staged_is);
    })

    leads : changed (rows w) (record_change (in_state m.session next) ∷ []) ≡ rows after
    leads =
        batch_leads w after law
        (runs_on g).lawful
        (record_change (in_state m.session next) ∷ []) own_row
        (λ k is none. at_key k ∙ other k none)

    -- Ready of a session that is VERIFIED
    pub ready_done : (judged : Judged) → judged.reply ≡ reply.Done
        → judged.rows.items ≡ record_change (in_state m.session next) ∷ []
        → judged.patch ≡ Session place (in_state m.session next) → IsJudged judged kept w (calls.Ready id)
    ready_done judged says batch patch =
        moved_is g judged says (ap (changed (rows w)) batch ∙ leads)
        (ap (λ (p : Patch). patched p w.sessions) patch) (ap (λ (p : Patch). clock_after p w.clock) patch)
        (ap (λ (p : Patch). units_after p (units w)) patch)
        (λ name. ap (λ (p : Patch). unfinished_after p name (unfinished_with w.sessions name)) patch)
