-- After a call that changes sessions alone, the rows are those that the sessions settle. Callers want `move_no_more`,
-- `success_no_more`, `revert_no_more` and `call_settles`.
use Rattle.std.proofs.Common.{◌≡◌, ℕ, Bool, true, false, cond, ◌++◌, max, List, [], ◌∷◌, map, filter, is_some, Option}
use Rattle.std.proofs.Common.{Some, None, find, Result, Ok, Err, refl}
use Rattle.std.specs.List.{list_any}
use Rattle.std.specs.FinMap as fin
use Rattle.apex_base.specs.declared.moves.Move.{Move}
use Rattle.apex_base.specs.declared.moves.Move.TheVariants as step_of
use Rattle.apex_base.specs.declared.numbers.SessionId.{SessionId}
use Rattle.apex_base.specs.declared.records.Reason.{Reason}
use Rattle.apex_base.specs.declared.records.Reason.TheVariants as reason
use Rattle.apex_base.specs.declared.records.Record.{Record}
use Rattle.apex_base.specs.declared.records.RollbackState.{RollbackState}
use Rattle.apex_base.specs.declared.records.State.{State}
use Rattle.apex_base.specs.declared.records.State.TheVariants as state
use Rattle.apex_base.specs.declared.refusal.Refusal.{Refusal}
use Rattle.apex_base.specs.declared.refusal.Refusal.TheVariants.{NothingToRevert}
use Rattle.apex_base.specs.Commit.{rollback_id, committed}
use Rattle.apex_base.specs.Held.{is_available, is_success}
use Rattle.apex_base.specs.Keys.{Key, IsKey}
use Rattle.apex_base.specs.Members.{In}
use Rattle.apex_base.specs.Moves.{moved}
use Rattle.apex_base.specs.Results.{◌>>=◌}
use Rattle.apex_base.specs.Sessions.{has_id, session_of, with_session}
use Rattle.apex_base.specs.Windows.{is_failing}
use Rattle.apex_base.proofs.SessionLemmas.{of_found}
use Rattle.apex_world.specs.declared.calls.Call.{Call}
use Rattle.apex_world.specs.declared.calls.Call.TheVariants as calls
use Rattle.apex_world.specs.declared.calls.Reply.TheVariants as reply
use Rattle.apex_world.specs.Advance.{rollback_after, move_to, move_found, after_success, success_to, success_found}
use Rattle.apex_world.specs.Advance.{reverting, told}
use Rattle.apex_world.specs.Data.{unknown_module, value_at}
use Rattle.apex_world.specs.Lawful.{Lawful}
use Rattle.apex_world.specs.Report.{committable, at_once, counted, reported, report_trigger, rollbacks_for, failures_of}
use Rattle.apex_world.specs.Rows.{row_at, rows}
use Rattle.world_laws.specs.RowsAfter.{settled_row, changes_sessions}
use Rattle.apex_world.specs.Step.{step}
use Rattle.apex_world.specs.Stepped.{refused, done, answered}
use Rattle.apex_world.specs.Submit.{pass, image_print}
use Rattle.apex_world.specs.Watching.{is_watching}
use Rattle.apex_world.specs.World.{World, Failures}
use Rattle.world_laws.proofs.meaning.CallStays.{chosen, among_asked, asked_ascend}
use Rattle.world_laws.proofs.alike.CommitsAlike.{can_commit}
use Rattle.world_facts.proofs.facts.KeptLemmas.{ordered}
use Rattle.world_laws.proofs.alike.MovesAlike.{IsEarlyMove, ready_early, abort_early, abort_available, carries_one}
use Rattle.world_laws.proofs.alike.MovesAlike.{goes_early, under_early, moved_to}
use Rattle.world_laws.proofs.alike.MovesAlike as moves
use Rattle.world_laws.proofs.alike.OrderedAfter.{ordered_one, ordered_map}
use Rattle.world_laws.proofs.alike.RevertAlike.{under_reverting}
use Rattle.world_laws.proofs.alike.RevertAlike as reverts
use Rattle.world_laws.proofs.rows.SettledRows.{KeepsNoMore, no_more, no_more_self, settled}
use Rattle.world_laws.proofs.alike.SuccessAlike.{ordered_success}
use Rattle.world_laws.proofs.alike.SuccessAlike as successes
use Rattle.world_laws.proofs.rows.CommitsSettle.{commit_no_more, trigger_no_more}
use Rattle.world_facts.proofs.facts.StateFacts.{success_from}

-- the rows of v are those that its sessions settle from the rows of w
abbrev pub IsSettled : World → World → Type 0
IsSettled w v = (k : Key) → IsKey k → row_at v k ≡ settled_row (rows w) v.sessions k

module _ (w : World) (law : Lawful w) where
  settled_by : (ss' : List Record) → KeepsNoMore w.sessions ss' → (clock : ℕ) (failures : Failures)
      → IsSettled w (record w { sessions = ss'; clock = clock; failures = failures })
  settled_by ss' less clock failures k i = settled w law ss' less clock failures k i

  same_settled : (clock : ℕ) (failures : Failures) → IsSettled w (record w { clock = clock; failures = failures })
  same_settled clock failures = settled_by w.sessions (no_more_self w.sessions) clock failures

  unchanged_settled : IsSettled w w
  unchanged_settled = same_settled w.clock w.failures

  -- Ready and Abort

  module _ (m : Move) (early : (s t : State) → moved s m ≡ Some t → IsEarlyMove s t)
      (available : (o : Option RollbackState) → is_available (rollback_after m o) ≡ true → is_available o ≡ true) where
    -- no more is kept after Ready and Abort
    pub move_no_more : (r : Record) (t : State) → In r w.sessions → moved r.state m ≡ Some t
        → KeepsNoMore w.sessions (with_session (moved_to m available r t) w.sessions)
    move_no_more r t h e =
        let move = early r.state t e in
        let r' = moved_to m available r t in
        no_more w.sessions (with_session r' w.sessions) (ordered w law)
        (ordered_one r r' w.sessions (ordered w law) h (under_early m available r t move))
        (carries_one w.sessions law.ids.ascend r r' h refl (goes_early m available r t move))
        (moves.nothing_new w.sessions law.ids.ascend r r' h refl) (moves.past_stays w law r r' h refl refl move)

    to_settled : (r : Record) (o : Option State) → In r w.sessions → moved r.state m ≡ o
        → IsSettled w (move_to w w.clock r m o).world
    to_settled r None h e = unchanged_settled
    to_settled r (Some t) h e =
        settled_by (with_session (moved_to m available r t) w.sessions) (move_no_more r t h e) w.clock w.failures

    move_settled : (id : SessionId) (o : Option Record) → session_of w.sessions id ≡ o
        → IsSettled w (move_found w w.clock id m o).world
    move_settled id None e = unchanged_settled
    move_settled id (Some r) e = to_settled r (moved r.state m) (of_found w.sessions id r e).0 refl

  -- Success

  -- nor after Success
  pub success_no_more : (clock : ℕ) (r : Record) → In r w.sessions → r.state ≡ state.Activated
      → KeepsNoMore w.sessions (after_success clock r w.sessions)
  success_no_more clock r h active =
      no_more w.sessions (after_success clock r w.sessions) (ordered w law) (ordered_success w law clock r h active)
      (successes.carries_all w law clock r h active) (successes.nothing_new w law clock r h active)
      (successes.past_stays w law clock r h active)

  marked_settled : (clock : ℕ) (b : Bool) (r : Record) → In r w.sessions → (b ≡ false → r.state ≡ state.Activated)
      → IsSettled w (record w { sessions = cond b w.sessions (after_success clock r w.sessions); clock = clock })
  marked_settled clock true r h e = same_settled clock w.failures
  marked_settled clock false r h e =
      settled_by (after_success clock r w.sessions) (success_no_more clock r h (e refl)) clock w.failures

  success_settled_if : (clock : ℕ) (r : Record) (o : Option State) → In r w.sessions
      → moved r.state step_of.Success ≡ o → IsSettled w (success_to w clock r o).world
  success_settled_if clock r None h e = unchanged_settled
  success_settled_if clock r (Some t) h e =
      marked_settled clock (is_success r.state) r h (λ f. success_from r.state t e f)

  success_settled : (clock : ℕ) (id : SessionId) (o : Option Record) → session_of w.sessions id ≡ o
      → IsSettled w (success_found w clock id o).world
  success_settled clock id None e = unchanged_settled
  success_settled clock id (Some r) e =
      success_settled_if clock r (moved r.state step_of.Success) (of_found w.sessions id r e).0 refl

  -- Revert

  -- nor after Revert
  pub revert_no_more : KeepsNoMore w.sessions (map reverting w.sessions)
  revert_no_more =
      no_more w.sessions (map reverting w.sessions) (ordered w law)
      (ordered_map reverting w.sessions (ordered w law) under_reverting) (reverts.carries_all w law)
      (reverts.nothing_new w law) (reverts.past_stays w law)

  revert_settled : (b : Bool)
      → IsSettled w (cond b (done (record w { sessions = map reverting w.sessions })) (refused w NothingToRevert)).world
  revert_settled true = settled_by (map reverting w.sessions) revert_no_more w.clock w.failures
  revert_settled false = unchanged_settled

  -- Commit

  commit_settled : (id : SessionId) (o : Result Record Refusal) → committable w.sessions id ≡ o
      → IsSettled w (answered w (o >>= λ x. Ok (record {
        world = record w { sessions = committed w.sessions x (image_print w.image) };
        reply = reply.Committed (rollback_id x.id);
      }))).world
  commit_settled id (Err refusal) e = unchanged_settled
  commit_settled id (Ok x) e =
      let (h, f) = chosen w.sessions id x e in
      settled_by (committed w.sessions x (image_print w.image))
      (commit_no_more w.sessions (ordered w law) x (can_commit w law x h f) (image_print w.image)) w.clock w.failures

  -- Reports

  at_once_settled : (clock : ℕ) (name : List ℕ) (why : Reason) → IsSettled w (at_once w clock name why).world
  at_once_settled clock name why =
      let among = among_asked w.sessions name why in
      let less = trigger_no_more w.sessions (ordered w law) (image_print w.image) (rollbacks_for why name w.sessions)
      (asked_ascend w.sessions name why law.ids.ascend)
      (λ x h. can_commit w law x (among x h).0 (among x h).1) (filter (is_watching w.watches clock name) w.observers) in
      settled_by (report_trigger w clock name why).sessions less clock (fin.remove w.failures name)

  counted_if : (b : Bool) (clock : ℕ) (name : List ℕ) (why : Reason) (moments : List ℕ)
      → IsSettled w (cond b (at_once w clock name why) (record {
        world = record w { failures = fin.insert w.failures name moments; clock = clock };
        reply = reply.Noted;
      })).world
  counted_if true clock name why moments = at_once_settled clock name why
  counted_if false clock name why moments = same_settled clock (fin.insert w.failures name moments)

  counted_settled : (clock : ℕ) (name : List ℕ) (why : Reason) → IsSettled w (counted w clock name why).world
  counted_settled clock name why =
      let moments = failures_of w.failures name ++ clock ∷ [] in
      counted_if (is_failing clock moments) clock name why moments

  reported_settled : (clock : ℕ) (name : List ℕ) (why : Reason) → IsSettled w (reported w clock name why).world
  reported_settled clock name reason.Unknown = counted_settled clock name reason.Unknown
  reported_settled clock name reason.NativeCrash = at_once_settled clock name reason.NativeCrash
  reported_settled clock name reason.HealthCheck = at_once_settled clock name reason.HealthCheck
  reported_settled clock name reason.AppCrash = counted_settled clock name reason.AppCrash
  reported_settled clock name reason.AppNotResponding = counted_settled clock name reason.AppNotResponding

  report_settled : (o : Option Refusal) (clock : ℕ) (name : List ℕ) (why : Reason)
      → IsSettled w (answered w (pass o >>= λ known. Ok (reported w clock name why))).world
  report_settled None clock name why = reported_settled clock name why
  report_settled (Some refusal) clock name why = unchanged_settled

  -- Questions

  got_settled : (o : Result (List ℕ) Refusal)
      → IsSettled w (answered w (o >>= λ value. Ok (record { world = w; reply = reply.Value value }))).world
  got_settled (Ok value) = unchanged_settled
  got_settled (Err refusal) = unchanged_settled

  told_settled : (id : SessionId) (o : Option Record) → IsSettled w (told w id o).world
  told_settled id None = unchanged_settled
  told_settled id (Some r) = unchanged_settled

  -- each call
  pub call_settles : (call : Call) → changes_sessions call ≡ true → IsSettled w (step w call).world
  call_settles (calls.Submit id children rollback parts) e = absurd (cc)
  call_settles (calls.Ready id) e =
      move_settled step_of.Ready ready_early (λ o e. e) id (session_of w.sessions id) refl
  call_settles (calls.Abort id) e =
      move_settled step_of.Abort abort_early abort_available id (session_of w.sessions id) refl
  call_settles (calls.Success time id) e = success_settled (max w.clock time) id (session_of w.sessions id) refl
  call_settles calls.Revert e = revert_settled (list_any (λ r. is_some (moved r.state step_of.Revert)) w.sessions)
  call_settles (calls.Commit id) e = commit_settled id (committable w.sessions id) refl
  call_settles (calls.Put name key value) e = absurd (cc)
  call_settles (calls.Drop name key) e = absurd (cc)
  call_settles (calls.Get name key) e = got_settled (value_at w name key)
  call_settles (calls.StateOf id) e = told_settled id (find (has_id id) w.sessions)
  call_settles (calls.Watch time observer duration names) e = absurd (cc)
  call_settles (calls.Report time name why) e = report_settled (unknown_module w.image name) (max w.clock time) name why
