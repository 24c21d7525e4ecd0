-- What each call leaves of sessions: `call_follows`. What a refused one leaves: `refused_same`.
use Rattle.std.proofs.Common.{◌≡◌, ℕ, Bool, true, false, cond, ◌&&◌, ◌++◌, max, List, [], ◌∷◌, map, filter, is_some, Option, Some, None, Result, Ok, Err, sym, ap, subst, ◌∙◌, refl, inl, inr, if◌then◌else◌, find, not, IfOk}
use Rattle.std.specs.List.{list_any}
use Rattle.std.specs.FinMap as fin
use Rattle.std.proofs.lemmas.Bool.{and_parts, cases_eq}
use Rattle.apex_base.specs.declared.numbers.SessionId.{SessionId}
use Rattle.apex_base.specs.declared.records.Reason.{Reason}
use Rattle.apex_base.specs.declared.records.Reason.TheVariants as reason
use Rattle.apex_base.specs.declared.records.Record.{Record}
use Rattle.apex_base.specs.declared.records.RollbackState.{RollbackState}
use Rattle.apex_base.specs.declared.records.RollbackState.TheVariants as rollbacks
use Rattle.apex_base.specs.declared.records.State.{State}
use Rattle.apex_base.specs.declared.records.State.TheVariants as state
use Rattle.apex_base.specs.declared.moves.Move.{Move}
use Rattle.apex_base.specs.declared.moves.Move.TheVariants as step_of
use Rattle.apex_base.specs.declared.refusal.Refusal.{Refusal}
use Rattle.apex_base.specs.Commit.{rolls_back, with_rollback_only, not_available, first_in_use, committed, rollback_id}
use Rattle.apex_base.specs.Held.{is_available, is_success}
use Rattle.apex_base.specs.Members.{In}
use Rattle.apex_base.specs.Modules.{FileMap}
use Rattle.apex_base.specs.Moves.{moved}
use Rattle.apex_base.specs.Results.{◌>>=◌}
use Rattle.apex_base.specs.Rollbacks.{is_enabling, is_in_use, is_eligible, no_longer}
use Rattle.apex_base.specs.Sessions.{has_id, names, shares, session_of, Ascend}
use Rattle.apex_base.proofs.MemberLemmas.{in_map, in_filter, in_map_back}
use Rattle.apex_base.proofs.SessionLemmas.{of_found, with_self, ascend_map, with_any, with_others, ascend_with}
use Rattle.apex_world.specs.declared.calls.Call.{Call}
use Rattle.apex_world.specs.declared.calls.Call.TheVariants as calls
use Rattle.apex_world.specs.declared.calls.Observer.{Observer}
use Rattle.apex_world.specs.declared.calls.ObserverKind.{ObserverKind}
use Rattle.apex_world.specs.declared.calls.ObserverKind.TheVariants.{Fixed, Rollback}
use Rattle.apex_world.specs.declared.calls.Reply.TheVariants as reply
use Rattle.apex_world.specs.declared.modules.Package.{Package}
use Rattle.apex_world.specs.Advance.{rollback_after, move_to, move_found, move_session, succeeding, outdated_by, after_success, success_to, success_found, in_state, reverting, told}
use Rattle.apex_world.specs.Data.{with_entry, value_at, found, unknown_module, data_full}
use Rattle.world_facts.specs.Follows.{IsKeptAs, Becomes, Leads, Follows}
use Rattle.apex_world.specs.Lawful.{HaveIds, HaveRollbackSessions}
use Rattle.apex_world.specs.Report.{committable, at_once, counted, reported, report_trigger, rollbacks_for, failures_of}
use Rattle.apex_world.specs.Step.{submit, step}
use Rattle.apex_world.specs.Stepped.{replied, answered, done, refused}
use Rattle.apex_world.specs.Submit.{pass, admitted, within_scale, sessions_full, store_full, entered, new_session, image_print, id_range, id_taken}
use Rattle.apex_world.specs.Trigger.{eligible, eligible_for, acting_among, commits, commit_all, acted, triggered}
use Rattle.apex_world.specs.Watching.{watched, no_observer, first_unknown, is_watching}
use Rattle.apex_world.specs.World.{World}
use Rattle.world_laws.proofs.meaning.BootStays.{Waits, waits_becomes, waits_same}
use Rattle.world_laws.proofs.meaning.CommitStays.{commit_follows, all_follow, ascend_filter}
use Rattle.world_facts.proofs.facts.LeadsLemmas.{changed, same, leads_same, leads_one, leads_new, leads_map, leads_as}
use Rattle.world_facts.proofs.facts.NewIds.{AreNew, submit_new, rollback_new}
use Rattle.apex_base.specs.declared.refusal.Refusal.TheVariants.{NothingToRevert, NoRollback}
use Rattle.apex_base.specs.Windows.{is_failing}
use Rattle.apex_base.specs.Tables.{value_of, without_value}
use Rattle.world_facts.proofs.facts.OpenedSessions.{one_session}

pub stays : (r : Record) → Becomes r r
stays r = record { kept = same r; goes = inl refl }

abbrev kept_so : (r s : Record) → Becomes r s → IsKeptAs r s
kept_so r s b = b.kept

-- Ready and Abort

move_kept : (m : Move) (r : Record) (s : State) → moved r.state m ≡ Some s
    → Becomes r (record r { state = s; rollback = rollback_after m r.rollback })
move_kept m r s e = record {
  kept = changed r;
  goes = inr (m, e);
}

module _ (w : World) (a : Ascend w.sessions) where
  nothing : Follows w.sessions w.sessions
  nothing = leads_same Becomes stays w.sessions a

  move_if : (clock : ℕ) (r : Record) (m : Move) → In r w.sessions → (o : Option State) → moved r.state m ≡ o
      → Follows w.sessions (move_to w clock r m o).world.sessions
  move_if clock r m h None e = nothing
  move_if clock r m h (Some s) e =
      leads_one Becomes stays w.sessions r (record r {
        state = s;
        rollback =
            rollback_after m r.rollback;
      }) a h refl (move_kept m r s e) (λ t i f. one_session w.sessions t r a i h f)

  found_if : (clock : ℕ) (id : SessionId) (m : Move) (o : Option Record) → session_of w.sessions id ≡ o
      → Follows w.sessions (move_found w clock id m o).world.sessions
  found_if clock id m None e = nothing
  found_if clock id m (Some r) e = move_if clock r m (of_found w.sessions id r e).0 (moved r.state m) refl

  move_follows : (clock : ℕ) (id : SessionId) (m : Move) → Follows w.sessions (move_session w clock id m).world.sessions
  move_follows clock id m = found_if clock id m (session_of w.sessions id) refl

-- Success

outdated_if : (b : Bool) (r : Record) (o : Option RollbackState) → Becomes r (cond b (record r { rollback = o }) r)
outdated_if true r o = record {
  kept = changed r;
  goes = inl refl;
}
outdated_if false r o = stays r

outdated_becomes : (x r : Record) → Becomes r (outdated_by x r)
outdated_becomes x r = outdated_if (shares r x) r (no_longer r.rollback)

outdated_state_if : (b : Bool) (r : Record) (o : Option RollbackState)
    → (cond b (record r { rollback = o }) r).state ≡ r.state
outdated_state_if true r o = refl
outdated_state_if false r o = refl

succeeding_if : (b : Bool) (clock : ℕ) (r : Record) → moved r.state step_of.Success ≡ Some state.Success
    → Becomes r (cond b (record r {
      state = state.Success;
      rollback = Some rollbacks.Available;
      moment =
          clock;
    }) (record r { state = state.Success }))
succeeding_if true clock r e = record {
  kept = changed r;
  goes = inr (step_of.Success, e);
}
succeeding_if false clock r e = record {
  kept = changed r;
  goes = inr (step_of.Success, e);
}

to_success : (s t : State) → moved s step_of.Success ≡ Some t → moved s step_of.Success ≡ Some state.Success
to_success state.Verified t e = absurd (cc)
to_success state.Staged t e = absurd (cc)
to_success state.Activated t e = refl
to_success state.ActivationFailed t e = absurd (cc)
to_success state.Success t e = refl
to_success state.RevertInProgress t e = absurd (cc)
to_success state.Reverted t e = absurd (cc)
to_success state.Aborted t e = absurd (cc)

module _ (w : World) (a : Ascend w.sessions) (clock : ℕ) (r : Record) (h : In r w.sessions)
    (goes : moved r.state step_of.Success ≡ Some state.Success) where
  abbrev others : List Record
  others = map (outdated_by r) w.sessions

  -- each session by itself, and then the one that succeeds
  after_back : (s : Record) → In s (after_success clock r w.sessions) → (t : Record) × In t w.sessions × Becomes t s
  after_back s i =
      elim (with_any (succeeding clock r) others s i) [
        | inl e ↦ (r, h, subst (Becomes r) (sym e) (succeeding_if (is_enabling r.rollback) clock r goes))
        | inr j ↦ let (t, k, e) = in_map_back (outdated_by r) s w.sessions j in (
          t,
          k,
          subst (Becomes t) e (outdated_becomes r t),
        )
      ]

  succeeding_id : (succeeding clock r).id ≡ r.id
  succeeding_id = (succeeding_if (is_enabling r.rollback) clock r goes).kept.id

  after_forth : (t : Record) → In t w.sessions → (s : Record) × In s (after_success clock r w.sessions) × Becomes t s
  after_forth t i =
      elim (cases_eq t.id.0 r.id.0) [
        | inl e ↦ (
          succeeding clock r,
          with_self (succeeding clock r) others,
          subst (λ (t : Record). Becomes t (succeeding clock r)) (sym (one_session w.sessions t r a i h e))
              (succeeding_if (is_enabling r.rollback) clock r goes),
        )
        | inr d ↦ (
          outdated_by r t,
          with_others (succeeding clock r) others (outdated_by r t) (in_map (outdated_by r) t w.sessions i)
              (λ e. d (sym (ap (λ (x : SessionId). x.0) (outdated_becomes r t).kept.id) ∙ e
              ∙ ap (λ (x : SessionId). x.0) succeeding_id)),
          outdated_becomes r t,
        )
      ]

  after_follows : Follows w.sessions (after_success clock r w.sessions)
  after_follows = record {
    ascend = ascend_with (succeeding clock r) others (ascend_map (outdated_by r) w.sessions
        (λ t. (outdated_becomes r t).kept.id) a);
    forth = after_forth;
    back = λ s i. inl (after_back s i);
  }

module _ (w : World) (a : Ascend w.sessions) (clock : ℕ) where
  success_sessions : (b : Bool) (r : Record) → In r w.sessions → moved r.state step_of.Success ≡ Some state.Success
      → Follows w.sessions (cond b w.sessions (after_success clock r w.sessions))
  success_sessions true r h e = nothing w a
  success_sessions false r h e = after_follows w a clock r h e

  success_if : (r : Record) → In r w.sessions → (o : Option State) → moved r.state step_of.Success ≡ o
      → Follows w.sessions (success_to w clock r o).world.sessions
  success_if r h None e = nothing w a
  success_if r h (Some s) e = success_sessions (is_success r.state) r h (to_success r.state s e)

  success_found_if : (id : SessionId) (o : Option Record) → session_of w.sessions id ≡ o
      → Follows w.sessions (success_found w clock id o).world.sessions
  success_found_if id None e = nothing w a
  success_found_if id (Some r) e = success_if r (of_found w.sessions id r e).0 (moved r.state step_of.Success) refl

-- Revert

reverting_if : (r : Record) (o : Option State) → moved r.state step_of.Revert ≡ o → Becomes r (in_state o r)
reverting_if r None e = stays r
reverting_if r (Some s) e = record {
  kept = changed r;
  goes = inr (step_of.Revert, e);
}

reverting_becomes : (r : Record) → Becomes r (reverting r)
reverting_becomes r = reverting_if r (moved r.state step_of.Revert) refl

revert_if : (w : World) → Ascend w.sessions → (b : Bool)
    → Follows w.sessions (if b then done (record w {
      sessions =
          map reverting w.sessions;
    }) else refused w NothingToRevert).world.sessions
revert_if w a true = leads_map Becomes reverting w.sessions a (λ r. (reverting_becomes r).kept.id)
    (λ r h. reverting_becomes r)
revert_if w a false = nothing w a

told_same : (w : World) (id : SessionId) (o : Option Record) → (told w id o).world ≡ w
told_same w id None = refl
told_same w id (Some r) = refl

-- Submit

pass_ok : {X : Type 0} (o : Option Refusal) (next : Unit {0} → Result X Refusal) (x : X) → (pass o >>= next) ≡ Ok x
    → (o ≡ None) × (next tt ≡ Ok x)
pass_ok None next x e = (refl, e)
pass_ok (Some refusal) next x e = absurd (cc)

module _ (w : World) (a : Ascend w.sessions) (id : SessionId) (children : List SessionId) (rollback : Bool)
    (parts : List FileMap) where
  pub free : (ps : List Package) → admitted w id children parts ≡ Ok ps → id_taken w.sessions [] (id ∷ children) ≡ None
  free ps e =
      let ranged = pass_ok (id_range (id ∷ children)) _ ps e in
      (pass_ok (id_taken w.sessions [] (id ∷ children)) _ ps ranged.1).0

  entered_follows : (ps : List Package) → admitted w id children parts ≡ Ok ps
      → Follows w.sessions (entered w id children rollback ps).sessions
  entered_follows ps e = let s = new_session id children rollback ps (image_print w.image) in
      leads_new Becomes stays w.sessions s a (submit_new w.sessions s (free ps e))

  within : (v : World) → Follows w.sessions v.sessions → (o p : Option Refusal)
      → Follows w.sessions (replied w (pass o >>= λ few. pass p >>= λ light. Ok v)).world.sessions
  within v follows None None = follows
  within v follows None (Some refusal) = nothing w a
  within v follows (Some refusal) p = nothing w a

  submit_if : (o : Result (List Package) Refusal) → admitted w id children parts ≡ o
      → Follows w.sessions (replied w (o >>= λ packages. within_scale
      (entered w id children rollback packages))).world.sessions
  submit_if (Err refusal) e = nothing w a
  submit_if (Ok ps) e = let v = entered w id children rollback ps in
      within v (entered_follows ps e) (sessions_full v) (store_full v)

  submit_follows : Follows w.sessions (submit w id children rollback parts).world.sessions
  submit_follows = submit_if (admitted w id children parts) refl

-- Commit

rollback_only : (id : SessionId) (o : Option Record) (x : Record) → with_rollback_only id o ≡ Ok x → o ≡ Some x
rollback_only id None x e = absurd (cc)
rollback_only id (Some r) x e = only_if (rolls_back r.kind) id r x e
  where
    only_if : (b : Bool) (id : SessionId) (r x : Record)
        → cond {A = Result Record Refusal} b (Ok r) (Err (NoRollback id)) ≡ Ok x → Some r ≡ Some x
    only_if true id r x e = cc
    only_if false id r x e = absurd (cc)

available_of : (id : SessionId) (o : Option RollbackState) → not_available id o ≡ None → is_available o ≡ true
available_of id None e = absurd (cc)
available_of id (Some rollbacks.Enabling) e = absurd (cc)
available_of id (Some rollbacks.Available) e = refl
available_of id (Some rollbacks.Committed) e = absurd (cc)
available_of id (Some rollbacks.Deleted) e = absurd (cc)

chosen_if : (ss : List Record) (id : SessionId) (x : Record) (o : Result Record Refusal)
    → with_rollback_only id (session_of ss id) ≡ o
    → (o >>= λ r. pass (not_available id r.rollback) >>= λ available. pass (first_in_use ss r.parts) >>=
    λ free. Ok r) ≡ Ok x → In x ss × (is_available x.rollback ≡ true)
chosen_if ss id x (Err refusal) e f = absurd (cc)
chosen_if ss id x (Ok r) e f =
    let p = pass_ok (not_available id r.rollback) _ x f in
    let q = pass_ok (first_in_use ss r.parts) _ x p.1 in
    let is : r ≡ x = ok_is r x q.1 in
    subst (λ (x : Record). In x ss × (is_available x.rollback ≡ true)) is (
      (of_found ss id r (rollback_only id
          (session_of ss id) r e)).0,
      available_of id r.rollback p.0,
    )
  where
    ok_is : (r x : Record) → ◌≡◌ {A = Result Record Refusal} (Ok r) (Ok x) → r ≡ x
    ok_is r x e = cc

pub chosen : (ss : List Record) (id : SessionId) (x : Record) → committable ss id ≡ Ok x
    → In x ss × (is_available x.rollback ≡ true)
chosen ss id x e = chosen_if ss id x (with_rollback_only id (session_of ss id)) refl e

-- Triggers

-- the commits of sessions whose new ids nobody has had
module _ (ss : List Record) (ids : HaveIds ss) (xs : List Record) (b : Ascend xs) (among : (x : Record) → In x xs
    → In x ss) (fresh : (x : Record) → In x xs → AreNew ss x) (print : List ℕ) where
  commits_follow : (k : ObserverKind) → Leads Waits ss (commit_all print ss (commits xs k))
  commits_follow (Fixed level) = leads_same Waits waits_same ss ids.ascend
  commits_follow Rollback = all_follow ss ids xs ss print b among ids.ascend fresh

  acted_follows : (o : Option Observer) → Leads Waits ss (acted ss print xs o).sessions
  acted_follows None = leads_same Waits waits_same ss ids.ascend
  acted_follows (Some o) = commits_follow o.kind

  pub trigger_follows_new : (observers : List Observer) → Leads Waits ss (triggered ss print xs observers).sessions
  trigger_follows_new observers = acted_follows (acting_among xs observers)

module _ (ss : List Record) (ids : HaveIds ss) (undone : HaveRollbackSessions ss) where
  -- one commit
  commit_becomes : (x : Record) (print : List ℕ) → In x ss → is_available x.rollback ≡ true
      → Follows ss (committed ss x print)
  commit_becomes x print h e = leads_as Waits Becomes ss (committed ss x print) waits_becomes
      (commit_follows ss x print ids.ascend (rollback_new ss ids undone x h e))

  -- and those of available rollbacks
  trigger_follows : (xs : List Record) → Ascend xs → ((x : Record) → In x xs
      → In x ss × (is_available x.rollback ≡ true)) → (print : List ℕ) (observers : List Observer)
      → Leads Waits ss (triggered ss print xs observers).sessions
  trigger_follows xs b among print observers =
      trigger_follows_new ss ids xs b (λ x h. (among x h).0) (λ x h. let (i, e) = among x h in
      rollback_new ss ids undone x i e) print observers

eligible_available : (ss : List Record) (x : Record) → is_eligible ss x ≡ true → is_available x.rollback ≡ true
eligible_available ss x e = (and_parts (is_available x.rollback) (not (is_in_use ss x)) e).0

pub among_eligible : (ss : List Record) (x : Record) → In x (eligible ss) → In x ss × (is_available x.rollback ≡ true)
among_eligible ss x h = let (i, e) = in_filter (is_eligible ss) x ss h in (i, eligible_available ss x e)

among_named : (ss : List Record) (name : List ℕ) (x : Record) → In x (eligible_for name ss)
    → In x ss × (is_available x.rollback ≡ true)
among_named ss name x h = let (i, e) = in_filter (λ x. is_eligible ss x && names name x) x ss h in (
  i,
  eligible_available ss x (and_parts (is_eligible ss x) (names name x) e).0,
)

-- the rollbacks that a reason asks for
pub among_asked : (ss : List Record) (name : List ℕ) (why : Reason) (x : Record) → In x (rollbacks_for why name ss)
    → In x ss × (is_available x.rollback ≡ true)
among_asked ss name reason.Unknown x h = among_named ss name x h
among_asked ss name reason.NativeCrash x h = among_eligible ss x h
among_asked ss name reason.HealthCheck x h = among_named ss name x h
among_asked ss name reason.AppCrash x h = among_named ss name x h
among_asked ss name reason.AppNotResponding x h = among_named ss name x h

pub asked_ascend : (ss : List Record) (name : List ℕ) (why : Reason) → Ascend ss → Ascend (rollbacks_for why name ss)
asked_ascend ss name reason.Unknown a = ascend_filter (λ x. is_eligible ss x && names name x) ss a
asked_ascend ss name reason.NativeCrash a = ascend_filter (is_eligible ss) ss a
asked_ascend ss name reason.HealthCheck a = ascend_filter (λ x. is_eligible ss x && names name x) ss a
asked_ascend ss name reason.AppCrash a = ascend_filter (λ x. is_eligible ss x && names name x) ss a
asked_ascend ss name reason.AppNotResponding a = ascend_filter (λ x. is_eligible ss x && names name x) ss a

-- Calls

module _ (w : World) (ids : HaveIds w.sessions) (undone : HaveRollbackSessions w.sessions) where
  none : Follows w.sessions w.sessions
  none = nothing w ids.ascend

  commit_if : (id : SessionId) (o : Result Record Refusal) → committable w.sessions id ≡ o
      → Follows w.sessions (answered w (o >>= λ x. Ok (record {
        world = record w {
          sessions =
              committed w.sessions x (image_print w.image);
        };
        reply = reply.Committed (rollback_id x.id);
      }))).world.sessions
  commit_if id (Err refusal) e = none
  commit_if id (Ok x) e = let (h, f) = chosen w.sessions id x e in
      commit_becomes w.sessions ids undone x (image_print w.image) h f

  at_once_follows : (clock : ℕ) (name : List ℕ) (why : Reason)
      → Follows w.sessions (at_once w clock name why).world.sessions
  at_once_follows clock name why =
      let t = report_trigger w clock name why in
      leads_as Waits Becomes w.sessions t.sessions waits_becomes
      (trigger_follows w.sessions ids undone (rollbacks_for why name w.sessions)
      (asked_ascend w.sessions name why ids.ascend) (among_asked w.sessions name why) (image_print w.image)
      (filter (is_watching w.watches clock name) w.observers))

  counted_if : (b : Bool) (clock : ℕ) (name : List ℕ) (why : Reason) (moments : List ℕ)
      → Follows w.sessions (cond b (at_once w clock name why) (record {
        world = record w {
          failures =
              fin.insert w.failures name moments;
          clock = clock;
        };
        reply = reply.Noted;
      })).world.sessions
  counted_if true clock name why moments = at_once_follows clock name why
  counted_if false clock name why moments = none

  counted_follows : (clock : ℕ) (name : List ℕ) (why : Reason)
      → Follows w.sessions (counted w clock name why).world.sessions
  counted_follows clock name why = let moments = failures_of w.failures name ++ clock ∷ [] in
      counted_if (is_failing clock moments) clock name why moments

  reported_follows : (clock : ℕ) (name : List ℕ) (why : Reason)
      → Follows w.sessions (reported w clock name why).world.sessions
  reported_follows clock name reason.Unknown = counted_follows clock name reason.Unknown
  reported_follows clock name reason.NativeCrash = at_once_follows clock name reason.NativeCrash
  reported_follows clock name reason.HealthCheck = at_once_follows clock name reason.HealthCheck
  reported_follows clock name reason.AppCrash = counted_follows clock name reason.AppCrash
  reported_follows clock name reason.AppNotResponding = counted_follows clock name reason.AppNotResponding

  report_if : (o : Option Refusal) (clock : ℕ) (name : List ℕ) (why : Reason)
      → Follows w.sessions (answered w (pass o >>= λ known. Ok (reported w clock name why))).world.sessions
  report_if None clock name why = reported_follows clock name why
  report_if (Some refusal) clock name why = none

  -- calls on data and watches
  rest_if : (o : Result World Refusal) → IfOk o (λ v. v.sessions ≡ w.sessions)
      → Follows w.sessions (replied w o).world.sessions
  rest_if (Ok v) e = subst (Follows w.sessions) (sym e) none
  rest_if (Err refusal) e = none

  two_passes : (v : World) → v.sessions ≡ w.sessions → (o p : Option Refusal)
      → IfOk {E = Refusal} (pass o >>= λ x. pass p >>= λ y. Ok v) (λ v. v.sessions ≡ w.sessions)
  two_passes v e None None = e
  two_passes v e None (Some refusal) = tt
  two_passes v e (Some refusal) p = tt

  found_value : (v : World) → v.sessions ≡ w.sessions → (key : List ℕ) (o : Option Refusal) (p : Option (List ℕ))
      → IfOk {E = Refusal} ((pass o >>= λ known. found key p) >>= λ value. Ok v) (λ v. v.sessions ≡ w.sessions)
  found_value v e key None None = tt
  found_value v e key None (Some value) = e
  found_value v e key (Some refusal) p = tt

  got : (o : Result (List ℕ) Refusal) → (answered w (o >>= λ value. Ok (record {
    world = w;
    reply =
        reply.Value value;
  }))).world ≡ w
  got (Ok value) = refl
  got (Err refusal) = refl

  -- what each call leaves of sessions
  pub call_follows : (call : Call) → Follows w.sessions (step w call).world.sessions
  call_follows (calls.Submit id children rollback parts) = submit_follows w ids.ascend id children rollback parts
  call_follows (calls.Ready id) = move_follows w ids.ascend w.clock id step_of.Ready
  call_follows (calls.Abort id) = move_follows w ids.ascend w.clock id step_of.Abort
  call_follows (calls.Success time id) = success_found_if w ids.ascend (max w.clock time) id
      (session_of w.sessions id) refl
  call_follows calls.Revert = revert_if w ids.ascend (list_any (λ r. is_some (moved r.state step_of.Revert)) w.sessions)
  call_follows (calls.Commit id) = commit_if id (committable w.sessions id) refl
  call_follows (calls.Put name key value) =
      let v = with_entry w name key value in rest_if (pass (unknown_module w.image name) >>=
      λ x. pass (data_full v name) >>= λ y. Ok v) (two_passes v refl (unknown_module w.image name)
      (data_full v name))
  call_follows (calls.Drop name key) =
      let v = record w { contents = without_value w.contents name key } in
      rest_if (value_at w name key >>= λ value. Ok v) (found_value v refl key (unknown_module w.image name)
      (value_of w.contents name key))
  call_follows (calls.Get name key) = subst
      (λ (v : World). Follows w.sessions v.sessions) (sym (got (value_at w name key))) none
  call_follows (calls.StateOf id) = subst
      (λ (v : World). Follows w.sessions v.sessions) (sym (told_same w id (find (has_id id) w.sessions))) none
  call_follows (calls.Watch time observer duration names) =
      let v = watched w (max w.clock time) observer duration names in
      rest_if (pass (no_observer w.observers observer) >>= λ x. pass (first_unknown w.image names) >>=
      λ y. Ok v) (two_passes v refl (no_observer w.observers observer) (first_unknown w.image names))
  call_follows (calls.Report time name why) = report_if (unknown_module w.image name) (max w.clock time) name why
