-- Calls keep a world whole. Callers want `goes_whole` and `step_goes`.
use Rattle.std.proofs.Common.{◌≡◌, ◌≢◌, ℕ, ◌<◌, ◌||◌, Bool, true, false, cond, List, [], ◌∷◌, ◌++◌, map}
use Rattle.std.proofs.Common.{filter, max, Option, Some, None, Result, Ok, Err, sym, ap, subst, ◌∙◌, refl, inl, inr}
use Rattle.std.proofs.Common.{is_some, eqb, leb, find, arith, if◌then◌else◌}
use Rattle.std.specs.List.{list_any}
use Rattle.std.specs.FinMap as fin
use Rattle.std.specs.Option.{option_map}
use Rattle.std.proofs.lemmas.Bool.{and_parts, cases_eq, false≢true, eq-eqb, leb-true, or_left}
use Rattle.apex_base.specs.declared.numbers.SessionId.{SessionId}
use Rattle.apex_base.specs.declared.records.Part.{Part}
use Rattle.apex_base.specs.declared.records.Pick.{Pick}
use Rattle.apex_base.specs.declared.records.Reason.{Reason}
use Rattle.apex_base.specs.declared.records.Reason.TheVariants as reason
use Rattle.apex_base.specs.declared.records.Record.{Record}
use Rattle.apex_base.specs.declared.records.RollbackState.{RollbackState}
use Rattle.apex_base.specs.declared.records.RollbackState.TheVariants as rollbacks
use Rattle.apex_base.specs.declared.records.State.{State}
use Rattle.apex_base.specs.declared.records.State.TheVariants as state
use Rattle.apex_base.specs.declared.records.Target.{Target}
use Rattle.apex_base.specs.declared.records.Target.TheVariants as targets
use Rattle.apex_base.specs.declared.moves.Move.TheVariants as step_of
use Rattle.apex_base.specs.declared.refusal.Refusal.{Refusal}
use Rattle.apex_base.specs.declared.refusal.Refusal.TheVariants.{NoRollback, IdRange, IdTaken, NothingToRevert}
use Rattle.apex_base.specs.Commit.{rollback_id, committed, rolls_back, with_rollback_only, not_available, first_in_use, is_caller_id}
use Rattle.apex_base.specs.Held.{is_standing, is_undoable, is_success, is_available, candidate, held}
use Rattle.apex_base.specs.Members.{In}
use Rattle.apex_base.specs.Modules.{FileMap}
use Rattle.apex_base.specs.Moves.{moved}
use Rattle.apex_base.specs.Results.{◌>>=◌}
use Rattle.apex_base.specs.Rollbacks.{is_enabling, is_committed, no_longer}
use Rattle.apex_base.specs.Sessions.{session_of, with_session, shares, has_id}
use Rattle.apex_base.specs.Tables.{without_value}
use Rattle.apex_base.specs.Windows.{is_failing}
use Rattle.apex_base.proofs.MemberLemmas.{in_map_back, in_any}
use Rattle.apex_base.proofs.SessionLemmas.{with_any, of_found, of_with, of_other, of_map}
use Rattle.apex_world.specs.declared.calls.Call.{Call}
use Rattle.apex_world.specs.declared.calls.Call.TheVariants as calls
use Rattle.apex_world.specs.declared.calls.Image.{Image}
use Rattle.apex_world.specs.declared.calls.Reply.TheVariants as reply
use Rattle.apex_world.specs.declared.modules.Package.{Package}
use Rattle.apex_world.specs.Advance.{rollback_after, move_to, move_found, succeeding, outdated_by}
use Rattle.apex_world.specs.Advance.{after_success, success_to, success_found, in_state, reverting}
use Rattle.apex_world.specs.Advance.{told}
use Rattle.apex_world.specs.Data.{unknown_module, data_full, with_entry, value_at}
use Rattle.apex_world.specs.Report.{committable, failures_of, rollbacks_for}
use Rattle.apex_world.specs.Report.{at_once, counted, reported}
use Rattle.apex_world.specs.Step.{step}
use Rattle.apex_world.specs.Stepped.{replied, answered, refused, done}
use Rattle.apex_world.specs.Submit.{pass, id_range, id_taken, is_taken, wrong_count, packages_from}
use Rattle.apex_world.specs.Submit.{twice_named, first_of, not_preinstalled, key_differs, overlap, downgrade, admitted}
use Rattle.apex_world.specs.Submit.{entered, new_session, image_print, within_scale, sessions_full, store_full}
use Rattle.apex_world.specs.Submit.{preinstalled_version}
use Rattle.apex_world.specs.Trigger.{triggered}
use Rattle.apex_world.specs.Watching.{no_observer, first_unknown, watched, is_watching}
use Rattle.world_laws.specs.Wholeness.{IsActiveFrom, IsOnData, IsWhole}
use Rattle.apex_world.specs.World.{World}
use Rattle.world_facts.proofs.facts.KeptLemmas.{undoable_stands}
use Rattle.world_laws.proofs.meaning.HeldLemmas.{stands_for, held_beside, held_again, held_map}
use Rattle.world_laws.proofs.meaning.Lasting.{lasts, Lasts, commit_lasts}
use Rattle.world_laws.proofs.meaning.RollbackIds.{Undone, Carries, AreAvailable, undone_map, undone_with, undone_new}
use Rattle.world_laws.proofs.meaning.RollbackIds.{undone_commit, trigger_undone, available_last, eligible_available}
use Rattle.world_laws.proofs.meaning.RollbackIds.{named_available, clear_available, available_small}
use Rattle.world_facts.proofs.facts.StateFacts.{success_from}

-- How sessions go on

pub record Goes (ss after : List Record) : Type 0 where
  -- what can be undone could be undone
  pub back : (s : Record) → In s after → is_undoable s.state ≡ true
      → (r : Record) × In r ss × (is_undoable r.state ≡ true) × (s.parts ≡ r.parts)
  -- what stands goes on to stand
  pub forth : (id : SessionId) (r : Record) → session_of ss id ≡ Some r → is_standing r.state ≡ true
      → (s : Record) × (session_of after id ≡ Some s) × (is_standing s.state ≡ true)
  pub held : (name : List ℕ) → held after name ≡ held ss name
  pub undone : Undone after

goes_same : (ss : List Record) → Undone ss → Goes ss ss
goes_same ss u = record {
  back = λ s h e. (s, h, e, refl);
  forth = λ id r found e.
      (r, found, e);
  held = λ name. refl;
  undone = u;
}

pub goes_on : (ss ts us : List Record) → Goes ss ts → Goes ts us → Goes ss us
goes_on ss ts us a b = record {
  back = λ u h e. let (t, i, f, p) = b.back u h e in let (s, j, g, q) = a.back t i f in (s, j, g, p ∙ q);
  forth = λ id r found e. let (t, i, f) = a.forth id r found e in b.forth id t i f;
  held = λ name. b.held name ∙ a.held name;
  undone = b.undone;
}

standing_lasts : (s : State) → is_standing s ≡ true → lasts s ≡ true
standing_lasts state.Verified e = absurd (cc)
standing_lasts state.Staged e = absurd (cc)
standing_lasts state.Activated e = refl
standing_lasts state.ActivationFailed e = absurd (cc)
standing_lasts state.Success e = refl
standing_lasts state.RevertInProgress e = refl
standing_lasts state.Reverted e = absurd (cc)
standing_lasts state.Aborted e = absurd (cc)

pub lasts_goes : (ss after : List Record) → Lasts ss after → Undone after → Goes ss after
lasts_goes ss after l u = record {
  back = λ s h e. let (r, i, is) = l.back s h (standing_lasts s.state (undoable_stands s.state e)) in
      (r, i, ap is_undoable (sym is.state) ∙ e, is.parts);
  forth = λ id r found e. let (s, there, is) = l.forth r id found (standing_lasts r.state e) in
      (s, there, ap is_standing is.state ∙ e);
  held = l.held;
  undone = u;
}

-- what one session may become
pub record Passes (r s : Record) : Type 0 where
  pub id : s.id ≡ r.id
  pub parts : s.parts ≡ r.parts
  pub undoable : is_undoable s.state ≡ true → is_undoable r.state ≡ true
  pub standing : is_standing r.state ≡ true → is_standing s.state ≡ true
  pub stands : (name : List ℕ) → stands_for name s ≡ stands_for name r
  pub some : is_some s.rollback ≡ true → is_some r.rollback ≡ true
  pub committed : is_committed r.rollback ≡ true → is_committed s.rollback ≡ true

passes_carries : (r s : Record) → Passes r s → Carries r s
passes_carries r s p = record { id = ap (λ (id : SessionId). id.0) p.id; some = p.some; committed = p.committed }

goes_map : (f : Record → Record) (ss : List Record) → ((r : Record) → Passes r (f r)) → Undone ss → Goes ss (map f ss)
goes_map f ss passes u = record {
  back = λ s h e. let (r, i, g) = in_map_back f s ss h in (
    r,
    i,
    (passes r).undoable (ap (λ (r : Record). is_undoable r.state) g ∙ e),
    ap (λ (r : Record). r.parts) (sym g)
        ∙ (passes r).parts,
  );
  forth = λ id r found e. (f r, of_map f ss id (λ r. (passes r).id) ∙ ap (option_map f) found, (passes r).standing e);
  held = λ name. held_map name f ss (λ r h. (passes r).stands name);
  undone = undone_map f ss (λ r. passes_carries r (f r) (passes r)) u;
}

abbrev id_of : ℕ → SessionId
id_of n = record { 0 = n }

same_id : (s t : SessionId) → s.0 ≡ t.0 → s ≡ t
same_id s t e = ap (λ (n : ℕ). id_of n) e

module _ (s r : Record) (ss : List Record) (found : session_of ss s.id ≡ Some r) (p : Passes r s) (u : Undone ss) where
  forth_if : (id : SessionId) (q : Record) → session_of ss id ≡ Some q → is_standing q.state ≡ true
      → (t : Record) × (session_of (with_session s ss) id ≡ Some t) × (is_standing t.state ≡ true)
  forth_if id q there e =
      elim (cases_eq s.id.0 id.0) [
        | inl f ↦
            let one : ◌≡◌ {A = Option Record} (Some r) (Some q) = sym found ∙ ap (session_of ss) (same_id s.id id f)
            ∙ there in
            let same : r ≡ q = cc in
            (s, of_with s ss id f, p.standing (ap (λ (r : Record). is_standing r.state) same ∙ e))
        | inr d ↦ (q, of_other s ss id d ∙ there, e)
      ]

  goes_again : Goes ss (with_session s ss)
  goes_again = record {
    back = λ t h e. elim (with_any s ss t h) [
      | inl f ↦ (
        r,
        (of_found ss s.id r found).0,
        p.undoable (ap (λ (r : Record). is_undoable r.state) (sym f) ∙ e),
        ap
            (λ (r : Record). r.parts) f ∙ p.parts,
      )
      | inr i ↦ (t, i, e, refl)
    ];
    forth = forth_if;
    held = λ name. held_again name s r ss found (p.stands name);
    undone = undone_with s r ss (of_found ss s.id r found).0 (passes_carries r s p) u;
  }

-- a new session that doesn't stand
goes_new : (s : Record) (ss : List Record) → is_standing s.state ≡ false → s.id.0 < 1073741824
    → ((r : Record) → In r ss → r.id.0 ≢ s.id.0) → Undone ss → Goes ss (with_session s ss)
goes_new s ss quiet low free u = record {
  back = λ t h e. elim (with_any s ss t h) [
    | inl f ↦ absurd (false≢true (sym quiet ∙ ap (λ (r : Record). is_standing r.state) (sym f) ∙ undoable_stands t.state e))
    | inr i ↦ (t, i, e, refl)
  ];
  forth = λ id r found e. let (i, same) = of_found ss id r found in
      (r, of_other s ss id (λ f. free r i (same ∙ sym f)) ∙ found, e);
  held = λ name. held_beside name s ss (ap (λ (b : Bool). candidate b name s) quiet) (λ r h e. absurd (free r h e));
  undone = undone_new s ss low free u;
}

-- How worlds go on

pub record GoesOn (w after : World) : Type 0 where
  pub active : after.active ≡ w.active
  pub image : after.image ≡ w.image
  pub sessions : Goes w.sessions after.sessions

module _ (w v : World) (g : GoesOn w v) where
  in_now : (p : Pick) → In p w.active → In p v.active
  in_now p h = subst (λ (ps : List Pick). In p ps) (sym g.active) h

  in_then : (p : Pick) → In p v.active → In p w.active
  in_then p h = subst (λ (ps : List Pick). In p ps) g.active h

  active_on : (t : Target) (name : List ℕ) → IsActiveFrom w name t → IsActiveFrom v name t
  active_on targets.Preinstalled name (version, e, h) =
      (version, ap (λ (i : Option Image). preinstalled_version i name) g.image ∙ e, in_now _ h)
  active_on (targets.Module s part version) name (h, e) = (in_now _ h, g.sessions.held name ∙ e)

  data_on : (name : List ℕ) (version : ℕ) → IsOnData w name version → IsOnData v name version
  data_on name version d =
      let (r, there, st) = g.sessions.forth d.session d.submitter d.found d.stands in
      record {
        session = d.session;
        part = d.part;
        submitter = r;
        holds = g.sessions.held name
            ∙ d.holds;
        found = there;
        stands = st;
      }

  -- a world stays whole
  pub goes_whole : IsWhole w → IsWhole v
  goes_whole whole = record {
    parts = λ r p h e i. let (q, j, f, same) = g.sessions.back r h e in active_on p.target p.name
        (whole.parts q p j f (subst (λ (ps : List Part). In p ps) same i));
    modules = λ name version h. data_on name version (whole.modules name version (in_then _ h));
  }

stays : (w : World) → Undone w.sessions → GoesOn w w
stays w u = record { active = refl; image = refl; sessions = goes_same w.sessions u }

-- a world whose sessions, image and active set are those of another
still : (w v : World) → v.active ≡ w.active → v.image ≡ w.image → v.sessions ≡ w.sessions → Undone w.sessions
    → GoesOn w v
still w v a i e u = record {
  active = a;
  image = i;
  sessions = subst (λ (ss : List Record). Goes w.sessions ss)
      (sym e) (goes_same w.sessions u);
}

-- Ready and abort

less_after : (o : Option RollbackState) → (is_some (rollback_after step_of.Abort o) ≡ true → is_some o ≡ true)
    × (is_committed o ≡ true → is_committed (rollback_after step_of.Abort o) ≡ true)
less_after None = (λ e. e, λ e. e)
less_after (Some rollbacks.Enabling) = (λ e. refl, λ e. absurd (cc))
less_after (Some rollbacks.Available) = (λ e. e, λ e. e)
less_after (Some rollbacks.Committed) = (λ e. e, λ e. e)
less_after (Some rollbacks.Deleted) = (λ e. e, λ e. e)

-- the states that a move which isn't a success leads between
abbrev Quiet : State → State → Type 0
Quiet s t = (is_standing s ≡ false) × (is_standing t ≡ false)

ready_quiet : (s t : State) → moved s step_of.Ready ≡ Some t → Quiet s t
ready_quiet state.Verified t e = let f : state.Staged ≡ t = cc in (refl, ap is_standing (sym f))
ready_quiet state.Staged t e = let f : state.Staged ≡ t = cc in (refl, ap is_standing (sym f))
ready_quiet state.Activated t e = absurd (cc)
ready_quiet state.ActivationFailed t e = absurd (cc)
ready_quiet state.Success t e = absurd (cc)
ready_quiet state.RevertInProgress t e = absurd (cc)
ready_quiet state.Reverted t e = absurd (cc)
ready_quiet state.Aborted t e = absurd (cc)

abort_quiet : (s t : State) → moved s step_of.Abort ≡ Some t → Quiet s t
abort_quiet state.Verified t e = let f : state.Aborted ≡ t = cc in (refl, ap is_standing (sym f))
abort_quiet state.Staged t e = let f : state.Aborted ≡ t = cc in (refl, ap is_standing (sym f))
abort_quiet state.Activated t e = absurd (cc)
abort_quiet state.ActivationFailed t e = absurd (cc)
abort_quiet state.Success t e = absurd (cc)
abort_quiet state.RevertInProgress t e = absurd (cc)
abort_quiet state.Reverted t e = absurd (cc)
abort_quiet state.Aborted t e = absurd (cc)

quiet_passes : (r : Record) (t : State) (o : Option RollbackState) → Quiet r.state t
    → (is_some o ≡ true → is_some r.rollback ≡ true) → (is_committed r.rollback ≡ true → is_committed o ≡ true)
    → Passes r (record r { state = t; rollback = o })
quiet_passes r t o q some committed = record {
  id = refl;
  parts = refl;
  undoable = λ e. absurd (false≢true (sym q.1 ∙ undoable_stands _ e));
  standing = λ e. absurd (false≢true (sym q.0 ∙ e));
  stands = λ name. ap (λ (b : Bool). candidate b name r) (q.1 ∙ sym q.0);
  some = some;
  committed = committed;
}

module _ (w : World) (u : Undone w.sessions) where
  moves_on : (clock : ℕ) (id : SessionId) (r : Record) → session_of w.sessions id ≡ Some r → (s : Record)
      → s.id ≡ r.id → Passes r s → GoesOn w (record w { sessions = with_session s w.sessions; clock = clock })
  moves_on clock id r found s e p =
      let same : id ≡ s.id = same_id id s.id (sym (of_found w.sessions id r found).1
      ∙ ap (λ (id : SessionId). id.0) (sym e)) in
      record {
        active = refl;
        image = refl;
        sessions = goes_again s r w.sessions
            (ap (session_of w.sessions) (sym same) ∙ found) p u;
      }

  ready_if : (clock : ℕ) (id : SessionId) (r : Record) → session_of w.sessions id ≡ Some r → (o : Option State)
      → moved r.state step_of.Ready ≡ o → GoesOn w (move_to w clock r step_of.Ready o).world
  ready_if clock id r found None e = stays w u
  ready_if clock id r found (Some t) e = moves_on clock id r found
      (record r { state = t; rollback = r.rollback }) refl
      (quiet_passes r t r.rollback (ready_quiet r.state t e) (λ e. e) (λ e. e))

  abort_if : (clock : ℕ) (id : SessionId) (r : Record) → session_of w.sessions id ≡ Some r → (o : Option State)
      → moved r.state step_of.Abort ≡ o → GoesOn w (move_to w clock r step_of.Abort o).world
  abort_if clock id r found None e = stays w u
  abort_if clock id r found (Some t) e = let less = less_after r.rollback in
      moves_on clock id r found (record r { state = t; rollback = rollback_after step_of.Abort r.rollback }) refl
      (quiet_passes r t (rollback_after step_of.Abort r.rollback) (abort_quiet r.state t e) less.0 less.1)

  ready_found : (id : SessionId) (o : Option Record) → session_of w.sessions id ≡ o
      → GoesOn w (move_found w w.clock id step_of.Ready o).world
  ready_found id None e = stays w u
  ready_found id (Some r) e = ready_if w.clock id r e (moved r.state step_of.Ready) refl

  abort_found : (id : SessionId) (o : Option Record) → session_of w.sessions id ≡ o
      → GoesOn w (move_found w w.clock id step_of.Abort o).world
  abort_found id None e = stays w u
  abort_found id (Some r) e = abort_if w.clock id r e (moved r.state step_of.Abort) refl

-- Success

-- what a success leaves of another session's rollback
pub record IsOutdated (r s : Record) : Type 0 where
  pub id : s.id ≡ r.id
  pub parts : s.parts ≡ r.parts
  pub state : s.state ≡ r.state
  pub stands : (name : List ℕ) → stands_for name s ≡ stands_for name r
  pub some : is_some s.rollback ≡ is_some r.rollback
  pub committed : is_committed s.rollback ≡ is_committed r.rollback

no_longer_marks : (o : Option RollbackState) → (is_some (no_longer o) ≡ is_some o)
    × (is_committed (no_longer o) ≡ is_committed o)
no_longer_marks None = (refl, refl)
no_longer_marks (Some rollbacks.Enabling) = (refl, refl)
no_longer_marks (Some rollbacks.Available) = (refl, refl)
no_longer_marks (Some rollbacks.Committed) = (refl, refl)
no_longer_marks (Some rollbacks.Deleted) = (refl, refl)

outdated_if : (b : Bool) (r : Record) → IsOutdated r (cond b (record r { rollback = no_longer r.rollback }) r)
outdated_if true r = record {
  id = refl;
  parts = refl;
  state = refl;
  stands = λ name. refl;
  some =
      (no_longer_marks r.rollback).0;
  committed = (no_longer_marks r.rollback).1;
}
outdated_if false r = record {
  id = refl;
  parts = refl;
  state = refl;
  stands = λ name. refl;
  some = refl;
  committed =
      refl;
}

outdated : (x r : Record) → IsOutdated r (outdated_by x r)
outdated x r = outdated_if (shares r x) r

outdated_passes : (r s : Record) → IsOutdated r s → Passes r s
outdated_passes r s o = record {
  id = o.id;
  parts = o.parts;
  undoable = λ e. ap is_undoable (sym o.state) ∙ e;
  standing = λ e. ap is_standing o.state ∙ e;
  stands = o.stands;
  some = λ e. sym o.some ∙ e;
  committed = λ e. o.committed ∙ e;
}

passes_from : (r r' s : Record) → IsOutdated r r' → Passes r s → Passes r' s
passes_from r r' s o p = record {
  id = p.id ∙ sym o.id;
  parts = p.parts ∙ sym o.parts;
  undoable = λ e. ap is_undoable o.state ∙ p.undoable e;
  standing = λ e. p.standing (ap is_standing (sym o.state) ∙ e);
  stands = λ name. p.stands name ∙ sym (o.stands name);
  some = λ e. o.some ∙ p.some e;
  committed = λ e. p.committed (sym o.committed ∙ e);
}

enabling_is : (o : Option RollbackState) → is_enabling o ≡ true → (is_some o ≡ true) × (is_committed o ≡ false)
enabling_is None e = absurd (cc)
enabling_is (Some rollbacks.Enabling) e = (refl, refl)
enabling_is (Some rollbacks.Available) e = absurd (cc)
enabling_is (Some rollbacks.Committed) e = absurd (cc)
enabling_is (Some rollbacks.Deleted) e = absurd (cc)

succeeds_if : (clock : ℕ) (r : Record) (b : Bool) → r.state ≡ state.Activated → is_enabling r.rollback ≡ b
    → Passes r (cond b (record r { state = state.Success; rollback = Some rollbacks.Available; moment = clock })
    (record r { state = state.Success }))
succeeds_if clock r true e f = record {
  id = refl;
  parts = refl;
  undoable = λ g. ap is_undoable e;
  standing = λ g. refl;
  stands = λ name. ap (λ (b : Bool). candidate b name r) (sym (ap is_standing e));
  some = λ g. (enabling_is r.rollback f).0;
  committed = λ g. absurd (false≢true (sym (enabling_is r.rollback f).1 ∙ g));
}
succeeds_if clock r false e f = record {
  id = refl;
  parts = refl;
  undoable = λ g. ap is_undoable e;
  standing = λ g. refl;
  stands = λ name. ap (λ (b : Bool). candidate b name r) (sym (ap is_standing e));
  some = λ g. g;
  committed = λ g. g;
}

-- Revert

revert_from : (s t : State) → moved s step_of.Revert ≡ Some t → (s ≡ state.Activated) × (t ≡ state.RevertInProgress)
revert_from state.Verified t e = absurd (cc)
revert_from state.Staged t e = absurd (cc)
revert_from state.Activated t e = (refl, cc)
revert_from state.ActivationFailed t e = absurd (cc)
revert_from state.Success t e = absurd (cc)
revert_from state.RevertInProgress t e = absurd (cc)
revert_from state.Reverted t e = absurd (cc)
revert_from state.Aborted t e = absurd (cc)

reverts_if : (r : Record) (o : Option State) → moved r.state step_of.Revert ≡ o → Passes r (in_state o r)
reverts_if r None e = record {
  id = refl;
  parts = refl;
  undoable = λ f. f;
  standing = λ f. f;
  stands = λ name. refl;
  some = λ f. f;
  committed = λ f. f;
}
reverts_if r (Some t) e = let (was, is) = revert_from r.state t e in record {
  id = refl;
  parts = refl;
  undoable = λ f. ap is_undoable was;
  standing = λ f. ap is_standing is;
  stands = λ name. ap (λ (b : Bool). candidate b name r) (ap is_standing is ∙ sym (ap is_standing was));
  some = λ f. f;
  committed = λ f. f;
}

reverts : (r : Record) → Passes r (reverting r)
reverts r = reverts_if r (moved r.state step_of.Revert) refl

-- Refusals

passed : {X : Type 0} (a : Option Refusal) (k : Unit {0} → Result X Refusal) (x : X) → (pass a >>= k) ≡ Ok x
    → (a ≡ None) × (k tt ≡ Ok x)
passed None k x e = (refl, e)
passed (Some refusal) k x e = absurd (cc)

available_if : (id : SessionId) (o : Option RollbackState) → not_available id o ≡ None → is_available o ≡ true
available_if id None e = absurd (cc)
available_if id (Some rollbacks.Enabling) e = absurd (cc)
available_if id (Some rollbacks.Available) e = refl
available_if id (Some rollbacks.Committed) e = absurd (cc)
available_if id (Some rollbacks.Deleted) e = absurd (cc)

-- the session of a commit that isn't refused
abbrev judged : List Record → SessionId → Record → Result Record Refusal
judged ss id r = pass (not_available id r.rollback) >>= λ available. pass (first_in_use ss r.parts) >>= λ free. Ok r

judged_is : (ss : List Record) (id : SessionId) (r x : Record) → judged ss id r ≡ Ok x
    → (r ≡ x) × (is_available r.rollback ≡ true)
judged_is ss id r x e =
    let (none, rest) = passed (not_available id r.rollback)
    (λ available. pass (first_in_use ss r.parts) >>= λ free. Ok r) x e in
    let (free, last) = passed (first_in_use ss r.parts) (λ free. Ok r) x rest in
    let same : ◌≡◌ {A = Result Record Refusal} (Ok r) (Ok x) = last in
    (cc, available_if id r.rollback none)

kind_if : (ss : List Record) (id : SessionId) (r x : Record) (b : Bool)
    → (cond b (Ok r) (Err (NoRollback id)) >>= judged ss id) ≡ Ok x → (r ≡ x) × (is_available r.rollback ≡ true)
kind_if ss id r x true e = judged_is ss id r x e
kind_if ss id r x false e = absurd (cc)

committable_if : (ss : List Record) (id : SessionId) (x : Record) (o : Option Record)
    → (with_rollback_only id o >>= judged ss id) ≡ Ok x → (o ≡ Some x) × (is_available x.rollback ≡ true)
committable_if ss id x None e = absurd (cc)
committable_if ss id x (Some r) e =
    let (same, available) = kind_if ss id r x (rolls_back r.kind) e in
    (ap (λ (r : Record). Some r) same, ap (λ (r : Record). is_available r.rollback) (sym same) ∙ available)

-- Ids of a submit

caller_if : (b : Bool) (id : SessionId) (rest : Option Refusal) → cond b rest (Some (IdRange id)) ≡ None → b ≡ true
caller_if true id rest e = refl
caller_if false id rest e = absurd (cc)

taken_if : (b : Bool) (id : SessionId) (rest : Option Refusal) → cond b (Some (IdTaken id)) rest ≡ None → b ≡ false
taken_if true id rest e = absurd (cc)
taken_if false id rest e = refl

or_none : (a b : Bool) → (a || b) ≡ false → a ≡ false
or_none true b e = absurd (cc)
or_none false b e = refl

free_id : (ss : List Record) (id : SessionId) → is_taken ss id ≡ false → (r : Record) → In r ss → r.id.0 ≢ id.0
free_id ss id e r h f = absurd (false≢true (sym e
    ∙ in_any (has_id id) r ss h (or_left (eqb r.id.0 id.0) (list_any (λ c. eqb c.0 id.0) r.children)
    (eq-eqb r.id.0 id.0 f))))

abbrev names_known : World → List Package → Result (List Package) Refusal
names_known w ps = do
  once ← pass (twice_named [] ps)
  known ← pass (first_of (not_preinstalled w.image) ps)
  signed ← pass (first_of (key_differs w.image) ps)
  alone ← pass (first_of (overlap w.sessions) ps)
  newer ← pass (first_of (downgrade w.active w.image) ps)
  Ok ps

admitted_is : (w : World) (id : SessionId) (children : List SessionId) (parts : List FileMap) (ps : List Package)
    → admitted w id children parts ≡ Ok ps → (is_caller_id id ≡ true) × (is_taken w.sessions id ≡ false)
admitted_is w id children parts ps e =
    let (range, rest) = passed (id_range (id ∷ children))
    (λ in_range. pass (id_taken w.sessions [] (id ∷ children)) >>= λ free. pass
    (wrong_count children parts) >>= λ counted. packages_from 1 parts >>= names_known w) ps e in
    let (free, last) = passed (id_taken w.sessions [] (id ∷ children))
    (λ free. pass (wrong_count children parts) >>= λ counted. packages_from 1 parts >>= names_known w) ps rest in (
      caller_if (is_caller_id id) id (id_range children) range,
      or_none (is_taken w.sessions id) false
          (taken_if (is_taken w.sessions id || false) id (id_taken w.sessions (id ∷ []) children) free),
    )

-- The calls

module _ (w : World) (u : Undone w.sessions) where
  replied_two : (a b : Option Refusal) (v : World) → GoesOn w v
      → GoesOn w (replied w (pass a >>= λ x. pass b >>= λ y. Ok v)).world
  replied_two None None v g = g
  replied_two None (Some refusal) v g = stays w u
  replied_two (Some refusal) b v g = stays w u

  submit_if : (id : SessionId) (children : List SessionId) (rollback : Bool) (parts : List FileMap)
      (o : Result (List Package) Refusal) → admitted w id children parts ≡ o
      → GoesOn w (replied w (o >>= λ packages. within_scale (entered w id children rollback packages))).world
  submit_if id children rollback parts (Err refusal) e = stays w u
  submit_if id children rollback parts (Ok ps) e =
      let (range, free) = admitted_is w id children parts ps e in
      let low = leb-true id.0 1073741823 (and_parts (leb 1 id.0) (leb id.0 1073741823) range).1 in
      let v = entered w id children rollback ps in
      replied_two (sessions_full v) (store_full v) v (record {
        active = refl;
        image = refl;
        sessions = goes_new (new_session id children rollback ps (image_print w.image)) w.sessions refl
            (omega (arith, low)) (free_id w.sessions id free) u;
      })

  success_if : (clock : ℕ) (id : SessionId) (r : Record) → session_of w.sessions id ≡ Some r → (o : Option State)
      → moved r.state step_of.Success ≡ o → (b : Bool) → is_success r.state ≡ b
      → GoesOn w (success_to w clock r o).world
  success_if clock id r found None e b f = stays w u
  success_if clock id r found (Some t) e true f = still w (success_to w clock r (Some t)).world refl refl
      (ap (λ (b : Bool). if b then w.sessions else after_success clock r w.sessions) f) u
  success_if clock id r found (Some t) e false f =
      let m = map (outdated_by r) w.sessions in
      let s = succeeding clock r in
      let p = succeeds_if clock r (is_enabling r.rollback) (success_from r.state t e f) refl in
      let others = goes_map (outdated_by r) w.sessions (λ x. outdated_passes x (outdated_by r x) (outdated r x)) u in
      let same : s.id ≡ id = p.id ∙ same_id r.id id (of_found w.sessions id r found).1 in
      let there : session_of m s.id ≡ Some (outdated_by r r) = ap (session_of m) same
      ∙ of_map (outdated_by r) w.sessions id (λ x. (outdated r x).id) ∙ ap (option_map (outdated_by r)) found in
      let goes = goes_on w.sessions m (with_session s m) others
      (goes_again s (outdated_by r r) m there (passes_from r (outdated_by r r) s (outdated r r) p) others.undone) in
      record {
        active = refl;
        image = refl;
        sessions = subst (λ (ss : List Record). Goes w.sessions ss)
            (ap (λ (b : Bool). if b then w.sessions else after_success clock r w.sessions) (sym f)) goes;
      }

  success_goes : (clock : ℕ) (id : SessionId) (o : Option Record) → session_of w.sessions id ≡ o
      → GoesOn w (success_found w clock id o).world
  success_goes clock id None e = stays w u
  success_goes clock id (Some r) e = success_if clock id r e (moved r.state step_of.Success) refl
      (is_success r.state) refl

  revert_if : (b : Bool) → GoesOn w (if b then done
      (record w { sessions = map reverting w.sessions }) else refused w NothingToRevert).world
  revert_if true = record { active = refl; image = refl; sessions = goes_map reverting w.sessions reverts u }
  revert_if false = stays w u

  commit_if : (id : SessionId) (o : Result Record Refusal) → committable w.sessions id ≡ o
      → GoesOn w (answered w (o >>= λ x. Ok (record {
        world = record w {
          sessions = committed w.sessions x
              (image_print w.image);
        };
        reply = reply.Committed (rollback_id x.id);
      }))).world
  commit_if id (Err refusal) e = stays w u
  commit_if id (Ok x) e =
      let (found, available) = committable_if w.sessions id x (session_of w.sessions id) e in
      let (h, same) = of_found w.sessions id x found in
      record {
        active = refl;
        image = refl;
        sessions = lasts_goes w.sessions (committed w.sessions x (image_print w.image))
            (commit_lasts w.sessions x (image_print w.image) (clear_available w.sessions x u h available))
            (undone_commit w.sessions x (image_print w.image) u (available_small w.sessions x u h available) (x, h, refl));
      }

  drop_if : (name key : List ℕ) (o : Result (List ℕ) Refusal)
      → GoesOn w (replied w (o >>= λ value. Ok (record w { contents = without_value w.contents name key }))).world
  drop_if name key (Ok value) = still w _ refl refl refl u
  drop_if name key (Err refusal) = stays w u

  get_if : (o : Result (List ℕ) Refusal) → GoesOn w
      (answered w (o >>= λ value. Ok (record { world = w; reply = reply.Value value }))).world
  get_if (Ok value) = stays w u
  get_if (Err refusal) = stays w u

  told_goes : (id : SessionId) (o : Option Record) → GoesOn w (told w id o).world
  told_goes id None = stays w u
  told_goes id (Some r) = stays w u

  -- Reports

  asked_available : (why : Reason) (name : List ℕ) → AreAvailable w.sessions (rollbacks_for why name w.sessions)
  asked_available reason.Unknown name = named_available name w.sessions
  asked_available reason.NativeCrash name = eligible_available w.sessions
  asked_available reason.HealthCheck name = named_available name w.sessions
  asked_available reason.AppCrash name = named_available name w.sessions
  asked_available reason.AppNotResponding name = named_available name w.sessions

  at_once_goes : (clock : ℕ) (name : List ℕ) (why : Reason) → GoesOn w (at_once w clock name why).world
  at_once_goes clock name why =
      let xs = rollbacks_for why name w.sessions in
      let os = filter (is_watching w.watches clock name) w.observers in
      let t = triggered w.sessions (image_print w.image) xs os in
      record {
        active = refl;
        image = refl;
        sessions = lasts_goes w.sessions t.sessions (available_last w.sessions (image_print w.image) xs u
            (asked_available why name) os) (trigger_undone w.sessions (image_print w.image) xs u
            (asked_available why name) os);
      }

  counted_if : (clock : ℕ) (name : List ℕ) (why : Reason) (moments : List ℕ) (b : Bool)
      → GoesOn w (if b then at_once w clock name why else record
      { world = record w { failures = fin.insert w.failures name moments; clock = clock }; reply = reply.Noted }).world
  counted_if clock name why moments true = at_once_goes clock name why
  counted_if clock name why moments false = still w _ refl refl refl u

  counted_goes : (clock : ℕ) (name : List ℕ) (why : Reason) → GoesOn w (counted w clock name why).world
  counted_goes clock name why = let moments = failures_of w.failures name ++ clock ∷ [] in counted_if clock name why
      moments (is_failing clock moments)

  reported_goes : (clock : ℕ) (name : List ℕ) (why : Reason) → GoesOn w (reported w clock name why).world
  reported_goes clock name reason.Unknown = counted_goes clock name reason.Unknown
  reported_goes clock name reason.NativeCrash = at_once_goes clock name reason.NativeCrash
  reported_goes clock name reason.HealthCheck = at_once_goes clock name reason.HealthCheck
  reported_goes clock name reason.AppCrash = counted_goes clock name reason.AppCrash
  reported_goes clock name reason.AppNotResponding = counted_goes clock name reason.AppNotResponding

  report_if : (clock : ℕ) (name : List ℕ) (why : Reason) (a : Option Refusal)
      → GoesOn w (answered w (pass a >>= λ known. Ok (reported w clock name why))).world
  report_if clock name why None = reported_goes clock name why
  report_if clock name why (Some refusal) = stays w u

  -- each call
  pub step_goes : (call : Call) → GoesOn w (step w call).world
  step_goes (calls.Submit id children rollback parts) = submit_if id children rollback parts
      (admitted w id children parts) refl
  step_goes (calls.Ready id) = ready_found w u id (session_of w.sessions id) refl
  step_goes (calls.Abort id) = abort_found w u id (session_of w.sessions id) refl
  step_goes (calls.Success time id) = success_goes (max w.clock time) id (session_of w.sessions id) refl
  step_goes calls.Revert = revert_if (list_any (λ r. is_some (moved r.state step_of.Revert)) w.sessions)
  step_goes (calls.Commit id) = commit_if id (committable w.sessions id) refl
  step_goes (calls.Put name key value) = replied_two (unknown_module w.image name)
      (data_full (with_entry w name key value) name) (with_entry w name key value) (still w _ refl refl refl u)
  step_goes (calls.Drop name key) = drop_if name key (value_at w name key)
  step_goes (calls.Get name key) = get_if (value_at w name key)
  step_goes (calls.StateOf id) = told_goes id (find (has_id id) w.sessions)
  step_goes (calls.Watch time observer duration names) =
      replied_two (no_observer w.observers observer) (first_unknown w.image names)
      (watched w (max w.clock time) observer duration names) (still w _ refl refl refl u)
  step_goes (calls.Report time name why) = report_if (max w.clock time) name why (unknown_module w.image name)
