-- Revert in worlds that are alike. Callers want `revert_alike`.
use Rattle.std.proofs.Common.{◌≡◌, ◌⊎◌, Bool, true, false, cond, eqb, ◌&&◌, List, map, Option, Some, None, sym, ap}
use Rattle.std.proofs.Common.{subst, ◌∙◌, refl, inl, inr}
use Rattle.std.specs.Prelude.{not, is_some}
use Rattle.std.specs.List.{list_any}
use Rattle.std.proofs.lemmas.Bool.{false≢true, and_parts, and_from, or_right}
use Rattle.apex_base.specs.declared.moves.Move.TheVariants as step_of
use Rattle.apex_base.specs.declared.numbers.SessionId.{SessionId}
use Rattle.apex_base.specs.declared.records.Record.{Record}
use Rattle.apex_base.specs.declared.records.RollbackState.{RollbackState}
use Rattle.apex_base.specs.declared.records.State.{State}
use Rattle.apex_base.specs.declared.records.State.TheVariants as state
use Rattle.apex_base.specs.Commit.{rollback_id, rolls_back, undoes}
use Rattle.apex_base.specs.Held.{is_unfinished, is_undoable, is_standing, is_success, is_available, is_staged}
use Rattle.apex_base.specs.Moves.{moved}
use Rattle.apex_base.specs.Sessions.{session_of}
use Rattle.apex_base.proofs.MemberLemmas.{in_map, in_map_back}
use Rattle.apex_base.proofs.SessionLemmas.{of_found, of_in}
use Rattle.apex_world.specs.Advance.{in_state, reverting, revert}
use Rattle.apex_world.specs.Lawful.{Lawful}
use Rattle.apex_world.specs.Rows.{is_staged_session, may_happen, has_snapshot}
use Rattle.apex_world.specs.Stepped.{Stepped, refused, done}
use Rattle.apex_base.specs.declared.refusal.Refusal.TheVariants.{NothingToRevert}
use Rattle.world_laws.specs.StoredAlike.{KeepsPast, AreAlikeInParts, AreSteppedAlike}
use Rattle.apex_world.specs.World.{World}
use Rattle.world_laws.proofs.alike.AlikeAfter.{IsLike, NothingNew, PastStays, no_past_new, alike_after}
use Rattle.world_laws.proofs.alike.AlikeLemmas.{other, beside, unchanged, refused_alike}
use Rattle.world_facts.proofs.facts.KeptLemmas.{ordered}
use Rattle.world_facts.proofs.facts.KeptLess.{Goes, Carries}
use Rattle.world_laws.proofs.alike.MovesAlike.{goes_self}
use Rattle.world_laws.proofs.alike.OrderedAfter.{IsUnder, under_self, ordered_map}
use Rattle.world_laws.proofs.alike.StagedSome.{staged_some}
use Rattle.world_facts.proofs.facts.WorldRows.{same_id}
use Rattle.world_laws.proofs.alike.MayHappen.{may_as_before}

-- What a revert leaves of a session

pub record IsSameBut (r s : Record) : Type 0 where
  pub id : s.id ≡ r.id
  pub kind : s.kind ≡ r.kind
  pub parts : s.parts ≡ r.parts
  pub activation : s.activation ≡ r.activation
  pub rollback : s.rollback ≡ r.rollback

in_state_same : (o : Option State) (r : Record) → IsSameBut r (in_state o r)
in_state_same None r = record { id = refl; kind = refl; parts = refl; activation = refl; rollback = refl }
in_state_same (Some s) r = record { id = refl; kind = refl; parts = refl; activation = refl; rollback = refl }

same_but : (r : Record) → IsSameBut r (reverting r)
same_but r = in_state_same (moved r.state step_of.Revert) r

-- a session stays, or it was activated and is to be reverted
revert_if : (r : Record) (s : State) → r.state ≡ s
    → (reverting r ≡ r) ⊎ ((r.state ≡ state.Activated) × (reverting r ≡ record r { state = state.RevertInProgress }))
revert_if r state.Verified e = inl (ap (λ (s : State). in_state (moved s step_of.Revert) r) e)
revert_if r state.Staged e = inl (ap (λ (s : State). in_state (moved s step_of.Revert) r) e)
revert_if r state.Activated e = inr (e, ap (λ (s : State). in_state (moved s step_of.Revert) r) e)
revert_if r state.ActivationFailed e = inl (ap (λ (s : State). in_state (moved s step_of.Revert) r) e)
revert_if r state.Success e = inl (ap (λ (s : State). in_state (moved s step_of.Revert) r) e)
revert_if r state.RevertInProgress e = inl (ap (λ (s : State). in_state (moved s step_of.Revert) r) e)
revert_if r state.Reverted e = inl (ap (λ (s : State). in_state (moved s step_of.Revert) r) e)
revert_if r state.Aborted e = inl (ap (λ (s : State). in_state (moved s step_of.Revert) r) e)

goes_reverting : (r : Record) → Goes r (reverting r)
goes_reverting r =
    elim (revert_if r r.state refl) [
      | inl e ↦ subst (Goes r) (sym e) (goes_self r)
      | inr (s, e) ↦ subst (Goes r) (sym e) (record {
        parts = refl;
        unfinished = λ u. ap is_unfinished s;
        stays = λ f. absurd (false≢true (sym (ap is_success s) ∙ f));
        came = λ u. inl (ap is_unfinished s);
        available = λ f. (or_right (is_undoable r.state) (is_available r.rollback) f, refl);
      })
    ]

pub under_reverting : (r : Record) → IsUnder r (reverting r)
under_reverting r =
    elim (revert_if r r.state refl) [
      | inl e ↦ subst (IsUnder r) (sym e) (under_self r)
      | inr (s, e) ↦ subst (IsUnder r) (sym e) (record {
        id = refl;
        parts = refl;
        activation = refl;
        stands = λ u. ap is_standing s;
        undoable = λ u. ap is_undoable s;
      })
    ]

undoable_back : (r : Record) → is_undoable (reverting r).state ≡ true → is_undoable r.state ≡ true
undoable_back r u =
    elim (revert_if r r.state refl) [
      | inl e ↦ ap (λ (s : Record). is_undoable s.state) (sym e) ∙ u
      | inr (s, e) ↦ ap is_undoable s
    ]

staged_back : (r : Record) → is_staged (reverting r).state ≡ true → is_staged r.state ≡ true
staged_back r u =
    elim (revert_if r r.state refl) [
      | inl e ↦ ap (λ (s : Record). is_staged s.state) (sym e) ∙ u
      | inr (s, e) ↦ absurd (false≢true (ap (λ (s : Record). is_staged s.state) (sym e) ∙ u))
    ]

module _ (w : World) (law : Lawful w) where
  abbrev after : List Record
  after = map reverting w.sessions

  pub carries_all : Carries w.sessions after
  carries_all = record {
    back = λ s i.
        let (r, j, e) = in_map_back reverting s w.sessions i in
        inl (r, j, subst (Goes r) e (goes_reverting r));
    forth = λ r i. (reverting r, in_map reverting r w.sessions i, goes_reverting r);
  }

  pub nothing_new : NothingNew w.sessions after
  nothing_new s p i fresh j =
      let (r, k, e) = in_map_back reverting s w.sessions i in
      absurd (fresh.unused r k (ap (λ (id : SessionId). id.0) (sym (same_but r).id) ∙ ap (λ (s : Record). s.id.0) e))

  staged_before : (id : SessionId) → is_staged_session (session_of after id) ≡ true
      → is_staged_session (session_of w.sessions id) ≡ true
  staged_before id e =
      let (z, f, s) = staged_some (session_of after id) e in
      let (i, zid) = of_found after id z f in
      let (q, j, is) = in_map_back reverting z w.sessions i in
      let qid : q.id.0 ≡ id.0 =
      ap (λ (id : SessionId). id.0) (sym (same_but q).id) ∙ ap (λ (z : Record). z.id.0) is ∙ zid in
      ap is_staged_session (ap (session_of w.sessions) (sym (same_id q.id id qid))
      ∙ of_in w.sessions q law.ids.ascend j)
      ∙ staged_back q (ap (λ (z : Record). is_staged z.state) is ∙ s)

  may_before : (id : SessionId) (o : Option RollbackState) → may_happen after id o ≡ true
      → may_happen w.sessions id o ≡ true
  may_before id o m = may_as_before w.sessions after id o (λ c. staged_before (rollback_id id)) m

  -- a session keeps what it kept
  snapshot_same : (r s : Record) → IsSameBut r s → has_snapshot after s ≡ has_snapshot after r
  snapshot_same r s b =
      ap (λ k. rolls_back k && not (eqb s.activation 0) && may_happen after s.id s.rollback) b.kind
      ∙ ap (λ n. rolls_back r.kind && not (eqb n 0) && may_happen after s.id s.rollback) b.activation
      ∙ ap (λ id. rolls_back r.kind && not (eqb r.activation 0) && may_happen after id s.rollback) b.id
      ∙ ap (λ o. rolls_back r.kind && not (eqb r.activation 0) && may_happen after r.id o) b.rollback

  keeps_before : (r : Record) → KeepsPast after (reverting r) → KeepsPast w.sessions r
  keeps_before r (inl k) =
      let (first, m) =
      and_parts (rolls_back r.kind && not (eqb r.activation 0)) (may_happen after r.id r.rollback)
      (sym (snapshot_same r (reverting r) (same_but r)) ∙ k) in
      inl (and_from (rolls_back r.kind && not (eqb r.activation 0)) (may_happen w.sessions r.id r.rollback) first
      (may_before r.id r.rollback m))
  keeps_before r (inr k) =
      let (kind, u) = and_parts (undoes (reverting r).kind) (is_undoable (reverting r).state) k in
      inr (and_from (undoes r.kind) (is_undoable r.state) (ap undoes (sym (same_but r).kind)
      ∙ kind) (undoable_back r u))

  -- what keeps its past kept it before
  pub past_stays : PastStays w.sessions after
  past_stays s i k =
      let (r, j, e) = in_map_back reverting s w.sessions i in
      let b = same_but r in (
        r,
        j,
        keeps_before r (subst (KeepsPast after) (sym e) k),
        subst (IsLike r) e (record { id = b.id; kind = b.kind; parts = b.parts; activation = b.activation }),
      )

module _ (w v : World) (a : AreAlikeInParts w v) (law : Lawful w) where
  abbrev reverted_all : World → Stepped
  reverted_all z = done (record z { sessions = map reverting z.sessions })

  revert_by : (b : Bool) → AreSteppedAlike (cond b (reverted_all w) (refused w NothingToRevert))
      (cond b (reverted_all (other w v a)) (refused (other w v a) NothingToRevert))
  revert_by true = record {
    reply = refl;
    world = alike_after w v a (map reverting w.sessions) (ordered w law)
        (ordered_map reverting w.sessions (ordered w law) under_reverting) (carries_all w law)
        (nothing_new w law) (no_past_new w.sessions _ (past_stays w law)) w.clock;
  }
  revert_by false = refused_alike w (other w v a) NothingToRevert (unchanged w v a)

  pub revert_alike : AreSteppedAlike (revert w) (revert v)
  revert_alike =
      beside w v a revert
      (revert_by (list_any (λ r. is_some (moved r.state step_of.Revert)) w.sessions))
