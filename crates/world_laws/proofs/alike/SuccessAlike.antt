-- Success in worlds that are alike. Callers want `success_alike`.
use Rattle.std.proofs.Common.{◌≡◌, ◌⊎◌, ℕ, Bool, true, false, cond, eqb, ◌&&◌, List, map, Option, Some, None, sym, ap}
use Rattle.std.proofs.Common.{subst, ◌∙◌, refl, inl, inr}
use Rattle.std.specs.Prelude.{not, max}
use Rattle.std.proofs.lemmas.Bool.{false≢true, and_parts, and_from, or_left, or_right, cases_eq}
use Rattle.apex_base.specs.declared.moves.Move.TheVariants as step_of
use Rattle.apex_base.specs.declared.numbers.SessionId.{SessionId}
use Rattle.apex_base.specs.declared.records.Record.{Record}
use Rattle.apex_base.specs.declared.records.RollbackState.{RollbackState}
use Rattle.apex_base.specs.declared.records.RollbackState.TheVariants.{Enabling, Available, Committed, Deleted}
use Rattle.apex_base.specs.declared.records.State.{State}
use Rattle.apex_base.specs.declared.records.State.TheVariants as state
use Rattle.apex_base.specs.Commit.{rollback_id, rolls_back, undoes}
use Rattle.apex_base.specs.Held.{is_unfinished, is_undoable, is_standing, is_success, is_available, is_staged}
use Rattle.apex_base.specs.Members.{In}
use Rattle.apex_base.specs.Moves.{moved}
use Rattle.apex_base.specs.Rollbacks.{is_enabling, no_longer}
use Rattle.apex_base.specs.Sessions.{shares, session_of}
use Rattle.apex_base.proofs.MemberLemmas.{in_map, in_map_back}
use Rattle.apex_base.proofs.SessionLemmas.{with_any, with_self, with_others, of_found, of_in, ascend_with, ascend_map}
use Rattle.apex_world.specs.Advance.{succeeding, outdated_by, after_success, success_to, success_found, success}
use Rattle.apex_world.specs.Lawful.{Lawful}
use Rattle.apex_world.specs.Rows.{is_staged_session, may_happen, has_snapshot}
use Rattle.world_laws.specs.StoredAlike.{KeepsPast, AreAlikeInParts, AreSteppedAlike}
use Rattle.apex_world.specs.World.{World}
use Rattle.world_laws.proofs.alike.AlikeAfter.{IsLike, NothingNew, PastStays, no_past_new, alike_after}
use Rattle.world_laws.proofs.alike.AlikeLemmas.{other, beside, unchanged, with_tables, refused_alike}
use Rattle.world_facts.proofs.facts.KeptLemmas.{AreOrdered, stands_as, ordered}
use Rattle.world_facts.proofs.facts.KeptLess.{Goes, Carries}
use Rattle.world_facts.proofs.facts.OpenedSessions.{one_session}
use Rattle.world_laws.proofs.alike.OrderedAfter.{IsUnder, ordered_after}
use Rattle.world_laws.proofs.alike.StagedSome.{staged_some}
use Rattle.world_facts.proofs.facts.WorldRows.{same_id}
use Rattle.world_facts.proofs.facts.StateFacts.{success_from}
use Rattle.world_laws.proofs.alike.MayHappen.{may_as_before, may_if_no_longer}

-- What a success leaves of a session

-- one that succeeds keeps its id, kind, parts and boot
pub succeeding_like : (b : Bool) (clock : ℕ) (r : Record) → IsLike r
    (cond b (record r { state = state.Success; rollback = Some Available; moment = clock })
    (record r { state = state.Success }))
succeeding_like true clock r = record { id = refl; kind = refl; parts = refl; activation = refl }
succeeding_like false clock r = record { id = refl; kind = refl; parts = refl; activation = refl }

-- and is a success
pub succeeding_state : (b : Bool) (clock : ℕ) (r : Record) → (cond b
    (record r { state = state.Success; rollback = Some Available; moment = clock })
    (record r { state = state.Success })).state ≡ state.Success
succeeding_state true clock r = refl
succeeding_state false clock r = refl

-- the rollback that it had, or one that is no longer available
pub data HasRollbackOf (r s : Record) : Type 0 where
  Same : s.rollback ≡ r.rollback → HasRollbackOf r s
  NoLonger : s.rollback ≡ no_longer r.rollback → HasRollbackOf r s

pub record IsOutdated (r s : Record) : Type 0 where
  pub like : IsLike r s
  pub state : s.state ≡ r.state
  pub rollback : HasRollbackOf r s

outdated_if : (b : Bool) (r : Record) → IsOutdated r (cond b (record r { rollback = no_longer r.rollback }) r)
outdated_if true r = record {
  like = record { id = refl; kind = refl; parts = refl; activation = refl };
  state =
      refl;
  rollback = NoLonger refl;
}
outdated_if false r = record {
  like = record { id = refl; kind = refl; parts = refl; activation = refl };
  state =
      refl;
  rollback = Same refl;
}

-- one that may be outdated keeps all but its rollback
pub outdated : (x r : Record) → IsOutdated r (outdated_by x r)
outdated x r = outdated_if (shares r x) r

not_available : (o : Option RollbackState) → is_available (no_longer o) ≡ true → is_available o ≡ true
not_available None e = absurd (cc)
not_available (Some Enabling) e = absurd (cc)
not_available (Some Available) e = refl
not_available (Some Committed) e = absurd (cc)
not_available (Some Deleted) e = absurd (cc)

available_back : (r s : Record) → HasRollbackOf r s → is_available s.rollback ≡ true → is_available r.rollback ≡ true
available_back r s (Same e) a = ap is_available (sym e) ∙ a
available_back r s (NoLonger e) a = not_available r.rollback (ap is_available (sym e) ∙ a)

goes_outdated : (r s : Record) → IsOutdated r s → Goes r s
goes_outdated r s o = record {
  parts = o.like.parts;
  unfinished = λ e. ap is_unfinished (sym o.state) ∙ e;
  stays = λ e. (ap is_success o.state ∙ e, o.like.activation);
  came = λ e. elim (stands_as s.state e) [
    | inl u ↦ inl (ap is_unfinished (sym o.state) ∙ u.1)
    | inr f ↦ inr (ap is_success (sym o.state) ∙ f)
  ];
  available = λ e. (
    or_right (is_undoable r.state) (is_available r.rollback) (available_back r s o.rollback e),
    o.like.activation,
  );
}

under_outdated : (r s : Record) → IsOutdated r s → IsUnder r s
under_outdated r s o = record {
  id = o.like.id;
  parts = o.like.parts;
  activation = o.like.activation;
  stands = λ e. ap is_standing (sym o.state) ∙ e;
  undoable = λ e. ap is_undoable (sym o.state) ∙ e;
}

activated_under : (r s : Record) → r.state ≡ state.Activated → IsLike r s → IsUnder r s
activated_under r s a l = record {
  id = l.id;
  parts = l.parts;
  activation = l.activation;
  stands = λ e. ap is_standing a;
  undoable = λ e. ap is_undoable a;
}

activated_goes : (r s : Record) → r.state ≡ state.Activated → IsLike r s → s.state ≡ state.Success → Goes r s
activated_goes r s a l t = record {
  parts = l.parts;
  unfinished = λ e. ap is_unfinished a;
  stays = λ e. (ap is_success t, l.activation);
  came = λ e. inl (ap is_unfinished a);
  available = λ e. (or_left (is_undoable r.state) (is_available r.rollback) (ap is_undoable a), l.activation);
}

enabled : (o : Option RollbackState) → is_enabling o ≡ true → (ss : List Record) (id : SessionId)
    → may_happen ss id o ≡ true
enabled None e ss id = absurd (cc)
enabled (Some Enabling) e ss id = refl
enabled (Some Available) e ss id = absurd (cc)
enabled (Some Committed) e ss id = absurd (cc)
enabled (Some Deleted) e ss id = absurd (cc)

module _ (w : World) (law : Lawful w) (clock : ℕ) (r : Record) (h : In r w.sessions)
    (active : r.state ≡ state.Activated) where
  abbrev r' : Record
  r' = succeeding clock r

  abbrev others : List Record
  others = map (outdated_by r) w.sessions

  abbrev after : List Record
  after = after_success clock r w.sessions

  like : IsLike r r'
  like = succeeding_like (is_enabling r.rollback) clock r

  is_now : r'.state ≡ state.Success
  is_now = succeeding_state (is_enabling r.rollback) clock r

  goes : Goes r r'
  goes = activated_goes r r' active like is_now

  id_of : (x s : Record) → IsLike x s → s.id.0 ≡ x.id.0
  id_of x s l = ap (λ (id : SessionId). id.0) l.id

  -- a session after is the one that succeeded, or another, with its rollback or none that is available
  from : (s : Record) → In s after → (s ≡ r') ⊎ ((q : Record) × In q w.sessions × IsOutdated q s)
  from s i =
      elim (with_any r' others s i) [
        | inl e ↦ inl e
        | inr j ↦
            let (q, k, e) = in_map_back (outdated_by r) s w.sessions j in
            inr (q, k, subst (IsOutdated q) e (outdated r q))
      ]

  pub ordered_success : AreOrdered after
  ordered_success =
      ordered_after w.sessions after (ordered w law)
      (ascend_with r' others (ascend_map (outdated_by r) w.sessions (λ q. (outdated r q).like.id) law.ids.ascend))
      (λ s i. elim (from s i) [
        | inl e ↦ inl (r, h, subst (IsUnder r) (sym e) (activated_under r r' active like))
        | inr (q, k, o) ↦ inl (q, k, under_outdated q s o)
      ])

  pub carries_all : Carries w.sessions after
  carries_all = record {
    back = λ s i. elim (from s i) [
      | inl e ↦ inl (r, h, subst (Goes r) (sym e) goes)
      | inr (q, k, o) ↦ inl (q, k, goes_outdated q s o)
    ];
    forth = λ q i. elim (cases_eq q.id.0 r'.id.0) [
      | inl e ↦ (
        r',
        with_self r' others,
        subst (λ (x : Record). Goes x r') (one_session w.sessions r q law.ids.ascend h i (sym (id_of r r' like)
            ∙ sym e)) goes,
      )
      | inr d ↦ (
        outdated_by r q,
        with_others r' others (outdated_by r q) (in_map (outdated_by r) q w.sessions i)
            (λ e. d (sym (id_of q (outdated_by r q) (outdated r q).like) ∙ e)),
        goes_outdated q (outdated_by r q) (outdated r q),
      )
    ];
  }

  pub nothing_new : NothingNew w.sessions after
  nothing_new s p i fresh j =
      elim (from s i) [
        | inl e ↦ absurd (fresh.unused r h (sym (id_of r r' like) ∙ ap (λ (x : Record). x.id.0) (sym e)))
        | inr (q, k, o) ↦ absurd (fresh.unused q k (sym (id_of q s o.like)))
      ]

  staged_before : (id : SessionId) → is_staged_session (session_of after id) ≡ true
      → is_staged_session (session_of w.sessions id) ≡ true
  staged_before id e =
      let (z, f, s) = staged_some (session_of after id) e in
      let (i, zid) = of_found after id z f in
      elim (from z i) [
        | inl y ↦ absurd (false≢true (ap is_staged (sym is_now) ∙ ap (λ (z : Record). is_staged z.state) (sym y) ∙ s))
        | inr (q, k, o) ↦
            ap is_staged_session (ap (session_of w.sessions) (sym (same_id q.id id (sym (id_of q z o.like) ∙ zid)))
            ∙ of_in w.sessions q law.ids.ascend k) ∙ ap is_staged (sym o.state) ∙ s
      ]

  may_before : (id : SessionId) (o : Option RollbackState) → may_happen after id o ≡ true
      → may_happen w.sessions id o ≡ true
  may_before id o m = may_as_before w.sessions after id o (λ c. staged_before (rollback_id id)) m

  outdated_before : (q s : Record) → IsOutdated q s → may_happen after s.id s.rollback ≡ true
      → may_happen w.sessions q.id q.rollback ≡ true
  outdated_before q s o m =
      elim o.rollback [
        | Same e ↦ may_before q.id q.rollback (ap (λ id. may_happen after id q.rollback) (sym o.like.id)
            ∙ ap (may_happen after s.id) (sym e) ∙ m)
        | NoLonger e ↦ may_before q.id q.rollback (may_if_no_longer after q.id q.rollback
            (ap (λ id. may_happen after id (no_longer q.rollback)) (sym o.like.id)
            ∙ ap (may_happen after s.id) (sym e) ∙ m))
      ]

  enabling_before : (b : Bool) → is_enabling r.rollback ≡ b
      → may_happen after r.id (cond b (record r {
        state = state.Success;
        rollback = Some Available;
        moment =
            clock;
      }) (record r { state = state.Success })).rollback ≡ true
      → may_happen w.sessions r.id r.rollback ≡ true
  enabling_before true e m = enabled r.rollback e w.sessions r.id
  enabling_before false e m = may_before r.id r.rollback m

  snapshot_before : (q s : Record) → IsLike q s → (may_happen after s.id s.rollback ≡ true
      → may_happen w.sessions q.id q.rollback ≡ true) → has_snapshot after s ≡ true → has_snapshot w.sessions q ≡ true
  snapshot_before q s l may k =
      let (first, m) = and_parts (rolls_back s.kind && not (eqb s.activation 0)) (may_happen after s.id s.rollback) k in
      and_from (rolls_back q.kind && not (eqb q.activation 0)) (may_happen w.sessions q.id q.rollback)
      (ap (λ n. rolls_back q.kind && not (eqb n 0)) (sym l.activation)
      ∙ ap (λ k. rolls_back k && not (eqb s.activation 0)) (sym l.kind) ∙ first) (may m)

  keeps_outdated : (q s : Record) → IsOutdated q s → KeepsPast after s → KeepsPast w.sessions q
  keeps_outdated q s o (inl k) = inl (snapshot_before q s o.like (outdated_before q s o) k)
  keeps_outdated q s o (inr k) =
      let (kind, u) = and_parts (undoes s.kind) (is_undoable s.state) k in
      inr (and_from (undoes q.kind) (is_undoable q.state) (ap undoes (sym o.like.kind)
      ∙ kind) (ap is_undoable (sym o.state) ∙ u))

  keeps_now : KeepsPast after r' → KeepsPast w.sessions r
  keeps_now (inl k) = inl (snapshot_before r r' like (λ m. enabling_before (is_enabling r.rollback) refl
      (ap (λ id. may_happen after id r'.rollback) (sym like.id) ∙ m)) k)
  keeps_now (inr k) =
      let (kind, u) = and_parts (undoes r'.kind) (is_undoable r'.state) k in
      absurd (false≢true (ap is_undoable (sym is_now) ∙ u))

  -- what keeps its past kept it before
  pub past_stays : PastStays w.sessions after
  past_stays s i k =
      elim (from s i) [
        | inl e ↦ (r, h, keeps_now (subst (KeepsPast after) e k), subst (IsLike r) (sym e) like)
        | inr (q, j, o) ↦ (q, j, keeps_outdated q s o k, o.like)
      ]

-- The call

module _ (w v : World) (a : AreAlikeInParts w v) (law : Lawful w) (clock : ℕ) where
  abbrev marked : Bool → Record → World → World
  marked b r z = record z { sessions = cond b z.sessions (after_success clock r z.sessions); clock = clock }

  marked_alike : (b : Bool) (r : Record) → In r w.sessions → (b ≡ false → r.state ≡ state.Activated)
      → AreAlikeInParts (marked b r w) (marked b r (other w v a))
  marked_alike true r h e = with_tables w v a w.contents w.watches clock
  marked_alike false r h e =
      alike_after w v a (after_success clock r w.sessions) (ordered w law)
      (ordered_success w law clock r h (e refl))
      (carries_all w law clock r h (e refl)) (nothing_new w law clock r h (e refl))
      (no_past_new w.sessions _ (past_stays w law clock r h (e refl))) clock

  to_alike : (r : Record) (o : Option State) → In r w.sessions → moved r.state step_of.Success ≡ o
      → AreSteppedAlike (success_to w clock r o) (success_to (other w v a) clock r o)
  to_alike r None h e = refused_alike w (other w v a) _ (unchanged w v a)
  to_alike r (Some t) h e = record {
    reply = refl;
    world = marked_alike (is_success r.state) r h (λ f. success_from r.state t e f);
  }

  found_alike : (id : SessionId) (o : Option Record) → session_of w.sessions id ≡ o
      → AreSteppedAlike (success_found w clock id o) (success_found (other w v a) clock id o)
  found_alike id None e = refused_alike w (other w v a) _ (unchanged w v a)
  found_alike id (Some r) e =
      to_alike r (moved r.state step_of.Success) (of_found w.sessions id r e).0 refl

pub success_alike : (w v : World) → AreAlikeInParts w v → Lawful w → (time : ℕ) (id : SessionId)
    → AreSteppedAlike (success w time id) (success v time id)
success_alike w v a law time id =
    beside w v a (λ z. success z time id)
    (found_alike w v a law (max w.clock time) id (session_of w.sessions id) refl)
