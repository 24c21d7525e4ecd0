-- Ready and Abort in worlds that are alike. Callers want `ready_alike` and `abort_alike`.
use Rattle.std.proofs.Common.{◌≡◌, ◌⊎◌, true, false, eqb, ◌&&◌, List, Option, Some, None, sym, ap, subst, ◌∙◌, refl}
use Rattle.std.proofs.Common.{inl, inr}
use Rattle.std.specs.Prelude.{not}
use Rattle.std.proofs.lemmas.Bool.{false≢true, and_parts, and_from, or_right, cases_eq, eq-eqb}
use Rattle.apex_base.specs.declared.moves.Move.{Move}
use Rattle.apex_base.specs.declared.moves.Move.TheVariants as step_of
use Rattle.apex_base.specs.declared.numbers.SessionId.{SessionId}
use Rattle.apex_base.specs.declared.records.Record.{Record}
use Rattle.apex_base.specs.declared.records.RollbackState.{RollbackState}
use Rattle.apex_base.specs.declared.records.RollbackState.TheVariants.{Enabling, Available, Committed, Deleted}
use Rattle.apex_base.specs.declared.records.State.{State}
use Rattle.apex_base.specs.declared.records.State.TheVariants as state
use Rattle.apex_base.specs.Commit.{rollback_id, rolls_back}
use Rattle.apex_base.specs.Held.{is_unfinished, is_undoable, is_standing, is_success, is_available, is_staged}
use Rattle.apex_base.specs.Members.{In}
use Rattle.apex_base.specs.Moves.{moved}
use Rattle.apex_base.specs.Rollbacks.{is_committed}
use Rattle.apex_base.specs.Sessions.{session_of, with_session, Ascend}
use Rattle.apex_base.proofs.SessionLemmas.{with_any, with_self, with_others, of_found, of_in}
use Rattle.apex_world.specs.Advance.{rollback_after, move_to, move_found, ready, abort}
use Rattle.apex_world.specs.Lawful.{Lawful, never_activated, is_verified}
use Rattle.apex_world.specs.Rows.{is_staged_session, may_happen, has_snapshot}
use Rattle.world_laws.specs.StoredAlike.{KeepsPast, AreAlikeInParts, AreSteppedAlike}
use Rattle.apex_world.specs.World.{World}
use Rattle.world_laws.proofs.alike.AlikeAfter.{NothingNew, PastStays, like_self, no_past_new, alike_after}
use Rattle.world_laws.proofs.alike.AlikeLemmas.{other, beside, unchanged, refused_alike}
use Rattle.world_facts.proofs.facts.KeptLemmas.{stands_as, ordered}
use Rattle.world_facts.proofs.facts.KeptLess.{Goes, Carries}
use Rattle.world_facts.proofs.facts.OpenedSessions.{one_session}
use Rattle.world_laws.proofs.alike.OrderedAfter.{IsUnder, ordered_one}
use Rattle.world_laws.proofs.alike.StagedSome.{staged_some}
use Rattle.world_facts.proofs.facts.WorldRows.{same_id}

-- Ready and Abort, by states

pub record IsEarlyMove (s t : State) : Type 0 where
  pub never : never_activated s ≡ true
  pub stands : is_standing t ≡ false
  pub undoable : is_undoable t ≡ false
  pub staged : is_staged t ≡ true → (is_verified s ≡ true) ⊎ (is_staged s ≡ true)
  pub unfinished : is_unfinished s ≡ true
  pub success : is_success s ≡ false

pub ready_early : (s t : State) → moved s step_of.Ready ≡ Some t → IsEarlyMove s t
ready_early state.Verified t e =
    let same : state.Staged ≡ t = cc in
    subst (IsEarlyMove state.Verified) same
    (record { never = refl; stands = refl; undoable = refl; staged = λ e. inl refl; unfinished = refl; success = refl })
ready_early state.Staged t e =
    let same : state.Staged ≡ t = cc in
    subst (IsEarlyMove state.Staged) same
    (record { never = refl; stands = refl; undoable = refl; staged = λ e. inr refl; unfinished = refl; success = refl })
ready_early state.Activated t e = absurd (cc)
ready_early state.ActivationFailed t e = absurd (cc)
ready_early state.Success t e = absurd (cc)
ready_early state.RevertInProgress t e = absurd (cc)
ready_early state.Reverted t e = absurd (cc)
ready_early state.Aborted t e = absurd (cc)

aborted : (s t : State) → state.Aborted ≡ t → never_activated s ≡ true → is_unfinished s ≡ true → is_success s ≡ false
    → IsEarlyMove s t
aborted s t same n u f =
    subst (IsEarlyMove s) same (record {
      never = n;
      stands = refl;
      undoable = refl;
      staged = λ e. absurd (false≢true e);
      unfinished = u;
      success = f;
    })

pub abort_early : (s t : State) → moved s step_of.Abort ≡ Some t → IsEarlyMove s t
abort_early state.Verified t e = let same : state.Aborted ≡ t = cc in aborted state.Verified t same refl refl refl
abort_early state.Staged t e = let same : state.Aborted ≡ t = cc in aborted state.Staged t same refl refl refl
abort_early state.Activated t e = absurd (cc)
abort_early state.ActivationFailed t e = absurd (cc)
abort_early state.Success t e = absurd (cc)
abort_early state.RevertInProgress t e = absurd (cc)
abort_early state.Reverted t e = absurd (cc)
abort_early state.Aborted t e = absurd (cc)

-- One session changes

pub goes_self : (s : Record) → Goes s s
goes_self s = record {
  parts = refl;
  unfinished = λ e. e;
  stays = λ e. (e, refl);
  came = λ e. elim (stands_as s.state e) [
    | inl u ↦ inl u.1
    | inr f ↦ inr f
  ];
  available = λ e. (or_right (is_undoable s.state) (is_available s.rollback) e, refl);
}

module _ (ss : List Record) (a : Ascend ss) (r r' : Record) (h : In r ss) (same : r'.id ≡ r.id) where
  id_same : r'.id.0 ≡ r.id.0
  id_same = ap (λ (id : SessionId). id.0) same

  pub carries_one : Goes r r' → Carries ss (with_session r' ss)
  carries_one g = record {
    back = λ s i. elim (with_any r' ss s i) [
      | inl e ↦ inl (r, h, subst (λ (x : Record). Goes r x) (sym e) g)
      | inr j ↦ inl (s, j, goes_self s)
    ];
    forth = λ x i. elim (cases_eq x.id.0 r'.id.0) [
      | inl e ↦ (
        r',
        with_self r' ss,
        subst (λ (y : Record). Goes y r') (one_session ss r x a h i (sym id_same ∙ sym e)) g,
      )
      | inr d ↦ (x, with_others r' ss x i d, goes_self x)
    ];
  }

  pub nothing_new : NothingNew ss (with_session r' ss)
  nothing_new s p i fresh j =
      elim (with_any r' ss s i) [
        | inl e ↦ absurd (fresh.unused r h (sym id_same ∙ ap (λ (x : Record). x.id.0) (sym e)))
        | inr k ↦ absurd (fresh.unused s k refl)
      ]

module _ (w : World) (law : Lawful w) (r r' : Record) (h : In r w.sessions) (same : r'.id ≡ r.id)
    (activation : r'.activation ≡ r.activation) (early : IsEarlyMove r.state r'.state) where
  abbrev after : List Record
  after = with_session r' w.sessions

  -- a rollback session that waits for the next boot has waited before
  staged_before : (x : Record) → In x w.sessions → is_committed x.rollback ≡ true
      → is_staged_session (session_of after (rollback_id x.id)) ≡ true
      → is_staged_session (session_of w.sessions (rollback_id x.id)) ≡ true
  staged_before x i c e =
      let (z, f, s) = staged_some (session_of after (rollback_id x.id)) e in
      let (j, id) = of_found after (rollback_id x.id) z f in
      elim (with_any r' w.sessions z j) [
        | inr k ↦
            ap is_staged_session (ap (session_of w.sessions) (sym (same_id z.id (rollback_id x.id) id))
            ∙ of_in w.sessions z law.ids.ascend k) ∙ s
        | inl y ↦
            let (q, g, kind) = law.undone.forth x i c in
            let (l, qid) = of_found w.sessions (rollback_id x.id) q g in
            let rid : r.id.0 ≡ q.id.0 =
            ap (λ (id : SessionId). id.0) (sym same) ∙ ap (λ (z : Record). z.id.0) (sym y) ∙ id ∙ sym qid in
            let one : r ≡ q = one_session w.sessions r q law.ids.ascend h l rid in
            let (u, found, back) = law.undone.back r x.id h (ap (λ (r : Record). r.kind) one ∙ kind) in
            elim (early.staged (ap (λ (z : Record). is_staged z.state) (sym y) ∙ s)) [
              | inl verified ↦ absurd (cc (back.begun, verified))
              | inr staged ↦ ap is_staged_session g ∙ ap (λ (r : Record). is_staged r.state) (sym one) ∙ staged
            ]
      ]

  may_before : (x : Record) (o : Option RollbackState) → x.rollback ≡ o → In x w.sessions
      → may_happen after x.id o ≡ true → may_happen w.sessions x.id o ≡ true
  may_before x None e i m = absurd (cc)
  may_before x (Some Enabling) e i m = refl
  may_before x (Some Available) e i m = refl
  may_before x (Some Committed) e i m = staged_before x i (ap is_committed e) m
  may_before x (Some Deleted) e i m = absurd (cc)

  snapshot_before : (x : Record) → In x w.sessions → has_snapshot after x ≡ true → has_snapshot w.sessions x ≡ true
  snapshot_before x i e =
      let (front, m) = and_parts (rolls_back x.kind && not (eqb x.activation 0)) (may_happen after x.id x.rollback) e in
      and_from (rolls_back x.kind && not (eqb x.activation 0)) (may_happen w.sessions x.id x.rollback) front
      (may_before x x.rollback refl i m)

  -- the session that moves keeps nothing
  moved_nothing : KeepsPast after r' → ⊥
  moved_nothing (inl k) =
      let zero : r'.activation ≡ 0 = activation ∙ (law.activations.each r h).none early.never in
      let some = (and_parts _ (not (eqb r'.activation 0)) (and_parts _ _ k).0).1 in
      absurd (cc (some, eq-eqb r'.activation 0 zero))
  moved_nothing (inr k) = absurd (cc (early.undoable, (and_parts _ (is_undoable r'.state) k).1))

  -- what keeps its past kept it before
  pub past_stays : PastStays w.sessions after
  past_stays s i k =
      elim (with_any r' w.sessions s i) [
        | inl e ↦ absurd (moved_nothing (subst (λ (x : Record). KeepsPast after x) e k))
        | inr j ↦ (
          s,
          j,
          elim k [
            | inl f ↦ inl (snapshot_before s j f)
            | inr f ↦ inr f
          ],
          like_self s,
        )
      ]

-- The calls

pub abort_available : (o : Option RollbackState) → is_available (rollback_after step_of.Abort o) ≡ true
    → is_available o ≡ true
abort_available None e = absurd (cc)
abort_available (Some Enabling) e = absurd (cc)
abort_available (Some Available) e = refl
abort_available (Some Committed) e = absurd (cc)
abort_available (Some Deleted) e = absurd (cc)

module _ (m : Move)
    (available : (o : Option RollbackState) → is_available (rollback_after m o) ≡ true → is_available o ≡ true) where
  abbrev pub moved_to : Record → State → Record
  moved_to r t = record r { state = t; rollback = rollback_after m r.rollback }

  pub goes_early : (r : Record) (t : State) → IsEarlyMove r.state t → Goes r (moved_to r t)
  goes_early r t e = record {
    parts = refl;
    unfinished = λ u. e.unfinished;
    stays = λ s. absurd (false≢true (sym e.success ∙ s));
    came = λ s. absurd (false≢true (sym e.stands ∙ s));
    available = λ s. (or_right (is_undoable r.state) (is_available r.rollback) (available r.rollback s), refl);
  }

  pub under_early : (r : Record) (t : State) → IsEarlyMove r.state t → IsUnder r (moved_to r t)
  under_early r t e = record {
    id = refl;
    parts = refl;
    activation = refl;
    stands = λ s. absurd (false≢true (sym e.stands ∙ s));
    undoable = λ s. absurd (false≢true (sym e.undoable ∙ s));
  }

module _ (w v : World) (a : AreAlikeInParts w v) (law : Lawful w) (m : Move)
    (early : (s t : State) → moved s m ≡ Some t → IsEarlyMove s t)
    (available : (o : Option RollbackState) → is_available (rollback_after m o) ≡ true → is_available o ≡ true) where
  to_alike : (r : Record) (o : Option State) → In r w.sessions → moved r.state m ≡ o
      → AreSteppedAlike (move_to w w.clock r m o) (move_to (other w v a) w.clock r m o)
  to_alike r None h e = refused_alike w (other w v a) _ (unchanged w v a)
  to_alike r (Some t) h e =
      let move = early r.state t e in
      let r' = moved_to m available r t in
      record {
        reply = refl;
        world = alike_after w v a (with_session r' w.sessions) (ordered w law)
            (ordered_one r r' w.sessions (ordered w law) h (under_early m available r t move))
            (carries_one w.sessions law.ids.ascend r r' h refl (goes_early m available r t move))
            (nothing_new w.sessions law.ids.ascend r r' h refl)
            (no_past_new w.sessions _ (past_stays w law r r' h refl refl move)) w.clock;
      }

  found_alike : (id : SessionId) (o : Option Record) → session_of w.sessions id ≡ o
      → AreSteppedAlike (move_found w w.clock id m o) (move_found (other w v a) w.clock id m o)
  found_alike id None e = refused_alike w (other w v a) _ (unchanged w v a)
  found_alike id (Some r) e = to_alike r (moved r.state m) (of_found w.sessions id r e).0 refl

pub ready_alike : (w v : World) → AreAlikeInParts w v → Lawful w → (id : SessionId)
    → AreSteppedAlike (ready w id) (ready v id)
ready_alike w v a law id =
    beside w v a (λ z. ready z id)
    (found_alike w v a law step_of.Ready ready_early (λ o e. e) id (session_of w.sessions id) refl)

pub abort_alike : (w v : World) → AreAlikeInParts w v → Lawful w → (id : SessionId)
    → AreSteppedAlike (abort w id) (abort v id)
abort_alike w v a law id =
    beside w v a (λ z. abort z id)
    (found_alike w v a law step_of.Abort abort_early abort_available id (session_of w.sessions id) refl)
