-- What a commit makes of sessions, what they keep of the past after it, and which commits can follow. Callers want
-- `CanCommit`, `carries_commit`, `nothing_commit`, `past_stays`, `past_commit`, `ordered_commit` and `can_after`.
use Rattle.std.proofs.Common.{◌≡◌, ◌≢◌, ◌⊎◌, ℕ, true, false, eqb, ◌&&◌, List, map, sym}
use Rattle.std.proofs.Common.{ap, subst, ◌∙◌, refl, inl, inr, arith}
use Rattle.std.specs.Prelude.{not}
use Rattle.std.proofs.lemmas.Bool.{false≢true, and_parts, and_from, or_right, ne_eqb}
use Rattle.apex_base.specs.declared.numbers.SessionId.{SessionId}
use Rattle.apex_base.specs.declared.records.Part.{Part}
use Rattle.apex_base.specs.declared.records.Record.{Record}
use Rattle.apex_base.specs.declared.records.State.{State}
use Rattle.apex_base.specs.declared.records.State.TheVariants as state
use Rattle.apex_base.specs.Commit.{rollback_id, rolls_back, is_waiting, part_before, undoes}
use Rattle.apex_base.specs.Commit.{rollback_session, after_commit, committed}
use Rattle.apex_base.specs.Held.{is_undoable, is_success, is_available, before, kept}
use Rattle.apex_base.specs.Members.{In}
use Rattle.apex_base.specs.Rollbacks.{is_committed}
use Rattle.apex_base.specs.Sessions.{session_of}
use Rattle.apex_base.proofs.MemberLemmas.{in_map, in_map_back}
use Rattle.apex_base.proofs.SessionLemmas.{with_any, with_others, of_found, of_in}
use Rattle.apex_world.specs.Rows.{is_staged_session, may_happen}
use Rattle.world_laws.specs.StoredAlike.{KeepsPast}
use Rattle.world_laws.proofs.alike.AlikeAfter.{NothingNew, NoPastNew, PastStays, no_past_new}
use Rattle.world_facts.proofs.facts.KeptLemmas.{AreOrdered, Backs, keeps}
use Rattle.world_facts.proofs.facts.KeptLess.{IsFresh, Carries}
use Rattle.world_facts.proofs.facts.OpenedSessions.{one_session}
use Rattle.world_laws.proofs.alike.OrderedAfter.{ordered_map, ordered_new}
use Rattle.world_facts.proofs.facts.WorldRows.{same_id}
use Rattle.world_laws.proofs.alike.CommitWays.{Ways, Marks, GivesWay, Leaves, ways, ways_like, ways_under, ways_goes}
use Rattle.world_laws.proofs.alike.CommitWays.{staged_back}
use Rattle.world_facts.proofs.facts.NewIds.{not_both}
use Rattle.world_laws.proofs.alike.StagedSome.{staged_some}
use Rattle.world_laws.proofs.alike.MayHappen.{available_may, may_as_before, may_if_not_enabled}

-- a session whose rollback can be committed
pub record CanCommit (ss : List Record) (x : Record) : Type 0 where
  pub among : In x ss
  pub success : is_success x.state ≡ true
  pub available : is_available x.rollback ≡ true
  pub unused : (r : Record) → In r ss → r.id.0 ≢ (rollback_id x.id).0

module _ (ss : List Record) (law : AreOrdered ss) (x : Record) (can : CanCommit ss x) (print : List ℕ) where
  abbrev new : Record
  new = rollback_session ss x print

  abbrev others : List Record
  others = map (after_commit x) ss

  abbrev after : List Record
  after = committed ss x print

  -- a session afterwards is the new one, or comes from one before
  from : (s : Record) → In s after → (s ≡ new) ⊎ ((r : Record) × In r ss × Ways x r s)
  from s i =
      elim (with_any new others s i) [
        | inl e ↦ inl e
        | inr j ↦
            let (r, k, e) = in_map_back (after_commit x) s ss j in
            inr (r, k, subst (Ways x r) e (ways x r))
      ]

  number_same : (r s : Record) → Ways x r s → s.id.0 ≡ r.id.0
  number_same r s way = ap (λ (id : SessionId). id.0) (ways_like x r s way).id

  fresh_new : IsFresh ss new
  fresh_new = record { unused = can.unused; idle = refl; unavailable = refl }

  -- each session comes from one before, or is the new one
  pub carries_commit : Carries ss after
  carries_commit = record {
    back = λ s i. elim (from s i) [
      | inl e ↦ inr (subst (IsFresh ss) (sym e) fresh_new)
      | inr (r, j, way) ↦ inl (r, j, ways_goes x r s way)
    ];
    forth = λ r i. (
      after_commit x r,
      with_others new others (after_commit x r) (in_map (after_commit x) r ss i)
          (λ e. can.unused r i (sym (number_same r (after_commit x r) (ways x r)) ∙ e)),
      ways_goes x r (after_commit x r) (ways x r),
    );
  }

  -- the new session goes back to what is kept
  pub nothing_commit : NothingNew ss after
  nothing_commit s p i fresh j =
      elim (from s i) [
        | inr (r, k, way) ↦ absurd (fresh.unused r k (sym (number_same r s way)))
        | inl e ↦
            let (q, m, f) = in_map_back (part_before ss x) p x.parts
            (subst (λ (z : Record). In p z.parts) e j) in
            inr (subst (λ (z : Part). In z.target (kept ss)) f
            (keeps ss x q (before ss x q.name) can.among m
            (Backs (or_right (is_undoable x.state) (is_available x.rollback) can.available) refl)))
      ]

  -- the order stays
  pub ordered_commit : AreOrdered after
  ordered_commit =
      ordered_new new others (ordered_map (after_commit x) ss law (λ r. ways_under x r (after_commit x r) (ways x r)))
      (record { activation = refl; stands = refl; undoable = refl })

  -- What a session keeps of the past

  one : (r : Record) → In r ss → r.id.0 ≡ x.id.0 → r ≡ x
  one r h e = one_session ss r x law.ascend h can.among e

  -- a rollback session that waits for the next boot has waited before
  staged_before : (r : Record) → In r ss → is_committed r.rollback ≡ true
      → is_staged_session (session_of after (rollback_id r.id)) ≡ true
      → is_staged_session (session_of ss (rollback_id r.id)) ≡ true
  staged_before r h c e =
      let (z, f, s) = staged_some (session_of after (rollback_id r.id)) e in
      let (i, zid) = of_found after (rollback_id r.id) z f in
      elim (from z i) [
        | inl y ↦
            let both : (rollback_id x.id).0 ≡ (rollback_id r.id).0 = ap (λ (z : Record). z.id.0) (sym y) ∙ zid in
            let same : r ≡ x = one r h (omega (arith, both)) in
            absurd (not_both x.rollback can.available (ap (λ (r : Record). is_committed r.rollback) (sym same) ∙ c))
        | inr (q, j, way) ↦
            ap is_staged_session (ap (session_of ss) (sym (same_id q.id (rollback_id r.id)
            (sym (number_same q z way) ∙ zid))) ∙ of_in ss q law.ascend j) ∙ staged_back x q z way s
      ]

  may_same : (r : Record) → In r ss → may_happen after r.id r.rollback ≡ true
      → may_happen ss r.id r.rollback ≡ true
  may_same r h m = may_as_before ss after r.id r.rollback (staged_before r h) m

  may_before : (r s : Record) → In r ss → Ways x r s → may_happen after s.id s.rollback ≡ true
      → may_happen ss r.id r.rollback ≡ true
  may_before r s h (Marks e f) m =
      available_may ss r.id r.rollback (ap (λ (r : Record). is_available r.rollback) (one r h e) ∙ can.available)
  may_before r s h (GivesWay e f) m =
      may_same r h (may_if_not_enabled after r.id r.rollback
      (ap (λ (s : Record). may_happen after s.id s.rollback) (sym f) ∙ m))
  may_before r s h (Leaves f) m =
      may_same r h (ap (λ (s : Record). may_happen after s.id s.rollback) (sym f) ∙ m)

  keeps_before : (r s : Record) → In r ss → Ways x r s → KeepsPast after s → KeepsPast ss r
  keeps_before r s h way (inl k) =
      let l = ways_like x r s way in
      let (first, m) = and_parts (rolls_back s.kind && not (eqb s.activation 0)) (may_happen after s.id s.rollback) k in
      inl (and_from (rolls_back r.kind && not (eqb r.activation 0)) (may_happen ss r.id r.rollback)
      (ap (λ n. rolls_back r.kind && not (eqb n 0)) (sym l.activation)
      ∙ ap (λ k. rolls_back k && not (eqb s.activation 0)) (sym l.kind) ∙ first) (may_before r s h way m))
  keeps_before r s h way (inr k) =
      let l = ways_like x r s way in
      let (kind, u) = and_parts (undoes s.kind) (is_undoable s.state) k in
      inr (and_from (undoes r.kind) (is_undoable r.state) (ap undoes (sym l.kind) ∙ kind)
      ((ways_under x r s way).undoable u))

  new_nothing : KeepsPast after new → ⊥
  new_nothing (inl k) = absurd (false≢true k)
  new_nothing (inr k) = absurd (false≢true k)

  -- and what keeps its past kept it before
  pub past_stays : PastStays ss after
  past_stays s i k =
      elim (from s i) [
        | inl e ↦ absurd (new_nothing (subst (KeepsPast after) e k))
        | inr (r, j, way) ↦ (r, j, keeps_before r s j way k, ways_like x r s way)
      ]

  pub past_commit : NoPastNew ss after
  past_commit = no_past_new ss after past_stays

  -- another session's rollback can still be committed
  success_waits : (s : State) → is_success s ≡ true → is_waiting s ≡ false
  success_waits state.Verified e = absurd (cc)
  success_waits state.Staged e = absurd (cc)
  success_waits state.Activated e = refl
  success_waits state.ActivationFailed e = refl
  success_waits state.Success e = refl
  success_waits state.RevertInProgress e = refl
  success_waits state.Reverted e = refl
  success_waits state.Aborted e = refl

  stays_so : (y : Record) → y.id.0 ≢ x.id.0 → is_success y.state ≡ true → after_commit x y ≡ y
  stays_so y d e = rw (ne_eqb y.id.0 x.id.0 d, success_waits y.state e) refl

  -- so it can still be committed
  pub can_after : (y : Record) → CanCommit ss y → y.id.0 ≢ x.id.0 → CanCommit after y
  can_after y other d = record {
    among = with_others new others y (subst (λ (z : Record). In z others) (stays_so y d other.success)
        (in_map (after_commit x) y ss other.among)) (can.unused y other.among);
    success = other.success;
    available = other.available;
    unused = λ r i e. elim (from r i) [
      | inl f ↦
          let both : (rollback_id x.id).0 ≡ (rollback_id y.id).0 = ap (λ (z : Record). z.id.0) (sym f) ∙ e in
          d (omega (arith, both))
      | inr (q, j, way) ↦ other.unused q j (sym (number_same q r way) ∙ e)
    ];
  }
