-- What is kept of the past after a success. Callers want `is_outdated`, `snapshot_after` and `restore_after`.
use Rattle.std.proofs.Common.{◌≡◌, ℕ, Bool, true, false, cond, eqb, ◌&&◌, List, map, Option}
use Rattle.std.proofs.Common.{Some, None, sym, ap, ◌∙◌, refl, inl, inr}
use Rattle.std.specs.Prelude.{not}
use Rattle.std.proofs.lemmas.Bool.{false≢true, and_parts, and_right, eqb-true, eq-eqb}
use Rattle.apex_base.specs.declared.numbers.SessionId.{SessionId}
use Rattle.apex_base.specs.declared.records.Record.{Record}
use Rattle.apex_base.specs.declared.records.RollbackState.{RollbackState}
use Rattle.apex_base.specs.declared.records.RollbackState.TheVariants.{Enabling, Available, Committed, Deleted}
use Rattle.apex_base.specs.declared.records.State.TheVariants as state
use Rattle.apex_base.specs.Commit.{rollback_id, rolls_back, undoes}
use Rattle.apex_base.specs.Held.{is_undoable, is_success, is_available}
use Rattle.apex_base.specs.Members.{In}
use Rattle.apex_base.specs.Rollbacks.{is_enabling, no_longer}
use Rattle.apex_base.specs.Sessions.{shares, session_of}
use Rattle.apex_base.proofs.SessionLemmas.{of_found}
use Rattle.apex_world.specs.Advance.{succeeding, outdated_by}
use Rattle.apex_world.specs.Lawful.{Lawful}
use Rattle.apex_world.specs.Rows.{may_happen, has_snapshot, has_pre_restore}
use Rattle.apex_world.specs.Rows.{snapshot_row, pre_restore_row}
use Rattle.world_laws.specs.RowsAfter.{passes}
use Rattle.world_laws.specs.RowsMoved.{outdates}
use Rattle.apex_world.specs.World.{World}
use Rattle.world_laws.proofs.alike.AlikeAfter.{IsLike}
use Rattle.world_laws.proofs.runs.SessionMaps.{put_for}
use Rattle.world_laws.proofs.rows.SucceededSessions.{not_outdated, ids, either, like, now_is, other_state}
use Rattle.world_laws.proofs.rows.SucceededSessions.{staged}
use Rattle.world_laws.proofs.rows.TurnedLists.{by_answer, has_same, restores_same}
use Rattle.world_laws.proofs.rows.TurnedLists.{staged_same, may_same}
use Rattle.world_laws.proofs.rows.TurnedRows.{snapshot_same, restore_same, snapshot_gone, restore_gone}

-- a session whose rollback is outdated

outdated_one : (x : Record) (o : Option RollbackState) → x.rollback ≡ o → is_available o ≡ true
    → record x { rollback = no_longer o } ≡ record x { rollback = Some Deleted }
outdated_one x None e a = absurd (cc)
outdated_one x (Some Enabling) e a = absurd (cc)
outdated_one x (Some Available) e a = refl
outdated_one x (Some Committed) e a = absurd (cc)
outdated_one x (Some Deleted) e a = absurd (cc)

outdated_if : (b : Bool) (x : Record) → (b && is_available x.rollback) ≡ true
    → cond b (record x { rollback = no_longer x.rollback }) x ≡ record x { rollback = Some Deleted }
outdated_if true x e = outdated_one x x.rollback refl e
outdated_if false x e = absurd (false≢true e)

-- it is deleted
pub is_outdated : (r x : Record) → outdates r x ≡ true → outdated_by r x ≡ record x { rollback = Some Deleted }
is_outdated r x e = outdated_if (shares x r) x e

-- a rollback that is to be enabled may happen
enabling_may : (o : Option RollbackState) (ss : List Record) (id : SessionId) → is_enabling o ≡ true
    → may_happen ss id o ≡ true
enabling_may None ss id e = absurd (cc)
enabling_may (Some Enabling) ss id e = refl
enabling_may (Some Available) ss id e = absurd (cc)
enabling_may (Some Committed) ss id e = absurd (cc)
enabling_may (Some Deleted) ss id e = absurd (cc)

module _ (w : World) (law : Lawful w) (clock : ℕ) (r : Record) (h : In r w.sessions)
    (active : r.state ≡ state.Activated) where
  abbrev ss : List Record
  ss = w.sessions

  abbrev g : Record → Record
  g = put_for (succeeding clock r) (outdated_by r)

  abbrev after : List Record
  after = map (put_for (succeeding clock r) (outdated_by r)) w.sessions

  abbrev world_of : List Record → World
  world_of zs = record w { sessions = zs; clock = clock; failures = w.failures }

  likes : (x : Record) → In x ss → IsLike x (g x)
  likes = like w law clock r h active

  same_ids : (x : Record) → (g x).id ≡ x.id
  same_ids = ids w law clock r h active

  outdated_gone : (id : SessionId) → passes (outdates r) (session_of ss id) ≡ true → (x : Record)
      → session_of ss id ≡ Some x → has_snapshot after (g x) ≡ false
  outdated_gone id e x f =
      let (i, xid) = of_found ss id x f in
      let o : outdates r x ≡ true = ap (passes (outdates r)) (sym f) ∙ e in
      elim (either w law clock r h active x i) [
        | inl (same, is) ↦
            let available = (and_parts (shares x r) (is_available x.rollback) o).1 in
            let success = (law.rollbacks.each x i).available available in
            absurd (false≢true (ap is_success (sym active) ∙ ap (λ (q : Record). is_success q.state) (sym same)
            ∙ success))
        | inr (d, is) ↦
            and_right (rolls_back (g x).kind && not (eqb (g x).activation 0)) (may_happen after (g x).id (g x).rollback)
            (ap (λ (q : Record). may_happen after q.id q.rollback) (is ∙ is_outdated r x o))
      ]

  may_still : (x : Record) → may_happen after x.id x.rollback ≡ may_happen ss x.id x.rollback
  may_still x = may_same ss g likes same_ids x.id x.rollback (λ c.
      staged_same ss g likes same_ids (rollback_id x.id) (λ z f.
      staged w law clock r h active z (of_found ss (rollback_id x.id) z f).0))

  enabled_may : (b : Bool) → is_enabling r.rollback ≡ b
      → may_happen after (cond b (record r { state = state.Success; rollback = Some Available; moment = clock })
      (record r { state = state.Success })).id
      (cond b (record r { state = state.Success; rollback = Some Available; moment = clock })
      (record r { state = state.Success })).rollback
      ≡ may_happen ss r.id r.rollback
  enabled_may true e = sym (enabling_may r.rollback ss r.id e)
  enabled_may false e = may_still r

  past_same : (id : SessionId) → passes (outdates r) (session_of ss id) ≡ false → (x : Record)
      → session_of ss id ≡ Some x → In x ss × (has_snapshot after (g x) ≡ has_snapshot ss x)
  past_same id e x f =
      let (i, xid) = of_found ss id x f in (
        i,
        has_same ss g likes x i (elim (either w law clock r h active x i) [
          | inl (same, is) ↦ ap (λ (q : Record). may_happen after q.id q.rollback) is
              ∙ enabled_may (is_enabling r.rollback) refl
              ∙ ap (λ (q : Record). may_happen ss q.id q.rollback) (sym same)
          | inr (d, is) ↦
              let o : outdates r x ≡ false = ap (passes (outdates r)) (sym f) ∙ e in
              ap (λ (q : Record). may_happen after q.id q.rollback) (is ∙ not_outdated r x o) ∙ may_still x
        ]),
      )

  -- what names had before a session that is outdated goes
  pub snapshot_after : (id : SessionId) (name key : List ℕ) → snapshot_row (world_of after) id name key
      ≡ cond (passes (outdates r) (session_of ss id)) None (snapshot_row w id name key)
  snapshot_after id name key =
      by_answer (passes (outdates r) (session_of ss id))
      (λ e. snapshot_gone w g same_ids likes clock w.failures id name key (outdated_gone id e)
      ∙ ap (λ b. cond b None (snapshot_row w id name key)) (sym e))
      (λ e. snapshot_same w g same_ids likes clock w.failures id name key (past_same id e)
      ∙ ap (λ b. cond b None (snapshot_row w id name key)) (sym e))

  -- it can be undone no more
  undone_gone : (id : SessionId) → eqb id.0 r.id.0 ≡ true → (x : Record) → session_of ss id ≡ Some x
      → has_pre_restore (g x) ≡ false
  undone_gone id e x f =
      let (i, xid) = of_found ss id x f in
      elim (either w law clock r h active x i) [
        | inl (same, is) ↦ and_right (undoes (g x).kind) (is_undoable (g x).state)
            (ap is_undoable (now_is w law clock r h active x is))
        | inr (d, is) ↦ absurd (d (xid ∙ eqb-true id.0 r.id.0 e))
      ]

  restored_same : (id : SessionId) → eqb id.0 r.id.0 ≡ false → (x : Record) → session_of ss id ≡ Some x
      → In x ss × (has_pre_restore (g x) ≡ has_pre_restore x)
  restored_same id e x f =
      let (i, xid) = of_found ss id x f in (
        i,
        restores_same ss g likes x i (elim (either w law clock r h active x i) [
          | inl (same, is) ↦ absurd (false≢true (sym e
              ∙ eq-eqb id.0 r.id.0 (sym xid ∙ ap (λ (q : Record). q.id.0) same)))
          | inr (d, is) ↦ ap is_undoable (other_state w law clock r h active x is)
        ]),
      )

  -- and what they had before the session, if it takes one back
  pub restore_after : (id : SessionId) (name key : List ℕ) → pre_restore_row (world_of after) id name key
      ≡ cond (eqb id.0 r.id.0) None (pre_restore_row w id name key)
  restore_after id name key =
      by_answer (eqb id.0 r.id.0)
      (λ e. restore_gone w g same_ids likes clock w.failures id name key (undone_gone id e)
      ∙ ap (λ b. cond b None (pre_restore_row w id name key)) (sym e))
      (λ e. restore_same w g same_ids likes clock w.failures id name key (restored_same id e)
      ∙ ap (λ b. cond b None (pre_restore_row w id name key)) (sym e))
