-- What sessions keep after a boot, its boot loop among it, they kept before it, but for what it puts by. Callers want
-- `boot_keeps`.
use Rattle.std.proofs.Common.{◌≡◌, ◌⊎◌, Bool, true, false, eqb, ◌&&◌, List, Option, Some, None}
use Rattle.std.proofs.Common.{sym, ap, subst, ◌∙◌, refl, inl, inr, if◌then◌else◌}
use Rattle.std.specs.Prelude.{not}
use Rattle.std.proofs.lemmas.Bool.{and_parts, and_from}
use Rattle.apex_base.specs.declared.numbers.SessionId.{SessionId}
use Rattle.apex_base.specs.declared.records.Record.{Record}
use Rattle.apex_base.specs.declared.records.RollbackState.{RollbackState}
use Rattle.apex_base.specs.declared.records.RollbackState.TheVariants.{Enabling, Available, Committed, Deleted}
use Rattle.apex_base.specs.Commit.{rollback_id, rolls_back, undoes}
use Rattle.apex_base.specs.Held.{is_undoable, is_staged}
use Rattle.apex_base.specs.Rollbacks.{is_enabling, is_eligible}
use Rattle.apex_base.specs.Sessions.{session_of}
use Rattle.apex_base.specs.Windows.{is_looping}
use Rattle.apex_world.specs.declared.calls.BootOrder.{BootOrder}
use Rattle.apex_world.specs.Boot.{started, boot_world, after_loop, loop_trigger}
use Rattle.world_laws.specs.Invariance.{IsOrderOf}
use Rattle.apex_world.specs.Lawful.{Lawful}
use Rattle.apex_world.specs.Rows.{is_staged_session, may_happen, has_snapshot, has_pre_restore}
use Rattle.apex_world.specs.Selection.{Mounts}
use Rattle.apex_world.specs.World.{World}
use Rattle.world_laws.proofs.alike.BootFades.{turn_staged}
use Rattle.world_laws.proofs.runs.BootLaws.{number, turn, after, keeps, way, cause_for, found_map}
use Rattle.world_laws.proofs.runs.BootModules.{kept_before}
use Rattle.world_laws.proofs.meaning.BootRollbacks.{settles}
use Rattle.world_laws.proofs.meaning.RollbackStates.{Settles}
use Rattle.world_laws.proofs.runs.BootRuns.{started_running}
use Rattle.world_laws.proofs.runs.BootTurned.{turned_activation, turned_undoable}
use Rattle.world_laws.proofs.rows.CommitKeeps.{triggered_keeps}
use Rattle.world_laws.proofs.rows.KeptRows.{Was, KeepsPast, KeepsRows, keeps_on}
use Rattle.world_laws.proofs.alike.StagedSome.{staged_some}
use Rattle.world_laws.proofs.alike.MayHappen.{available_may}

may_enabling : (ss : List Record) (id : SessionId) (o : Option RollbackState) → is_enabling o ≡ true
    → may_happen ss id o ≡ true
may_enabling ss id None e = absurd (cc)
may_enabling ss id (Some Enabling) e = refl
may_enabling ss id (Some Available) e = absurd (cc)
may_enabling ss id (Some Committed) e = absurd (cc)
may_enabling ss id (Some Deleted) e = absurd (cc)

module _ (w : World) (law : Lawful w) (order : BootOrder) (mounts : Mounts) where
  abbrev steps : List Record
  steps = after w law order mounts

  -- no session that a boot has looked at is ready
  none_ready : (id : SessionId) → is_staged_session (session_of steps id) ≡ true → ⊥
  none_ready id e =
      let (z, found, staged) = staged_some (session_of steps id) e in
      let (r, was, is) = found_map (turn w law order mounts) w.sessions (keeps w law order mounts) id z found in
      turn_staged (cause_for w law order mounts r) (number w law order mounts) r (turn w law order mounts r)
      (way w law order mounts r) (ap (λ (z : Record). is_staged z.state) is ∙ staged)

  -- a rollback that may happen after the boot might happen before it
  may_before : (id id' : SessionId) (o p : Option RollbackState) → Settles o p → may_happen steps id p ≡ true
      → may_happen w.sessions id' o ≡ true
  may_before id id' o None s m = absurd (cc)
  may_before id id' o (Some Enabling) s m = may_enabling w.sessions id' o (s.enabling refl)
  may_before id id' o (Some Available) s m = available_may w.sessions id' o (s.available refl)
  may_before id id' o (Some Committed) s m = absurd (none_ready (rollback_id id) m)
  may_before id id' o (Some Deleted) s m = absurd (cc)

  snapshot_before : (r : Record) → (turn w law order mounts r).activation ≡ r.activation
      → has_snapshot steps (turn w law order mounts r) ≡ true → has_snapshot w.sessions r ≡ true
  snapshot_before r same e =
      let s = turn w law order mounts r in
      let l = keeps w law order mounts r in
      let (first, m) = and_parts (rolls_back s.kind && not (eqb s.activation 0)) (may_happen steps s.id s.rollback) e in
      and_from (rolls_back r.kind && not (eqb r.activation 0)) (may_happen w.sessions r.id r.rollback)
      (ap (λ n. rolls_back r.kind && not (eqb n 0)) (sym same)
      ∙ ap (λ k. rolls_back k && not (eqb s.activation 0)) (sym l.kind) ∙ first)
      (may_before s.id r.id r.rollback s.rollback (settles mounts w.modules order (number w law order mounts) r) m)

  was_if : (test : Record → Bool) (id : SessionId) (r : Record) → session_of w.sessions id ≡ Some r
      → (turn w law order mounts r).activation ≡ r.activation → test r ≡ true
      → Was w.sessions test id (turn w law order mounts r)
  was_if test id r found same passes = record {
    old = r;
    found = found;
    parts = (keeps w law order mounts r).parts;
    activation = same;
    passes = passes;
  }

  abbrev Past : (Record → Bool) → SessionId → Record → Type 0
  Past test id s = (s.activation ≡ number w law order mounts) ⊎ Was w.sessions test id s

  snapshot_of : (id : SessionId) (r : Record) → session_of w.sessions id ≡ Some r
      → has_snapshot steps (turn w law order mounts r) ≡ true
      → Past (has_snapshot w.sessions) id (turn w law order mounts r)
  snapshot_of id r found e =
      elim (turned_activation (cause_for w law order mounts r) (number w law order mounts) r (turn w law order mounts r)
      (way w law order mounts r)) [
        | inr (now, u) ↦ inl now
        | inl same ↦ inr (was_if (has_snapshot w.sessions) id r found same (snapshot_before r same e))
      ]

  pre_restore_of : (id : SessionId) (r : Record) → session_of w.sessions id ≡ Some r
      → has_pre_restore (turn w law order mounts r) ≡ true → Past has_pre_restore id (turn w law order mounts r)
  pre_restore_of id r found e =
      let s = turn w law order mounts r in
      let (kind, u) = and_parts (undoes s.kind) (is_undoable s.state) e in
      elim (turned_undoable (cause_for w law order mounts r) (number w law order mounts) r s u
      (way w law order mounts r)) [
        | inl now ↦ inl now
        | inr (undoable, same) ↦ inr (was_if has_pre_restore id r found same
            (and_from (undoes r.kind) (is_undoable r.state)
            (ap undoes (sym (keeps w law order mounts r).kind) ∙ kind) undoable))
      ]

  past_of : (test test' : Record → Bool)
      → ((id : SessionId) (r : Record) → session_of w.sessions id ≡ Some r → test' (turn w law order mounts r) ≡ true
      → Past test id (turn w law order mounts r)) → KeepsPast (number w law order mounts) w.sessions steps test test'
  past_of test test' one id s found passes =
      let (r, was, is) = found_map (turn w law order mounts) w.sessions (keeps w law order mounts) id s found in
      subst (Past test id) is (one id r was (ap test' is ∙ passes))

  -- what a boot makes of sessions keeps what was kept
  pub started_keeps : KeepsRows (number w law order mounts) w.sessions steps
  started_keeps = record {
    modules = kept_before w law order mounts;
    snapshots = past_of (has_snapshot w.sessions) (has_snapshot steps) snapshot_of;
    pre_restores = past_of has_pre_restore has_pre_restore pre_restore_of;
  }

  module _ (o : IsOrderOf w order) where
    abbrev v : World
    v = started w order mounts

    -- and so do the commits of a boot loop
    pub loop_keeps : (b : Bool)
        → KeepsRows (number w law order mounts) w.sessions
        (after_loop v (if b then Some (loop_trigger order v.sessions) else None)).sessions
    loop_keeps true =
        keeps_on (number w law order mounts) w.sessions v.sessions (loop_trigger order v.sessions).sessions
        started_keeps
        (triggered_keeps (number w law order mounts) (is_eligible v.sessions) v
        (started_running w law order o mounts) (λ x e. e) order.observers)
    loop_keeps false = started_keeps

    -- after a boot sessions keep what they kept before it, and what it put by
    pub boot_keeps : KeepsRows (number w law order mounts) w.sessions (boot_world w order mounts).sessions
    boot_keeps = loop_keeps (is_looping order.time v.moments)
