-- The rows after Abort. Callers want `abort_rows`.
use Rattle.std.proofs.Common.{◌≡◌, ◌⊎◌, ℕ, ◌+◌, true, false, cond, eqb, ◌&&◌, List, map, Option, Some, None}
use Rattle.std.proofs.Common.{sym, ap, subst, ◌∙◌, refl, inl, inr, arith}
use Rattle.std.proofs.Common.{◌≢◌}
use Rattle.std.specs.Prelude.{not}
use Rattle.std.specs.Option.{option_map}
use Rattle.std.proofs.lemmas.Bool.{false≢true, and_right, eqb-true, eq-eqb}
use Rattle.apex_base.specs.declared.moves.Move.TheVariants as step_of
use Rattle.apex_base.specs.declared.numbers.SessionId.{SessionId}
use Rattle.apex_base.specs.declared.records.Kind.{Kind}
use Rattle.apex_base.specs.declared.records.Kind.TheVariants.{Plain, WithRollback, RollbackOf}
use Rattle.apex_base.specs.declared.records.Part.{Part}
use Rattle.apex_base.specs.declared.records.Record.{Record}
use Rattle.apex_base.specs.declared.records.RollbackState.{RollbackState}
use Rattle.apex_base.specs.declared.records.RollbackState.TheVariants.{Enabling, Available, Committed, Deleted}
use Rattle.apex_base.specs.declared.records.State.{State}
use Rattle.apex_base.specs.declared.records.State.TheVariants as state
use Rattle.apex_base.specs.declared.records.Target.{Target}
use Rattle.apex_base.specs.declared.records.Target.TheVariants as targets
use Rattle.apex_base.specs.Commit.{rollback_id, rolls_back, is_waiting}
use Rattle.apex_base.specs.Held.{kept, is_target, is_staged}
use Rattle.apex_base.specs.Held.{is_standing, is_undoable, before}
use Rattle.apex_base.specs.Keys.{Key, Boots, RecordOf, ActiveOf, BackupOf, FileOf, DataOf, SnapshotOf, PreRestoreOf}
use Rattle.apex_base.specs.Keys.{WatchOf}
use Rattle.apex_base.specs.Members.{In}
use Rattle.apex_base.specs.Moves.{moved, rollback_after}
use Rattle.apex_base.specs.Rollbacks.{is_committed}
use Rattle.apex_base.specs.Sessions.{session_of, with_session}
use Rattle.apex_base.proofs.MemberLemmas.{in_map}
use Rattle.apex_base.proofs.SessionLemmas.{of_found, of_in}
use Rattle.apex_world.specs.Advance.{move_to, move_found, abort}
use Rattle.apex_world.specs.Lawful.{Lawful}
use Rattle.apex_world.specs.Rows.{is_staged_session, may_happen, has_snapshot, file_row}
use Rattle.apex_world.specs.Rows.{snapshot_row, row_at}
use Rattle.world_laws.specs.RowsMoved.{abort_row, has_target, takes_back, freed}
use Rattle.apex_world.specs.World.{World}
use Rattle.world_laws.proofs.alike.AlikeAfter.{IsLike, target_in, in_target}
use Rattle.world_laws.proofs.rows.CallsSettle.{move_no_more}
use Rattle.world_facts.proofs.facts.KeptLemmas.{kept_back}
use Rattle.world_laws.proofs.alike.MovesAlike.{IsEarlyMove, abort_early, abort_available}
use Rattle.world_laws.proofs.runs.SessionMaps.{put_for}
use Rattle.world_laws.proofs.rows.SettledRows.{KeepsNoMore, was_target}
use Rattle.world_laws.proofs.rows.TurnedLists.{by_answer, active_same, backup_same}
use Rattle.world_laws.proofs.rows.TurnedLists.{restores_same}
use Rattle.world_laws.proofs.rows.TurnedRows.{snapshot_same}
use Rattle.world_laws.proofs.rows.TurnedRows.{restore_same, snapshot_gone}
use Rattle.world_laws.proofs.rows.MovedRows.{as_map, ids, either, like, put_self, standing, undoable, before_is}
use Rattle.world_laws.proofs.rows.MovedRows.{keeps_on, own_other}
use Rattle.world_laws.proofs.rows.MovedRows.{record_after, has_else, taken, put_other}
use Rattle.world_facts.proofs.facts.WorldRows.{same_id}
use Rattle.world_laws.proofs.rows.FreedRows.{freed_row}
use Rattle.world_laws.proofs.rows.TurnedLists.{found_after}
use Rattle.apex_base.specs.Settled.{active_of, backup_of}
use Rattle.apex_world.specs.Rows.{pre_restore_row}

back_to : (k : Kind) (id : SessionId) → takes_back k id ≡ true → (x : SessionId) × (k ≡ RollbackOf x) × (x.0 ≡ id.0)
back_to Plain id e = absurd (cc)
back_to WithRollback id e = absurd (cc)
back_to (RollbackOf x) id e = (x, refl, eqb-true x.0 id.0 e)

committed_is : (o : Option RollbackState) → is_committed o ≡ true → o ≡ Some Committed
committed_is None e = absurd (cc)
committed_is (Some Enabling) e = absurd (cc)
committed_is (Some Available) e = absurd (cc)
committed_is (Some Committed) e = refl
committed_is (Some Deleted) e = absurd (cc)

abort_moves : (s : State) → is_waiting s ≡ true → moved s step_of.Abort ≡ Some state.Aborted
abort_moves state.Verified e = refl
abort_moves state.Staged e = refl
abort_moves state.Activated e = absurd (cc)
abort_moves state.ActivationFailed e = absurd (cc)
abort_moves state.Success e = absurd (cc)
abort_moves state.RevertInProgress e = absurd (cc)
abort_moves state.Reverted e = absurd (cc)
abort_moves state.Aborted e = absurd (cc)

module _ (w : World) (law : Lawful w) (r : Record) (h : In r w.sessions) (waits : is_waiting r.state ≡ true) where
  may_move : moved r.state step_of.Abort ≡ Some state.Aborted
  may_move = abort_moves r.state waits

  early : IsEarlyMove r.state state.Aborted
  early = abort_early r.state state.Aborted may_move

  abbrev ss : List Record
  ss = w.sessions

  abbrev r' : Record
  r' = record r { state = state.Aborted; rollback = rollback_after step_of.Abort r.rollback }

  abbrev g : Record → Record
  g = put_for (record r { state = state.Aborted; rollback = rollback_after step_of.Abort r.rollback }) (λ x. x)

  abbrev after : List Record
  after =
      map (put_for (record r { state = state.Aborted; rollback = rollback_after step_of.Abort r.rollback }) (λ x. x))
      w.sessions

  abbrev world_of : List Record → World
  world_of zs = record w { sessions = zs; clock = w.clock; failures = w.failures }

  is_map : with_session r' ss ≡ after
  is_map = as_map w law r h state.Aborted (rollback_after step_of.Abort r.rollback) early

  likes : (x : Record) → In x ss → IsLike x (g x)
  likes = like w law r h state.Aborted (rollback_after step_of.Abort r.rollback) early

  same_ids : (x : Record) → (g x).id ≡ x.id
  same_ids = ids w law r h state.Aborted (rollback_after step_of.Abort r.rollback) early

  from : (x : Record) → In x ss → ((x ≡ r) × (g x ≡ r')) ⊎ ((x.id.0 ≢ r.id.0) × (g x ≡ x))
  from = either w law r h state.Aborted (rollback_after step_of.Abort r.rollback) early

  stands : (x : Record) → In x ss → is_standing (g x).state ≡ is_standing x.state
  stands = standing w law r h state.Aborted (rollback_after step_of.Abort r.rollback) early

  undoes_same : (x : Record) → In x ss → is_undoable (g x).state ≡ is_undoable x.state
  undoes_same = undoable w law r h state.Aborted (rollback_after step_of.Abort r.rollback) early

  before_same : (x : Record) (name : List ℕ) → In x ss → before after (g x) name ≡ before ss x name
  before_same = before_is w law r h state.Aborted (rollback_after step_of.Abort r.rollback) early

  takes : (x z : Record) → In x ss → is_committed x.rollback ≡ true → session_of ss (rollback_id x.id) ≡ Some z → z ≡ r
      → r.kind ≡ RollbackOf x.id
  takes = taken w law r h state.Aborted (rollback_after step_of.Abort r.rollback) early

  less : KeepsNoMore ss after
  less = subst (KeepsNoMore ss) is_map
      (move_no_more w law step_of.Abort abort_early abort_available r state.Aborted h may_move)

  -- Files

  abbrev own_targets : List Target
  own_targets = map (λ (p : Part). p.target) r.parts

  -- what was kept still is, or is a target of the session
  still_kept : (y : Target) → In y (kept ss) → In y own_targets ⊎ In y (kept after)
  still_kept y k =
      let (x, p, i, j, way) = kept_back ss y k in
      keeps_on w law r h state.Aborted (rollback_after step_of.Abort r.rollback) early (In y own_targets) x p y i j way
      (λ u e.
      elim (from x i) [
        | inl (same, is) ↦ inl (subst (λ (y : Target). In y own_targets) (sym e)
            (in_map (λ (p : Part). p.target) p r.parts (subst (λ (q : Record). In p q.parts) same j)))
        | inr (d, is) ↦ inr (own_other w law r h state.Aborted (rollback_after step_of.Abort r.rollback) early x p y
            i j d u e)
      ])

  still_target : (session : SessionId) (part : ℕ) → is_target (kept ss) session part ≡ true
      → (has_target r session part ≡ true) ⊎ (is_target (kept after) session part ≡ true)
  still_target session part e =
      let (version, k) = target_in (kept ss) session part e in
      elim (still_kept (targets.Module session part version) k) [
        | inl i ↦ inl (in_target own_targets session part version i)
        | inr i ↦ inr (in_target (kept after) session part version i)
      ]

  file_after : (session : SessionId) (part : ℕ) (path : List ℕ)
      → file_row (world_of after) session part path
      ≡ freed (has_target r session part) after session part (file_row w session part path)
  file_after session part path =
      freed_row w after w.clock w.failures (has_target r session part) session part path
      (was_target w law after less w.clock w.failures session part) (still_target session part)

  -- The past

  -- the session that it takes back may be rolled back no more
  taken_gone : (id : SessionId) → takes_back r.kind id ≡ true → (x : Record) → session_of ss id ≡ Some x
      → has_snapshot after (g x) ≡ false
  taken_gone id e x f =
      let (y, kind, same) = back_to r.kind id e in
      let (z, found, back) = law.undone.back r y h kind in
      let one : z ≡ x = cc (found, ap (session_of ss) (same_id y id same) ∙ f) in
      let (i, xid) = of_found ss id x f in
      let rid : r.id ≡ rollback_id x.id = back.id ∙ ap (λ (z : Record). rollback_id z.id) one in
      let number : r.id.0 ≡ x.id.0 + 1073741824 = ap (λ (i : SessionId). i.0) rid in
      let is : g x ≡ x = put_other r' (λ x. x) x (λ d. omega (arith, d, number)) in
      let committed : x.rollback ≡ Some Committed =
      committed_is x.rollback (ap (λ (z : Record). is_committed z.rollback) (sym one) ∙ back.committed) in
      let there : session_of after (rollback_id x.id) ≡ Some (g r) =
      ap (session_of after) (sym rid) ∙ found_after ss g likes same_ids r.id
      ∙ ap (option_map g) (of_in ss r law.ids.ascend h) in
      let moved_to : g r ≡ r' = put_self r' (λ x. x) r refl in
      let not_staged : is_staged_session (session_of after (rollback_id x.id)) ≡ false =
      ap is_staged_session there ∙ ap (λ (q : Record). is_staged q.state) moved_to in
      let never : may_happen after (g x).id (g x).rollback ≡ false =
      ap (λ (q : Record). may_happen after q.id q.rollback) is ∙ ap (may_happen after x.id) committed ∙ not_staged in
      and_right (rolls_back (g x).kind && not (eqb (g x).activation 0)) (may_happen after (g x).id (g x).rollback) never

  past_same : (id : SessionId) → takes_back r.kind id ≡ false → (x : Record) → session_of ss id ≡ Some x
      → In x ss × (has_snapshot after (g x) ≡ has_snapshot ss x)
  past_same id none x f =
      let (i, e) = of_found ss id x f in
      has_else w law r h state.Aborted (rollback_after step_of.Abort r.rollback) early x
      (ap (session_of ss) (same_id x.id id e) ∙ f)
      (λ z c found one. false≢true (sym none ∙ ap (λ (k : Kind). takes_back k id) (takes x z i c found one)
      ∙ eq-eqb x.id.0 id.0 e))

  snapshot_after : (id : SessionId) (name key : List ℕ) → snapshot_row (world_of after) id name key
      ≡ cond (takes_back r.kind id) None (snapshot_row w id name key)
  snapshot_after id name key =
      by_answer (takes_back r.kind id)
      (λ e. snapshot_gone w g same_ids likes w.clock w.failures id name key (taken_gone id e)
      ∙ ap (λ b. cond b None (snapshot_row w id name key)) (sym e))
      (λ e. snapshot_same w g same_ids likes w.clock w.failures id name key (past_same id e)
      ∙ ap (λ b. cond b None (snapshot_row w id name key)) (sym e))

  abort_at : (k : Key) → row_at (world_of (with_session r' ss)) k ≡ abort_row w r k
  abort_at Boots = refl
  abort_at (RecordOf id) = record_after w law r h state.Aborted (rollback_after step_of.Abort r.rollback) early id
  abort_at (ActiveOf name) = subst (λ zs. active_of zs name ≡ active_of ss name) (sym is_map)
      (active_same ss g likes name (stands))
  abort_at (BackupOf name) = subst (λ zs. backup_of zs name ≡ backup_of ss name) (sym is_map)
      (backup_same ss g likes name (λ x i n. undoes_same x i) (λ x i n. before_same x name i))
  abort_at (FileOf session part path) =
      subst (λ zs. file_row (world_of zs) session part path
      ≡ freed (has_target r session part) zs session part (file_row w session part path)) (sym is_map)
      (file_after session part path)
  abort_at (DataOf name key) = refl
  abort_at (SnapshotOf id name key) =
      subst (λ zs. snapshot_row (world_of zs) id name key
      ≡ cond (takes_back r.kind id) None (snapshot_row w id name key)) (sym is_map) (snapshot_after id name key)
  abort_at (PreRestoreOf id name key) =
      subst (λ zs. pre_restore_row (world_of zs) id name key ≡ pre_restore_row w id name key) (sym is_map)
      (restore_same w g same_ids likes w.clock w.failures id name key (λ x f.
      let (i, e) = of_found ss id x f in
      (i, restores_same ss g likes x i (undoes_same x i))))
  abort_at (WatchOf observer name) = refl

-- what Abort changes
pub abort_rows : (w : World) → Lawful w → (id : SessionId) (r : Record) → session_of w.sessions id ≡ Some r
    → is_waiting r.state ≡ true → (k : Key) → row_at (abort w id).world k ≡ abort_row w r k
abort_rows w law id r f waits k =
    ap (λ o. row_at (move_found w w.clock id step_of.Abort o).world k) f
    ∙ ap (λ o. row_at (move_to w w.clock r step_of.Abort o).world k)
    (may_move w law r (of_found w.sessions id r f).0 waits)
    ∙ abort_at w law r (of_found w.sessions id r f).0 waits k
