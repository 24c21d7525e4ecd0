-- The rows after Ready. Callers want `ready_rows`.
use Rattle.apex_base.specs.declared.records.Kind.TheVariants.{RollbackOf}
use Rattle.std.proofs.Common.{◌≡◌, ℕ, true, List, map, Some}
use Rattle.std.proofs.Common.{sym, ap, subst, ◌∙◌, refl, inl, inr}
use Rattle.std.proofs.Common.{◌≢◌, ◌⊎◌}
use Rattle.std.proofs.lemmas.Bool.{false≢true}
use Rattle.apex_base.specs.declared.moves.Move.TheVariants as step_of
use Rattle.apex_base.specs.declared.numbers.SessionId.{SessionId}
use Rattle.apex_base.specs.declared.records.Record.{Record}
use Rattle.apex_base.specs.declared.records.State.{State}
use Rattle.apex_base.specs.declared.records.State.TheVariants as state
use Rattle.apex_base.specs.declared.records.Target.{Target}
use Rattle.apex_base.specs.declared.records.Target.TheVariants as targets
use Rattle.apex_base.specs.Commit.{rollback_id}
use Rattle.apex_base.specs.Held.{is_unfinished, kept, is_target}
use Rattle.apex_base.specs.Held.{is_standing, is_undoable, before}
use Rattle.apex_base.specs.Keys.{Key, Boots, RecordOf, ActiveOf, BackupOf, FileOf, DataOf, SnapshotOf, PreRestoreOf}
use Rattle.apex_base.specs.Keys.{WatchOf}
use Rattle.apex_base.specs.Members.{In}
use Rattle.apex_base.specs.Moves.{moved}
use Rattle.apex_base.specs.Rollbacks.{is_committed}
use Rattle.apex_base.specs.Sessions.{session_of, with_session}
use Rattle.apex_base.proofs.MemberLemmas.{in_map}
use Rattle.apex_base.proofs.SessionLemmas.{of_found}
use Rattle.apex_world.specs.Advance.{move_to, move_found, ready}
use Rattle.apex_world.specs.Lawful.{Lawful, is_verified}
use Rattle.apex_world.specs.Rows.{has_snapshot, file_row}
use Rattle.apex_world.specs.Rows.{snapshot_row, row_at}
use Rattle.world_laws.specs.RowsMoved.{ready_row}
use Rattle.apex_world.specs.World.{World}
use Rattle.world_laws.proofs.alike.AlikeAfter.{IsLike, target_in, in_target}
use Rattle.world_laws.proofs.rows.CallsSettle.{move_no_more}
use Rattle.world_facts.proofs.facts.KeptLemmas.{Own, kept_back, keeps}
use Rattle.world_laws.proofs.alike.MovesAlike.{IsEarlyMove, ready_early}
use Rattle.world_laws.proofs.runs.SessionMaps.{put_for}
use Rattle.world_laws.proofs.rows.SettledRows.{KeepsNoMore, was_target}
use Rattle.world_laws.proofs.rows.TurnedLists.{active_same, backup_same}
use Rattle.world_laws.proofs.rows.TurnedLists.{restores_same}
use Rattle.world_laws.proofs.rows.TurnedRows.{file_row_same, snapshot_same}
use Rattle.world_laws.proofs.rows.TurnedRows.{restore_same}
use Rattle.world_laws.proofs.rows.MovedRows.{as_map, ids, either, like, standing, undoable, before_is, keeps_on, own_other}
use Rattle.world_laws.proofs.rows.MovedRows.{record_after, has_else, taken, tests_agree}
use Rattle.world_facts.proofs.facts.WorldRows.{same_id}
use Rattle.apex_base.specs.Settled.{active_of, backup_of}
use Rattle.apex_world.specs.Rows.{pre_restore_row}

module _ (w : World) (law : Lawful w) (r : Record) (h : In r w.sessions) (verified : r.state ≡ state.Verified) where
  may_move : moved r.state step_of.Ready ≡ Some state.Staged
  may_move = ap (λ (s : State). moved s step_of.Ready) verified

  early : IsEarlyMove r.state state.Staged
  early = ready_early r.state state.Staged may_move

  abbrev ss : List Record
  ss = w.sessions

  abbrev r' : Record
  r' = record r { state = state.Staged; rollback = r.rollback }

  abbrev g : Record → Record
  g = put_for (record r { state = state.Staged; rollback = r.rollback }) (λ x. x)

  abbrev after : List Record
  after = map (put_for (record r { state = state.Staged; rollback = r.rollback }) (λ x. x)) w.sessions

  abbrev world_of : List Record → World
  world_of zs = record w { sessions = zs; clock = w.clock; failures = w.failures }

  is_map : with_session r' ss ≡ after
  is_map = as_map w law r h state.Staged r.rollback early

  likes : (x : Record) → In x ss → IsLike x (g x)
  likes = like w law r h state.Staged r.rollback early

  same_ids : (x : Record) → (g x).id ≡ x.id
  same_ids = ids w law r h state.Staged r.rollback early

  from : (x : Record) → In x ss → ((x ≡ r) × (g x ≡ r')) ⊎ ((x.id.0 ≢ r.id.0) × (g x ≡ x))
  from = either w law r h state.Staged r.rollback early

  stands : (x : Record) → In x ss → is_standing (g x).state ≡ is_standing x.state
  stands = standing w law r h state.Staged r.rollback early

  undoes_same : (x : Record) → In x ss → is_undoable (g x).state ≡ is_undoable x.state
  undoes_same = undoable w law r h state.Staged r.rollback early

  before_same : (x : Record) (name : List ℕ) → In x ss → before after (g x) name ≡ before ss x name
  before_same = before_is w law r h state.Staged r.rollback early

  takes : (x z : Record) → In x ss → is_committed x.rollback ≡ true → session_of ss (rollback_id x.id) ≡ Some z → z ≡ r
      → r.kind ≡ RollbackOf x.id
  takes = taken w law r h state.Staged r.rollback early

  less : KeepsNoMore ss after
  less = subst (KeepsNoMore ss) is_map
      (move_no_more w law step_of.Ready ready_early (λ o e. e) r state.Staged h may_move)

  -- what was kept still is
  still_kept : (y : Target) → In y (kept ss) → In y (kept after)
  still_kept y k =
      let (x, p, i, j, way) = kept_back ss y k in
      elim (keeps_on w law r h state.Staged r.rollback early ⊥ x p y i j way (λ u e.
      elim (from x i) [
        | inl (same, is) ↦ inr (keeps after (g x) p y (in_map g x ss i) (subst (In p) (sym (likes x i).parts) j)
            (Own (ap (λ (q : Record). is_unfinished q.state) is) e))
        | inr (d, is) ↦ inr (own_other w law r h state.Staged r.rollback early x p y i j d u e)
      ])) [
        | inl none ↦ absurd none
        | inr there ↦ there
      ]

  target_same : (session : SessionId) (part : ℕ)
      → is_target (kept after) session part ≡ is_target (kept ss) session part
  target_same session part =
      tests_agree (is_target (kept after) session part) (is_target (kept ss) session part)
      (was_target w law after less w.clock w.failures session part) (λ e.
      let (version, k) = target_in (kept ss) session part e in
      in_target (kept after) session part version (still_kept (targets.Module session part version) k))

  -- it takes no session back that may be rolled back
  not_taking : (x z : Record) → In x ss → is_committed x.rollback ≡ true → session_of ss (rollback_id x.id) ≡ Some z
      → z ≡ r → ⊥
  not_taking x z i c found one =
      let (q, f, back) = law.undone.back r x.id h (takes x z i c found one) in
      false≢true (sym back.begun ∙ ap is_verified verified)

  past_same : (id : SessionId) (x : Record) → session_of ss id ≡ Some x
      → In x ss × (has_snapshot after (g x) ≡ has_snapshot ss x)
  past_same id x f =
      let (i, e) = of_found ss id x f in
      has_else w law r h state.Staged r.rollback early x (ap (session_of ss) (same_id x.id id e) ∙ f)
      (λ z c found one. not_taking x z i c found one)

  ready_at : (k : Key) → row_at (world_of (with_session r' ss)) k ≡ ready_row w r k
  ready_at Boots = refl
  ready_at (RecordOf id) = record_after w law r h state.Staged r.rollback early id
  ready_at (ActiveOf name) = subst (λ zs. active_of zs name ≡ active_of ss name) (sym is_map)
      (active_same ss g likes name (stands))
  ready_at (BackupOf name) = subst (λ zs. backup_of zs name ≡ backup_of ss name) (sym is_map)
      (backup_same ss g likes name (λ x i n. undoes_same x i) (λ x i n. before_same x name i))
  ready_at (FileOf session part path) =
      subst (λ zs. file_row (world_of zs) session part path ≡ file_row w session part path) (sym is_map)
      (file_row_same w g same_ids likes w.clock w.failures session part path (target_same session part))
  ready_at (DataOf name key) = refl
  ready_at (SnapshotOf id name key) =
      subst (λ zs. snapshot_row (world_of zs) id name key ≡ snapshot_row w id name key) (sym is_map)
      (snapshot_same w g same_ids likes w.clock w.failures id name key (past_same id))
  ready_at (PreRestoreOf id name key) =
      subst (λ zs. pre_restore_row (world_of zs) id name key ≡ pre_restore_row w id name key) (sym is_map)
      (restore_same w g same_ids likes w.clock w.failures id name key (λ x f.
      let (i, e) = of_found ss id x f in
      (i, restores_same ss g likes x i (undoes_same x i))))
  ready_at (WatchOf observer name) = refl

-- Ready changes the session's record alone
pub ready_rows : (w : World) → Lawful w → (id : SessionId) (r : Record) → session_of w.sessions id ≡ Some r
    → r.state ≡ state.Verified → (k : Key) → row_at (ready w id).world k ≡ ready_row w r k
ready_rows w law id r f verified k =
    ap (λ o. row_at (move_found w w.clock id step_of.Ready o).world k) f
    ∙ ap (λ o. row_at (move_to w w.clock r step_of.Ready o).world k)
    (may_move w law r (of_found w.sessions id r f).0 verified)
    ∙ ready_at w law r (of_found w.sessions id r f).0 verified k
