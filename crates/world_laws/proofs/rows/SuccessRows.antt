-- The rows after Success. Callers want `success_rows`.
use Rattle.std.proofs.Common.{◌≡◌, ℕ, Bool, true, false, cond, eqb, List, [], map, find, max, Option}
use Rattle.std.proofs.Common.{Some, None, sym, ap, subst, ◌∙◌, refl, inl, inr}
use Rattle.std.specs.Option.{option_map}
use Rattle.std.proofs.lemmas.Bool.{false≢true, and_parts, eqb-true, eq-eqb}
use Rattle.apex_base.specs.declared.moves.Move.TheVariants as step_of
use Rattle.apex_base.specs.declared.numbers.SessionId.{SessionId}
use Rattle.apex_base.specs.declared.records.Record.{Record}
use Rattle.apex_base.specs.declared.records.State.{State}
use Rattle.apex_base.specs.declared.records.State.TheVariants as state
use Rattle.apex_base.specs.Held.{is_undoable, is_success, before}
use Rattle.apex_base.specs.Keys.{Key, Boots, RecordOf, ActiveOf, BackupOf, FileOf, DataOf, SnapshotOf, PreRestoreOf}
use Rattle.apex_base.specs.Keys.{WatchOf}
use Rattle.apex_base.specs.Members.{In}
use Rattle.apex_base.specs.Moves.{moved}
use Rattle.apex_base.specs.Sessions.{names, session_of}
use Rattle.apex_base.specs.Settled.{active_of, is_undoable_for, backup_of}
use Rattle.apex_base.specs.Spelling.{record_text, target_text}
use Rattle.apex_base.proofs.Finding.{found}
use Rattle.apex_base.proofs.MemberLemmas.{in_map_back}
use Rattle.apex_base.proofs.SessionLemmas.{of_found, of_in}
use Rattle.apex_world.specs.Advance.{succeeding, outdated_by, after_success, success_to, success_found, success}
use Rattle.apex_world.specs.Lawful.{Lawful}
use Rattle.apex_world.specs.Rows.{record_row, file_row}
use Rattle.apex_world.specs.Rows.{snapshot_row, pre_restore_row, row_at}
use Rattle.world_laws.specs.RowsAfter.{passes}
use Rattle.world_laws.specs.RowsMoved.{freed, outdates, gives_up_file, outdated_text, success_row}
use Rattle.apex_world.specs.Stepped.{Stepped}
use Rattle.apex_world.specs.World.{World}
use Rattle.world_laws.proofs.alike.AlikeAfter.{IsLike, names_same}
use Rattle.world_laws.proofs.rows.CallsSettle.{success_no_more}
use Rattle.world_laws.proofs.rows.FreedRows.{freed_row}
use Rattle.world_laws.proofs.runs.SessionMaps.{put_for}
use Rattle.world_laws.proofs.rows.SettledRows.{KeepsNoMore, was_target}
use Rattle.world_laws.proofs.rows.SucceededSessions.{not_outdated, as_map, ids, either, like, now_is, other_state, standing}
use Rattle.world_laws.proofs.rows.SucceededSessions.{none_beside, before_is}
use Rattle.world_laws.proofs.rows.SuccessKept.{still_target}
use Rattle.world_laws.proofs.rows.SuccessPast.{is_outdated, snapshot_after, restore_after}
use Rattle.world_laws.proofs.rows.TurnedLists.{by_answer, active_same, backup_same, found_after}
use Rattle.world_facts.proofs.facts.WorldRows.{same_id}
use Rattle.world_facts.proofs.facts.StateFacts.{undoable_unfinished}

find_none : {X : Type 0} (test : X → Bool) (xs : List X) (o : Option X) → find test xs ≡ o
    → ((x : X) → In x xs → test x ≡ true → ⊥) → o ≡ None
find_none test xs None e none = refl
find_none test xs (Some x) e none = let (h, t) = found test xs x e in absurd (none x h t)

module _ (w : World) (law : Lawful w) (clock : ℕ) (r : Record) (h : In r w.sessions)
    (active : r.state ≡ state.Activated) where
  abbrev ss : List Record
  ss = w.sessions

  abbrev now : Record
  now = succeeding clock r

  abbrev g : Record → Record
  g = put_for (succeeding clock r) (outdated_by r)

  abbrev after : List Record
  after = map (put_for (succeeding clock r) (outdated_by r)) w.sessions

  abbrev world_of : List Record → World
  world_of zs = record w { sessions = zs; clock = clock; failures = w.failures }

  is_map : after_success clock r ss ≡ after
  is_map = as_map w law clock r h active

  likes : (x : Record) → In x ss → IsLike x (g x)
  likes = like w law clock r h active

  same_ids : (x : Record) → (g x).id ≡ x.id
  same_ids = ids w law clock r h active

  less : KeepsNoMore ss after
  less = subst (KeepsNoMore ss) is_map (success_no_more w law clock r h active)

  -- Records

  record_if : (x : Record) (b : Bool) → outdates r x ≡ b
      → ◌≡◌ {A = Option (List ℕ)} (Some (record_text (outdated_by r x)))
      (cond b (Some (outdated_text x)) (Some (record_text x)))
  record_if x true e = ap (λ (q : Record). Some (record_text q)) (is_outdated r x e)
  record_if x false e = ap (λ (q : Record). Some (record_text q)) (not_outdated r x e)

  record_other : (id : SessionId) (o : Option Record) → session_of ss id ≡ o → eqb id.0 r.id.0 ≡ false
      → option_map record_text (option_map g o)
      ≡ cond (passes (outdates r) o) (option_map outdated_text o) (option_map record_text o)
  record_other id None f e = refl
  record_other id (Some x) f e =
      let (i, xid) = of_found ss id x f in
      elim (either w law clock r h active x i) [
        | inl (same, is) ↦ absurd (false≢true (sym e
            ∙ eq-eqb id.0 r.id.0 (sym xid ∙ ap (λ (q : Record). q.id.0) same)))
        | inr (d, is) ↦ ap (λ (q : Record). Some (record_text q)) is ∙ record_if x (outdates r x) refl
      ]

  record_self : (id : SessionId) → id.0 ≡ r.id.0 → option_map record_text (session_of after id) ≡ Some (record_text now)
  record_self id e =
      ap (option_map record_text) (found_after ss g likes same_ids id
      ∙ ap (option_map g) (ap (session_of ss) (same_id id r.id e) ∙ of_in ss r law.ids.ascend h))
      ∙ elim (either w law clock r h active r h) [
        | inl (same, is) ↦ ap (λ (q : Record). Some (record_text q)) is
        | inr (d, is) ↦ absurd (d refl)
      ]

  record_after : (id : SessionId) → record_row (world_of after) id ≡ success_row w clock r (RecordOf id)
  record_after id =
      let other : Option (List ℕ) =
      cond (passes (outdates r) (session_of ss id)) (option_map outdated_text (session_of ss id)) (record_row w id) in
      by_answer (eqb id.0 r.id.0)
      (λ e. record_self id (eqb-true id.0 r.id.0 e) ∙ ap (λ b. cond b (Some (record_text now)) other) (sym e))
      (λ e. ap (option_map record_text) (found_after ss g likes same_ids id)
      ∙ record_other id (session_of ss id) refl e ∙ ap (λ b. cond b (Some (record_text now)) other) (sym e))

  -- What names held before

  none_left : (name : List ℕ) → names name r ≡ true → (s : Record) → In s after → is_undoable_for name s ≡ true → ⊥
  none_left name m s i e =
      let (x, j, same) = in_map_back g s ss i in
      let (u, n) = and_parts (is_undoable (g x).state) (names name (g x))
      (ap (is_undoable_for name) same ∙ e) in
      elim (either w law clock r h active x j) [
        | inl (one, is) ↦ false≢true (ap is_undoable (sym (now_is w law clock r h active x is)) ∙ u)
        | inr (d, is) ↦ none_beside w law clock r h active x name j d (sym (names_same x (g x) name (likes x j)) ∙ n) m
            (undoable_unfinished x.state (ap is_undoable (sym (other_state w law clock r h active x is)) ∙ u))
      ]

  backup_after : (name : List ℕ) → backup_of after name ≡ cond (names name r) None (backup_of ss name)
  backup_after name =
      by_answer (names name r)
      (λ m. ap (option_map (λ q. target_text (before after q name) []))
      (find_none (is_undoable_for name) after (find (is_undoable_for name) after) refl (none_left name m))
      ∙ ap (λ b. cond b None (backup_of ss name)) (sym m))
      (λ m. backup_same ss g likes name (λ x i n. elim (either w law clock r h active x i) [
        | inl (same, is) ↦ absurd (false≢true (sym m ∙ ap (names name) (sym same) ∙ n))
        | inr (d, is) ↦ ap is_undoable (other_state w law clock r h active x is)
      ]) (λ x i n. before_is w law clock r h active x name i (λ t. false≢true (sym m ∙ t)))
      ∙ ap (λ b. cond b None (backup_of ss name)) (sym m))

  -- Files

  file_after : (session : SessionId) (part : ℕ) (path : List ℕ)
      → file_row (world_of after) session part path
      ≡ freed (gives_up_file ss r session part) after session part (file_row w session part path)
  file_after session part path =
      freed_row w after clock w.failures (gives_up_file ss r session part) session part path
      (was_target w law after less clock w.failures session part) (still_target w law clock r h active session part)

  success_at : (k : Key) → row_at (world_of (after_success clock r ss)) k ≡ success_row w clock r k
  success_at Boots = refl
  success_at (RecordOf id) =
      subst (λ zs. record_row (world_of zs) id ≡ success_row w clock r (RecordOf id)) (sym is_map) (record_after id)
  success_at (ActiveOf name) = subst (λ zs. active_of zs name ≡ active_of ss name) (sym is_map)
      (active_same ss g likes name (standing w law clock r h active))
  success_at (BackupOf name) =
      subst (λ zs. backup_of zs name ≡ cond (names name r) None (backup_of ss name)) (sym is_map) (backup_after name)
  success_at (FileOf session part path) =
      subst (λ zs. file_row (world_of zs) session part path
      ≡ freed (gives_up_file ss r session part) zs session part (file_row w session part path)) (sym is_map)
      (file_after session part path)
  success_at (DataOf name key) = refl
  success_at (SnapshotOf id name key) =
      subst (λ zs. snapshot_row (world_of zs) id name key
      ≡ cond (passes (outdates r) (session_of ss id)) None (snapshot_row w id name key)) (sym is_map)
      (snapshot_after w law clock r h active id name key)
  success_at (PreRestoreOf id name key) =
      subst (λ zs. pre_restore_row (world_of zs) id name key
      ≡ cond (eqb id.0 r.id.0) None (pre_restore_row w id name key)) (sym is_map)
      (restore_after w law clock r h active id name key)
  success_at (WatchOf observer name) = refl

  -- what the call leaves
  called : success_to w clock r (moved r.state step_of.Success) ≡ success_to w clock r (Some state.Success)
  called = ap (λ (s : State). success_to w clock r (moved s step_of.Success)) active

  marked : (k : Key) → row_at (success_to w clock r (Some state.Success)).world k
      ≡ row_at (world_of (after_success clock r ss)) k
  marked k = ap (λ (s : State). row_at (world_of (cond (is_success s) ss (after_success clock r ss))) k) active

-- what Success changes
pub success_rows : (w : World) → Lawful w → (time : ℕ) (id : SessionId) (r : Record) → session_of w.sessions id ≡ Some r
    → r.state ≡ state.Activated → (k : Key)
    → row_at (success w time id).world k ≡ success_row w (max w.clock time) r k
success_rows w law time id r f active k =
    let clock = max w.clock time in
    let h = (of_found w.sessions id r f).0 in
    ap (λ o. row_at (success_found w clock id o).world k) f
    ∙ ap (λ (z : Stepped). row_at z.world k) (called w law clock r h active)
    ∙ marked w law clock r h active k ∙ success_at w law clock r h active k
