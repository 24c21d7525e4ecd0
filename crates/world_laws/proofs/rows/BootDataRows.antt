-- What the rows of data are after a boot, by the rows before it. Callers want `data_settled`.
use Rattle.std.proofs.Common.{◌≡◌, ℕ, Bool, true, false, cond, List, [], ◌∷◌, ◌++◌}
use Rattle.std.proofs.Common.{Option, Some, None, sym, ap, subst, ◌∙◌, refl, inl, inr, is_some, arith}
use Rattle.std.specs.Prelude.{option_and_then}
use Rattle.std.specs.List.{list_any}
use Rattle.std.specs.Ordering.{nat_cmp}
use Rattle.std.specs.Cmp.Lexicographic.{slice_cmp}
use Rattle.std.specs.Str.{bytes_eq}
use Rattle.std.specs.FinMap as fin
use Rattle.std.specs.FinMap.{get-empty}
use Rattle.std.proofs.lemmas.Bool.{and_from, false≢true}
use Rattle.apex_base.specs.declared.numbers.SessionId.{SessionId}
use Rattle.apex_base.specs.declared.records.Kind.TheVariants.{RollbackOf}
use Rattle.apex_base.specs.declared.records.Part.{Part}
use Rattle.apex_base.specs.declared.records.Record.{Record}
use Rattle.apex_base.specs.declared.records.State.TheVariants as state
use Rattle.apex_base.specs.Held.{is_undoable}
use Rattle.apex_base.specs.Keys.{Key, SnapshotOf, PreRestoreOf, key_text}
use Rattle.apex_base.specs.Members.{In}
use Rattle.apex_base.specs.Sessions.{names, session_of}
use Rattle.apex_base.specs.Tables.{NameMap, value_of}
use Rattle.apex_base.proofs.SessionLemmas.{of_found, of_in}
use Rattle.apex_world.specs.declared.calls.BootOrder.{BootOrder}
use Rattle.apex_world.specs.Boot.{boot_world}
use Rattle.apex_world.specs.Lawful.{Lawful, IsRollbackSession}
use Rattle.world_laws.specs.RollbackData.{WentTo, HasDataOf, IsRestoredBy, RestoresData}
use Rattle.apex_world.specs.Rows.{has_snapshot, has_pre_restore}
use Rattle.apex_base.specs.Commit.{undoes}
use Rattle.apex_world.specs.Rows.{earlier, rows}
use Rattle.world_laws.specs.RowsAfter.{still}
use Rattle.world_laws.specs.RowsBooted.{source_of, has_name}
use Rattle.apex_world.specs.Running.{runs}
use Rattle.apex_world.specs.Selection.{Mounts}
use Rattle.apex_world.specs.World.{World, Contents, era}
use Rattle.world_laws.proofs.alike.BootDataAlike.{was_staged, keeps_snapshot}
use Rattle.world_laws.proofs.alike.BootFades.{era_front}
use Rattle.world_laws.proofs.meaning.BootSessions.{boot_loops}
use Rattle.world_laws.proofs.meaning.BootTurns.{reverted_undoable}
use Rattle.world_laws.proofs.runs.BootLaws.{number, turn, cause_for, way}
use Rattle.world_laws.proofs.runs.CommitPeers.{same_names}
use Rattle.world_laws.proofs.meaning.RollbackDataLemmas.{number_activated, number_reverted, is_became, became_is, goes_back}
use Rattle.world_laws.proofs.meaning.RollbackDataLemmas.{runs_is, rollback_data}
use Rattle.world_laws.proofs.meaning.RollbackIds.{lawful_undone}
use Rattle.world_facts.proofs.facts.WorldRows.{record_id, data_at, snapshot_at, pre_restore_at}
use Rattle.world_laws.proofs.rows.BroughtBack.{Brings, brings_to, some_brought, brought, sourced}

-- What the sessions of a lawful world keep

module _ (w : World) (law : Lawful w) where
  -- the row of what a session keeps
  kept_row : (test : Record → Bool) (id : SessionId) (r : Record) (name key : List ℕ)
      → session_of w.sessions id ≡ Some r → test r ≡ true → names name r ≡ true
      → option_and_then (λ (r : Record). cond (test r) (earlier w name key r) None) (session_of w.sessions id)
      ≡ value_of (era w.eras r.activation) name key
  kept_row test id r name key found passes named =
      ap (option_and_then (λ (r : Record). cond (test r) (earlier w name key r) None)) found
      ∙ ap (λ (b : Bool). cond b (earlier w name key r) None) passes
      ∙ ap (λ (b : Bool). cond b (value_of (era w.eras r.activation) name key) None) named

-- Boots

module _ (w : World) (law : Lawful w) (order : BootOrder) (mounts : Mounts) (name key : List ℕ) where
  abbrev after : World
  after = boot_world w order mounts

  abbrev row_of : Key → Option (List ℕ)
  row_of k = fin.get (rows w) (key_text k)

  restores : RestoresData w after
  restores = rollback_data w order mounts law

  loops : after.eras ≡ w.eras ++ w.contents ∷ []
  loops = (boot_loops w order mounts (lawful_undone w law)).eras

  -- data of before an earlier boot
  earlier_data : (r : Record) → In r w.sessions → HasDataOf after r.activation name
      → value_of after.contents name key ≡ value_of (era w.eras r.activation) name key
  earlier_data r h has =
      ap (λ (m : NameMap (List ℕ)). fin.get m key) has.same
      ∙ ap (λ (c : Contents). value_of c name key)
      (ap (λ (eras : List Contents). era eras r.activation) loops
      ∙ era_front w.eras w.contents r.activation (law.activations.each r h).most)

  activated_row : (r : Record) (x : SessionId) → In r w.sessions → r.kind ≡ RollbackOf x → names name r ≡ true
      → WentTo state.Activated r after → value_of after.contents name key ≡ row_of (SnapshotOf x name key)
  activated_row r x h kind named went =
      let (y, found, has) = restores.activated r x name h kind went named in
      let (z, there, back) = law.undone.back r x h kind in
      let (i, same_number) = of_found w.sessions x y found in
      let low = record_id w law y i in
      let same : z ≡ y = cc (found, there) in
      let is : IsRollbackSession w.sessions y r = subst (λ (z : Record). IsRollbackSession w.sessions z r) same back in
      let ready = was_staged (cause_for w law order mounts r) (number w law order mounts) r (turn w law order mounts r)
      went.was (goes_back w order mounts law state.Activated refl r h went) (way w law order mounts r) in
      let names_it : names name y ≡ true = sym (same_names w.sessions y [] name)
      ∙ ap (λ (ps : List Part). list_any (λ p. bytes_eq p.name name) ps) (sym is.parts) ∙ named in
      earlier_data y i has
      ∙ sym (snapshot_at w law x name key (omega (arith, low, same_number))
      ∙ kept_row w law (has_snapshot w.sessions) x y name key found (keeps_snapshot w law y r i h is ready) names_it)

  reverted_row : (r : Record) (x : SessionId) → In r w.sessions → r.kind ≡ RollbackOf x → names name r ≡ true
      → WentTo state.Reverted r after → runs after name ≡ true
      → value_of after.contents name key ≡ row_of (PreRestoreOf r.id name key)
  reverted_row r x h kind named went run =
      let undoable = reverted_undoable (cause_for w law order mounts r) (number w law order mounts) r
      (turn w law order mounts r) went.was (goes_back w order mounts law state.Reverted refl r h went)
      (way w law order mounts r) in
      earlier_data r h (restores.reverted r x name h kind went named run)
      ∙ sym (pre_restore_at w law r.id name key (record_id w law r h)
      ∙ kept_row w law has_pre_restore r.id r name key (of_in w.sessions r law.ids.ascend h)
      (and_from (undoes r.kind) (is_undoable r.state) (ap undoes kind) undoable) named)

  brought_row : (r new : Record) (k : Key) → In r w.sessions → session_of after.sessions r.id ≡ Some new
      → names name r ≡ true → runs after name ≡ true → Brings r new name key k
      → value_of after.contents name key ≡ row_of k
  brought_row r new k h found named run brings =
      elim brings.by [
        | inl (e, same) ↦
            let (was, is) = became_is state.Activated number_activated r new e in
            activated_row r brings.of h brings.kind named
            (record { after_it = new; was = was; found = found; is = is }) ∙ ap row_of same
        | inr (e, same) ↦
            let (was, is) = became_is state.Reverted number_reverted r new e in
            reverted_row r brings.of h brings.kind named
            (record { after_it = new; was = was; found = found; is = is }) run ∙ ap row_of same
      ]

  -- who restores a name brings its values back
  restored_brings : (r : Record) (x : SessionId) → IsRestoredBy after name r x
      → brought after.sessions name key r ≡ None → ⊥
  restored_brings r x (kind, named, went) none =
      elim went [
        | inl a ↦
            false≢true (ap is_some (sym none) ∙ some_brought r a.after_it (session_of after.sessions r.id) x name key
            a.found named kind (inl (is_became state.Activated number_activated r a.after_it a.was a.is)))
        | inr a ↦
            false≢true (ap is_some (sym none) ∙ some_brought r a.after_it (session_of after.sessions r.id) x name key
            a.found named kind (inr (is_became state.Reverted number_reverted r a.after_it a.was a.is)))
      ]

  abbrev source : Key
  source = source_of w.sessions after.sessions name key

  image_row : runs after name ≡ true → value_of after.contents name key ≡ row_of source
  image_row run =
      elim (sourced after.sessions name key w.sessions) [
        | inl (r, h, e) ↦
            let (new, found, named, brings) = brings_to r (session_of after.sessions r.id) name key source e in
            brought_row r new source h found named run brings
        | inr (same, none) ↦
            ap (λ (m : NameMap (List ℕ)). fin.get m key)
            (restores.others name run (λ r x h is. restored_brings r x is (none r h)))
            ∙ sym (data_at w law name key) ∙ ap row_of (sym same)
      ]

  value_if : (b : Bool) → runs after name ≡ b → value_of after.contents name key ≡ cond b (row_of source) None
  value_if true run = image_row run
  value_if false run =
      ap (λ (m : NameMap (List ℕ)). fin.get m key) (restores.removed name run)
      ∙ get-empty {X = List ℕ} (slice_cmp nat_cmp) key

  -- the row of a value after a boot
  pub data_settled : value_of after.contents name key ≡ still (rows w) source (has_name order.image name)
  data_settled = value_if (has_name order.image name) (runs_is w order mounts law name)
