-- Plain worlds have no rows of data, of what was before rollbacks, and of watches. Callers want
-- `same_data`, `same_snapshot`, `same_pre_restore` and `same_watch`.
use Rattle.std.proofs.Common.{◌≡◌, ◌&&◌, ℕ, cond, not, eqb, List, [], Option, Some, None, sym, ap, ◌∙◌, refl}
use Rattle.std.specs.Prelude.{option_and_then}
use Rattle.std.specs.Option.{option_map}
use Rattle.apex_base.specs.declared.numbers.SessionId.{SessionId}
use Rattle.apex_base.specs.declared.records.Kind.{Kind}
use Rattle.apex_base.specs.declared.records.Record.{Record}
use Rattle.apex_base.specs.Commit.{rolls_back, undoes}
use Rattle.apex_base.specs.Held.{is_undoable}
use Rattle.apex_base.specs.Reading.{eight_text}
use Rattle.apex_base.specs.Sessions.{session_of}
use Rattle.apex_base.specs.Tables.{value_of}
use Rattle.apex_base.proofs.SessionLemmas.{of_found}
use Rattle.world_facts.specs.Plain.{IsPlain}
use Rattle.apex_world.specs.Rows.{data_row, snapshot_row, pre_restore_row, watch_row, has_snapshot, has_pre_restore}
use Rattle.apex_world.specs.Rows.{earlier, may_happen}
use Rattle.apex_world.specs.World.{World, Contents, Watches}

module _ (w : World) (plain : IsPlain w) (name key : List ℕ) where
  snapshot_if : (id : SessionId) (o : Option Record) → session_of w.sessions id ≡ o
      → option_and_then (λ (r : Record). cond (has_snapshot w.sessions r) (earlier w name key r) None) o ≡ None
  snapshot_if id None e = refl
  snapshot_if id (Some r) e =
      ap (λ (k : Kind). cond (rolls_back k && not (eqb r.activation 0) && may_happen w.sessions r.id r.rollback)
      (earlier w name key r) None) (plain.sessions r (of_found w.sessions id r e).0).kind

  no_snapshot : (id : SessionId) → snapshot_row w id name key ≡ None
  no_snapshot id = snapshot_if id (session_of w.sessions id) refl

  pre_restore_if : (id : SessionId) (o : Option Record) → session_of w.sessions id ≡ o
      → option_and_then (λ (r : Record). cond (has_pre_restore r) (earlier w name key r) None) o ≡ None
  pre_restore_if id None e = refl
  pre_restore_if id (Some r) e =
      ap (λ (k : Kind). cond (undoes k && is_undoable r.state) (earlier w name key r) None)
      (plain.sessions r (of_found w.sessions id r e).0).kind

  no_pre_restore : (id : SessionId) → pre_restore_row w id name key ≡ None
  no_pre_restore id = pre_restore_if id (session_of w.sessions id) refl

-- two plain worlds have the same rows of these kinds
module _ (w v : World) (before : IsPlain w) (after : IsPlain v) where
  pub same_data : (name key : List ℕ) → data_row v name key ≡ data_row w name key
  same_data name key = ap (λ (c : Contents). value_of c name key) (after.contents ∙ sym before.contents)

  pub same_snapshot : (id : SessionId) (name key : List ℕ) → snapshot_row v id name key ≡ snapshot_row w id name key
  same_snapshot id name key = no_snapshot v after name key id ∙ sym (no_snapshot w before name key id)

  pub same_pre_restore : (id : SessionId) (name key : List ℕ)
      → pre_restore_row v id name key ≡ pre_restore_row w id name key
  same_pre_restore id name key = no_pre_restore v after name key id ∙ sym (no_pre_restore w before name key id)

  pub same_watch : (observer name : List ℕ) → watch_row v observer name ≡ watch_row w observer name
  same_watch observer name =
      ap (λ (t : Watches). option_map (λ (end : ℕ). eight_text end []) (value_of t observer name))
      (after.watches ∙ sym before.watches)
