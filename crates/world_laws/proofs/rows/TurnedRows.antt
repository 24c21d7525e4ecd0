-- Rows of modules and of the past after sessions that each changed by themselves. Callers want `file_row_same`,
-- `snapshot_same`, `restore_same`, `snapshot_gone` and `restore_gone`.
use Rattle.std.proofs.Common.{◌≡◌, ℕ, Bool, false, cond, List, map, Option, Some}
use Rattle.std.proofs.Common.{None, ap, ◌∙◌, refl}
use Rattle.std.specs.Prelude.{option_and_then}
use Rattle.std.specs.Option.{option_map}
use Rattle.std.specs.FinMap as fin
use Rattle.apex_base.specs.declared.numbers.SessionId.{SessionId}
use Rattle.apex_base.specs.declared.records.Record.{Record}
use Rattle.apex_base.specs.Held.{kept, is_target}
use Rattle.apex_base.specs.Members.{In}
use Rattle.apex_base.specs.Modules.{FileMap}
use Rattle.apex_base.specs.Sessions.{session_of}
use Rattle.apex_world.specs.Rows.{has_snapshot, has_pre_restore}
use Rattle.apex_world.specs.Rows.{earlier, file_row, snapshot_row, pre_restore_row}
use Rattle.apex_world.specs.Selection.{submitted_by}
use Rattle.apex_world.specs.World.{World, Failures}
use Rattle.world_laws.proofs.alike.AlikeAfter.{IsLike}
use Rattle.world_laws.proofs.rows.SettledRows.{earlier_like}
use Rattle.world_laws.proofs.rows.TurnedLists.{found_after}

module _ (w : World) (g : Record → Record) (ids : (r : Record) → (g r).id ≡ r.id)
    (like : (r : Record) → In r w.sessions → IsLike r (g r)) (clock : ℕ) (failures : Failures) where
  abbrev turned : World
  turned = record w { sessions = map g w.sessions; clock = clock; failures = failures }

  pub file_row_same : (session : SessionId) (part : ℕ) (path : List ℕ)
      → is_target (kept (map g w.sessions)) session part ≡ is_target (kept w.sessions) session part
      → file_row turned session part path ≡ file_row w session part path
  file_row_same session part path e =
      ap (λ b. cond b (option_and_then (λ (m : FileMap). fin.get m path) (submitted_by w.modules session part)) None) e

  past_if : (a b : Bool) (o p : Option (List ℕ)) → a ≡ b → o ≡ p → cond a o None ≡ cond b p None
  past_if a b o p e f = ap (λ b. cond b o None) e ∙ ap (λ o. cond b o None) f

  snapshot_if : (name key : List ℕ) (o : Option Record) → ((r : Record) → o ≡ Some r → In r w.sessions
      × (has_snapshot (map g w.sessions) (g r) ≡ has_snapshot w.sessions r))
      → option_and_then (λ (r : Record). cond (has_snapshot (map g w.sessions) r) (earlier w name key r) None)
      (option_map g o)
      ≡ option_and_then (λ (r : Record). cond (has_snapshot w.sessions r) (earlier w name key r) None) o
  snapshot_if name key None same = refl
  snapshot_if name key (Some r) same =
      let (h, e) = same r refl in
      past_if (has_snapshot (map g w.sessions) (g r)) (has_snapshot w.sessions r) (earlier w name key (g r))
      (earlier w name key r) e (earlier_like w r (g r) name key (like r h))

  pub snapshot_same : (id : SessionId) (name key : List ℕ) → ((r : Record) → session_of w.sessions id ≡ Some r
      → In r w.sessions × (has_snapshot (map g w.sessions) (g r) ≡ has_snapshot w.sessions r))
      → snapshot_row turned id name key ≡ snapshot_row w id name key
  snapshot_same id name key same =
      ap (option_and_then (λ (r : Record). cond (has_snapshot (map g w.sessions) r) (earlier w name key r) None))
      (found_after w.sessions g like ids id)
      ∙ snapshot_if name key (session_of w.sessions id) same

  restore_if : (name key : List ℕ) (o : Option Record) → ((r : Record) → o ≡ Some r → In r w.sessions
      × (has_pre_restore (g r) ≡ has_pre_restore r))
      → option_and_then (λ (r : Record). cond (has_pre_restore r) (earlier w name key r) None) (option_map g o)
      ≡ option_and_then (λ (r : Record). cond (has_pre_restore r) (earlier w name key r) None) o
  restore_if name key None same = refl
  restore_if name key (Some r) same =
      let (h, e) = same r refl in
      past_if (has_pre_restore (g r)) (has_pre_restore r) (earlier w name key (g r)) (earlier w name key r) e
      (earlier_like w r (g r) name key (like r h))

  pub restore_same : (id : SessionId) (name key : List ℕ) → ((r : Record) → session_of w.sessions id ≡ Some r
      → In r w.sessions × (has_pre_restore (g r) ≡ has_pre_restore r))
      → pre_restore_row turned id name key ≡ pre_restore_row w id name key
  restore_same id name key same =
      ap (option_and_then (λ (r : Record). cond (has_pre_restore r) (earlier w name key r) None))
      (found_after w.sessions g like ids id)
      ∙ restore_if name key (session_of w.sessions id) same

  -- what is kept no more has no row
  snapshot_none : (name key : List ℕ) (o : Option Record)
      → ((r : Record) → o ≡ Some r → has_snapshot (map g w.sessions) (g r) ≡ false)
      → option_and_then (λ (r : Record). cond (has_snapshot (map g w.sessions) r) (earlier w name key r) None)
      (option_map g o) ≡ None
  snapshot_none name key None gone = refl
  snapshot_none name key (Some r) gone = ap (λ b. cond b (earlier w name key (g r)) None) (gone r refl)

  pub snapshot_gone : (id : SessionId) (name key : List ℕ)
      → ((r : Record) → session_of w.sessions id ≡ Some r → has_snapshot (map g w.sessions) (g r) ≡ false)
      → snapshot_row turned id name key ≡ None
  snapshot_gone id name key gone =
      ap (option_and_then (λ (r : Record). cond (has_snapshot (map g w.sessions) r) (earlier w name key r) None))
      (found_after w.sessions g like ids id)
      ∙ snapshot_none name key (session_of w.sessions id) gone

  restore_none : (name key : List ℕ) (o : Option Record) → ((r : Record) → o ≡ Some r → has_pre_restore (g r) ≡ false)
      → option_and_then (λ (r : Record). cond (has_pre_restore r) (earlier w name key r) None) (option_map g o) ≡ None
  restore_none name key None gone = refl
  restore_none name key (Some r) gone = ap (λ b. cond b (earlier w name key (g r)) None) (gone r refl)

  pub restore_gone : (id : SessionId) (name key : List ℕ)
      → ((r : Record) → session_of w.sessions id ≡ Some r → has_pre_restore (g r) ≡ false)
      → pre_restore_row turned id name key ≡ None
  restore_gone id name key gone =
      ap (option_and_then (λ (r : Record). cond (has_pre_restore r) (earlier w name key r) None))
      (found_after w.sessions g like ids id)
      ∙ restore_none name key (session_of w.sessions id) gone
