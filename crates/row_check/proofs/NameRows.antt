-- The rows of names, in the rows of the world that rows open to: those that the sessions give, and no others. Callers
-- want `active_agrees`, `active_differs`, `backup_agrees` and `backup_differs`.
use Rattle.std.proofs.Common.{◌≡◌, ◌≢◌, ℕ, List, ◌∷◌, sym, ◌∙◌, refl}
use Rattle.std.specs.FinMap as fin
use Rattle.apex_base.specs.declared.numbers.Scale.{Scale}
use Rattle.apex_base.specs.Keys.{ActiveOf, BackupOf, RowMap}
use Rattle.apex_base.specs.Settled.{active_of, backup_of}
use Rattle.apex_world.specs.Opened.{opened_sessions}
use Rattle.row_check.specs.BadRows.{opened_rows, AgreesAt, DiffersAt}
use Rattle.row_check.proofs.KeysRead.{key_row}

module _ (m : RowMap) (scale : Scale) where
  -- the target that a name holds
  pub active_row_is : (name : List ℕ) → fin.get (opened_rows m scale) (3 ∷ name) ≡ active_of (opened_sessions m) name
  active_row_is name = key_row m scale (3 ∷ name) (ActiveOf name) tt refl

  pub active_agrees : ((name : List ℕ) → fin.get m (3 ∷ name) ≡ active_of (opened_sessions m) name)
      → AgreesAt m scale 3
  active_agrees same name = same name ∙ sym (active_row_is name)

  pub active_differs : (name : List ℕ) → fin.get m (3 ∷ name) ≢ active_of (opened_sessions m) name
      → DiffersAt m scale 3
  active_differs name apart = (name, λ same. apart (same ∙ active_row_is name))

  -- the target that it held before the session that can still be undone
  pub backup_row_is : (name : List ℕ) → fin.get (opened_rows m scale) (4 ∷ name) ≡ backup_of (opened_sessions m) name
  backup_row_is name = key_row m scale (4 ∷ name) (BackupOf name) tt refl

  pub backup_agrees : ((name : List ℕ) → fin.get m (4 ∷ name) ≡ backup_of (opened_sessions m) name)
      → AgreesAt m scale 4
  backup_agrees same name = same name ∙ sym (backup_row_is name)

  pub backup_differs : (name : List ℕ) → fin.get m (4 ∷ name) ≢ backup_of (opened_sessions m) name
      → DiffersAt m scale 4
  backup_differs name apart = (name, λ same. apart (same ∙ backup_row_is name))
