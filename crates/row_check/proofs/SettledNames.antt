-- The rows of names, by the changes that settle rows. Callers want `active_told` and `backup_told`.
use Rattle.std.proofs.Common.{◌≡◌, Bool, true, false, not, List}
use Rattle.apex_base.specs.Keys.{RowMap}
use Rattle.apex_world.specs.Opened.{opened_sessions}
use Rattle.row_codec.specs.declared.batch.Row.{Row}
use Rattle.row_check.specs.SettledTags.{Tells, changes_tag}
use Rattle.row_check.proofs.NameRows.{active_agrees, active_differs, backup_agrees, backup_differs}
use Rattle.row_check.proofs.SettledChanges.{Settles, stays, moves}

module _ (m : RowMap) (changes : List Row) (s : Settles m (opened_sessions m) changes) where
  -- the targets that names hold, and those that they held before

  pub active_told : (b : Bool) → changes_tag 3 changes ≡ b → Tells m 3 (not b)
  active_told false e = record {
    right = λ f scale. active_agrees m scale (stays m changes s 3 e);
    wrong = λ f. absurd (cc f);
  }
  active_told true e = record {
    right = λ f. absurd (cc f);
    wrong = λ f scale. let (name, apart) = moves m changes s 3 e in active_differs m scale name apart;
  }

  pub backup_told : (b : Bool) → changes_tag 4 changes ≡ b → Tells m 4 (not b)
  backup_told false e = record {
    right = λ f scale. backup_agrees m scale (stays m changes s 4 e);
    wrong = λ f. absurd (cc f);
  }
  backup_told true e = record {
    right = λ f. absurd (cc f);
    wrong = λ f scale. let (name, apart) = moves m changes s 4 e in backup_differs m scale name apart;
  }
