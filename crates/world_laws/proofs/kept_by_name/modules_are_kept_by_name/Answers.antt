use Rattle.world_laws.proofs.rows.AbortedFiles.{aborted_files_go}
use Rattle.world_laws.proofs.rows.KeptByName.{kept_by_name}
use Rattle.world_laws.proofs.kept_by_name.modules_are_kept_by_name.Goals as goal

pub returns : goal.returns
returns c = record {
  name = λ w law r p session part version h i e. kept_by_name w law r p session part version h i e;
  aborted = aborted_files_go;
}
