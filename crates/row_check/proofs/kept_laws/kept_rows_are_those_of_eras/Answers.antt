use Rattle.std.proofs.Common.{inl, inr, refl}
use Rattle.row_check.proofs.KeptKeys.{kept_there}
use Rattle.row_check.proofs.kept_laws.kept_rows_are_those_of_eras.Goals as goal

pub returns-clause-snapshot : goal.returns-clause-snapshot
returns-clause-snapshot c = λ m scale id name key low. kept_there m scale 7 id name key (inl refl) low

pub returns-clause-pre_restore : goal.returns-clause-pre_restore
returns-clause-pre_restore c = λ m scale id name key low. kept_there m scale 8 id name key (inr refl) low
