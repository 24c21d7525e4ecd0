use Rattle.row_check.proofs.FileRows.{file_row_is}
use Rattle.row_check.proofs.laws.files_are_those_of_kept_modules.Goals as goal

pub returns : goal.returns
returns c = file_row_is
