use Rattle.package_store.proofs.Filed.{no_module}
use Rattle.package_store.proofs.tests.no_rows_are_a_module_without_files.Goals as goal

pub module_of-requires : goal.module_of-requires
module_of-requires g c = no_module (record { 0 = 5 }) 0 c.new-rows.result.entries c.new-rows.ensures.empty
