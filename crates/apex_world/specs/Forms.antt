-- The files of a module, however it stands in memory.
use Rattle.apex_base.specs.Modules.{FileMap}
use Rattle.apex_world.specs.declared.modules.Form.{Form}
use Rattle.apex_world.specs.declared.modules.Form.TheVariants.{Short, Files}
use Rattle.apex_world.specs.Soundness.{short_form}

abbrev pub files_of : Form → FileMap
files_of (Short name version) = short_form name version
files_of (Files m) = m
