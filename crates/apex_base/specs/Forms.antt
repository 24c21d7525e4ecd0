-- Bytes, however they stand in memory.
use Rattle.std.specs.Prelude.{ℕ, List}
use Rattle.apex_base.specs.declared.bytes.Form.{Form}
use Rattle.apex_base.specs.declared.bytes.Form.TheVariants.{Own, Shared}

abbrev pub bytes_in : Form → List ℕ
bytes_in (Own bytes) = bytes
bytes_in (Shared bytes) = bytes
