use Rattle.std.proofs.Common.{◌≡◌, take}
use Rattle.std.specs.List.{list_all}
use Rattle.apex_base.specs.Text.{is_name_byte}
use Rattle.apex_base.proofs.text.all_name_bytes.Given as goal

-- the bytes so far
abbrev pub invariant-loop-b : goal.invariant-loop-b
invariant-loop-b l = l.all ≡ list_all is_name_byte (take l.b-index l.bytes)
