use Rattle.std.proofs.Common.{◌≡◌, take}
use Rattle.device_script.specs.Script.{is_plain}
use Rattle.device_script.proofs.read.is_plain.Given as goal

-- the bytes so far
abbrev pub invariant-loop-b : goal.invariant-loop-b
invariant-loop-b l = l.plain ≡ is_plain (take l.b-index l.line)
