use Rattle.std.proofs.Common.{◌≡◌, drop}
use Rattle.device_script.specs.Script.{is_passed}
use Rattle.device_script.proofs.read.is_passed.Given as goal

-- the bytes so far are spaces
abbrev pub invariant-loop-b : goal.invariant-loop-b
invariant-loop-b l = is_passed (drop l.b-index l.line) ≡ is_passed l.line
