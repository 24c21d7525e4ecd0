use Rattle.std.proofs.Common.{◌≡◌, ◌++◌}
use Rattle.call_judge.proofs.prepared.check_parts.Given as goal

-- what is checked, and then what is left
abbrev pub invariant-loop-content : goal.invariant-loop-content
invariant-loop-content l = l.checked.items ++ l.content-iterator.rest.items ≡ l.fn.parts
