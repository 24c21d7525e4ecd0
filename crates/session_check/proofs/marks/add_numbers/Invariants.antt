use Rattle.std.proofs.Common.{◌≡◌, ◌++◌, take, map}
use Rattle.apex_base.specs.declared.numbers.SessionId.{SessionId}
use Rattle.session_check.proofs.marks.add_numbers.Given as goal

-- the ids so far
abbrev pub invariant-loop-id : goal.invariant-loop-id
invariant-loop-id l = l.numbers.items ≡ l.fn.numbers.items ++ map (λ (id : SessionId). id.0) (take l.id-index l.ids)
