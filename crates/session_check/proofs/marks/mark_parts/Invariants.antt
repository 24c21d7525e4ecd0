use Rattle.std.proofs.Common.{◌≡◌, ◌++◌, take, map}
use Rattle.session_check.specs.Marks.{mark_of}
use Rattle.session_check.proofs.marks.mark_parts.Given as goal

-- the marks of the parts so far
abbrev pub invariant-loop-p : goal.invariant-loop-p
invariant-loop-p l = l.marks.items ≡ l.fn.marks.items ++ map (mark_of l.which l.r) (take l.p-index l.r.parts)
