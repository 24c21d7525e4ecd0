use Rattle.std.proofs.Common.{◌≡◌, take, flat_map}
use Rattle.session_check.specs.Marks.{marks_of}
use Rattle.session_check.proofs.marks.marks.Given as goal

-- the marks of the sessions so far
abbrev pub invariant-loop-r : goal.invariant-loop-r
invariant-loop-r l = l.marks.items ≡ flat_map (marks_of l.which) (take l.r-index l.sessions)
