use Rattle.std.proofs.Common.{◌≡◌, ℕ, List, ◌++◌, drop}
use Rattle.apex_base.specs.Spelling.{parts_text}
use Rattle.session_record.proofs.encode.push_parts.Given as goal

-- what is left leads to the same text
abbrev pub invariant-loop-part : goal.invariant-loop-part
invariant-loop-part l =
    (rest : List ℕ) → l.into.items ++ parts_text l.left (drop l.part-index l.parts) rest
    ≡ l.fn.into.items ++ parts_text l.children l.parts rest
