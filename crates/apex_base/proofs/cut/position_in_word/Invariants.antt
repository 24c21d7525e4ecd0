use Rattle.std.proofs.Common.{◌≡◌, ◌+◌, ◌==◌, drop}
use Rattle.std.specs.List.{position_or_len}
use Rattle.apex_base.proofs.cut.position_in_word.Given as goal

-- the bytes so far are others
abbrev pub invariant-loop-i : goal.invariant-loop-i
invariant-loop-i l =
    position_or_len (λ b. b == l.separator) l.bytes ≡ l.i + position_or_len (λ b. b == l.separator) (drop l.i l.bytes)
