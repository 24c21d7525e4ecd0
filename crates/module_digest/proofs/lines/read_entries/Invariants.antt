use Rattle.std.proofs.Common.{◌≡◌, ◌+◌, ◌≤◌, ◌++◌, length}
use Rattle.module_digest.specs.Lines.{bad_line, bad_line_from, entries, said_by, parts}
use Rattle.module_digest.proofs.lines.read_entries.Given as goal

-- the lines so far were good, and those that are left decide
abbrev pub invariant-loop-front : goal.invariant-loop-front
invariant-loop-front l = record {
  bad : bad_line l.text ≡ bad_line_from l.before l.line (parts l.rest);
  read : entries l.text ≡ l.entries.items ++ said_by (parts l.rest);
  counted : l.line + length l.rest ≤ 1 + length l.text;
}

abbrev pub decreases-loop-front : goal.decreases-loop-front
decreases-loop-front l = length l.rest
