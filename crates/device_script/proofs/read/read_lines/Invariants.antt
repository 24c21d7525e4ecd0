use Rattle.std.proofs.Common.{◌≡◌, ◌+◌, ◌≤◌, length}
use Rattle.std.specs.Str.Lines.{lines}
use Rattle.device_script.specs.Draft.{start}
use Rattle.device_script.specs.Script.{lines_read}
use Rattle.device_script.proofs.read.read_lines.Given as goal

-- what is left leads the draft to where all lines lead
abbrev pub invariant-loop-line : goal.invariant-loop-line
invariant-loop-line l = record {
  reading : lines_read l.number l.draft (lines l.rest) ≡ lines_read 1 start (lines l.bytes);
  few : l.number + length l.rest ≤ 16777217;
}

abbrev pub decreases-loop-line : goal.decreases-loop-line
decreases-loop-line l = length l.rest
