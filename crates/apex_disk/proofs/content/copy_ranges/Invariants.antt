use Rattle.std.proofs.Common.{length, drop}
use Rattle.apex_disk.specs.Content.{Agrees, Within}
use Rattle.apex_disk.proofs.content.copy_ranges.Given as goal

abbrev pub invariant-loop-range : goal.invariant-loop-range
invariant-loop-range l = record {
  agrees : Agrees l.to (drop l.range-index l.ranges) l.from;
  within : Within (length l.from) (drop l.range-index l.ranges);
}
