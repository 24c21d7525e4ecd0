-- What is written so far is in the writer.
use Rattle.std.proofs.Common.{◌≤◌, length, take}
use Rattle.std.specs.Io.KnownBytes.{Appends}
use Rattle.apexplay.proofs.streams.write_front.Given as goal

abbrev pub invariant-loop : goal.invariant-loop
invariant-loop g l = record {
  within : l.written ≤ length l.bytes;
  written : Appends (g.W.Write.contents l.fn.to) (g.W.Write.contents l.to) (take l.written l.bytes);
}
