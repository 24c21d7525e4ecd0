use Rattle.std.proofs.Common.{◌≡◌, ◌≤◌, ◌<◌, ℕ, get_or}
use Rattle.apex_disk.specs.Pick.{picked}
use Rattle.apex_disk.proofs.pick.pick_range.Given as goal

abbrev pub invariant-loop-i : goal.invariant-loop-i
invariant-loop-i l = record {
  inside : (k : ℕ) → l.at ≤ k → k < l.i
      → get_or l.bytes k 0 ≡ picked l.pick k (get_or l.initial.bytes k 0) (get_or l.synced k 0);
  below : (k : ℕ) → k < l.at → get_or l.bytes k 0 ≡ get_or l.initial.bytes k 0;
  above : (k : ℕ) → l.i ≤ k → get_or l.bytes k 0 ≡ get_or l.initial.bytes k 0;
}
