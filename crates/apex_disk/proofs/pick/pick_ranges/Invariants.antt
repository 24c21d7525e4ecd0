use Rattle.std.proofs.Common.{◌≡◌, ℕ, length, get_or, take, drop}
use Rattle.apex_disk.specs.Content.{Covered, Within}
use Rattle.apex_disk.specs.Pick.{picked}
use Rattle.apex_disk.proofs.pick.pick_ranges.Given as goal

abbrev pub invariant-loop-range : goal.invariant-loop-range
invariant-loop-range l = record {
  inside : (k : ℕ) → Covered (take l.range-index l.ranges) k
      → get_or l.bytes k 0 ≡ picked l.pick k (get_or l.initial.bytes k 0) (get_or l.synced k 0);
  others : (k : ℕ) → (Covered (take l.range-index l.ranges) k → ⊥) → get_or l.bytes k 0 ≡ get_or l.initial.bytes k 0;
  within : Within (length l.bytes) (drop l.range-index l.ranges);
}
