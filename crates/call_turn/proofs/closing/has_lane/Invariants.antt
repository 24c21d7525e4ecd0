use Rattle.std.proofs.Common.{◌-◌, ◌≢◌, ◌≤◌, ◌<◌, ℕ, length, slice_index_or}
use Rattle.call_turn.proofs.closing.has_lane.Given as goal

abbrev pub invariant-loop-place : goal.invariant-loop-place
invariant-loop-place g l = (l.place ≤ length l.passes) × ((k : ℕ) (d : _) → k < l.place → (slice_index_or l.passes k d).lane ≢ l.lane)

abbrev pub decreases-loop-place : goal.decreases-loop-place
decreases-loop-place g l = length l.passes - l.place
