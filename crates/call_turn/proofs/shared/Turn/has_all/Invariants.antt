use Rattle.std.proofs.Common.{◌+◌, ◌-◌, ◌≡◌, ℕ, ◌<◌, ◌≤◌, length}
use Rattle.std.specs.List.{Any}
use Rattle.call_turn.proofs.shared.Turn.has_all.Given as goal

abbrev pub invariant-loop-lane : goal.invariant-loop-lane
invariant-loop-lane g l = (0 < l.lane) × (l.lane ≤ l.self.lanes + 1) × (length l.passes ≡ l.self.lanes) × ((n : ℕ) → 0 < n → n < l.lane → Any (λ p. p.lane ≡ n) l.passes)

abbrev pub decreases-loop-lane : goal.decreases-loop-lane
decreases-loop-lane g l = l.self.lanes + 1 - l.lane
