use Rattle.std.proofs.Common.{◌≡◌, ◌+◌, ◌≤◌, length}
use Rattle.std.specs.List.{All}
use Rattle.std.specs.Vec.{vec_len}
use Rattle.call_turn.proofs.tests.lanes_of.Given as goal

abbrev pub invariant-loop-pass : goal.invariant-loop-pass
invariant-loop-pass l = All (λ p. (p.seat.table_id ≡ l.turn.table.shared.table_id) × (p.step ≡ 0)) l.passes.items
    × All (λ n. (n.pass.seat.table_id ≡ l.turn.table.shared.table_id) × (n.pass.step + vec_len n.orders ≤ 4294967295)) l.lanes.items

abbrev pub decreases-loop-pass : goal.decreases-loop-pass
decreases-loop-pass l = length l.passes.items
