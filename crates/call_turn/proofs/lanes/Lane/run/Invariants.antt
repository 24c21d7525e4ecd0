use Rattle.std.proofs.Common.{◌≡◌, ◌≤◌, ◌+◌}
use Rattle.std.specs.Vec.{vec_len}
use Rattle.call_turn.proofs.lanes.Lane.run.Given as goal

abbrev pub invariant-loop-order : goal.invariant-loop-order
invariant-loop-order g l = (l.self.pass.seat.table_id ≡ l.turn.table.shared.table_id) × (l.self.pass.lane ≡ l.fn.self.pass.lane)
    × (l.self.pass.step + vec_len l.self.orders ≤ 4294967295)

abbrev pub decreases-loop-order : goal.decreases-loop-order
decreases-loop-order g l = goal.left-loop-order g l
