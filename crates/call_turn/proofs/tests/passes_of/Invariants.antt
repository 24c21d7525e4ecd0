use Rattle.std.proofs.Common.{◌≡◌, length}
use Rattle.std.specs.List.{All}
use Rattle.call_turn.proofs.tests.passes_of.Given as goal

abbrev pub invariant-loop-lane : goal.invariant-loop-lane
invariant-loop-lane l = All (λ n. n.pass.seat.table_id ≡ l.turn.table.shared.table_id) l.lanes.items
    × All (λ p. p.seat.table_id ≡ l.turn.table.shared.table_id) l.passes.items

abbrev pub decreases-loop-lane : goal.decreases-loop-lane
decreases-loop-lane l = length l.lanes.items
