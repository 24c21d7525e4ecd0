use Rattle.std.proofs.Common.{◌≡◌, ◌-◌, ◌<◌, []}
use Rattle.call_turn.specs.Rule.{limit}
use Rattle.call_turn.proofs.shared.Turn.wait.Given as goal

abbrev pub invariant-loop : goal.invariant-loop
invariant-loop g l = (l.seat.table_id ≡ l.self.table.shared.table_id) × (l.seat.table_id ≡ l.fn.seat.table_id) × (l.seat.me.1 ≡ [])
    × (l.seat.me.0 ≡ record l.fn.seat.me.0 { stage = 1; ticket = l.ticket; calls = l.fn.seat.me.0.calls - 1 }) × (l.ticket < limit)
