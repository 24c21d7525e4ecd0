use Rattle.std.proofs.Common.{◌-◌, ◌≡◌, ◌+◌, ◌<◌, ◌≤◌, [], map}
use Rattle.std.specs.List.{All}
use Rattle.std.specs.Vec.{vec_len, vec_capacity}
use Rattle.call_turn.specs.History.{lanes_from}
use Rattle.call_turn.specs.Rule.{Dealing, entries_of}
use Rattle.call_turn.proofs.shared.Turn.deal.Given as goal

abbrev pub invariant-loop-lane : goal.invariant-loop-lane
invariant-loop-lane g l = (0 < l.lane) × (l.lane ≤ l.self.lanes) × (vec_len l.passes + 1 ≡ l.lane) × (l.self.lanes ≤ vec_capacity l.passes)
    × (l.seat.table_id ≡ l.self.table.shared.table_id) × Dealing l.lane l.self.lanes (g.O.OneThread.start l.self.table.shared.key.object.value) l.seat.me
    × (map (λ p. p.lane) l.passes.items ≡ lanes_from 1 (l.lane - 1))
    × All (λ p. (p.seat.table_id ≡ l.self.table.shared.table_id) × (p.step ≡ 0) × (entries_of p.seat.me.0.owns ≡ [])) l.passes.items

abbrev pub decreases-loop-lane : goal.decreases-loop-lane
decreases-loop-lane g l = l.self.lanes - l.lane
