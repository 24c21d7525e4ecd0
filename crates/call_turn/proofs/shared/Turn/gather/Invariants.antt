use Rattle.std.proofs.Common.{◌≡◌, ◌++◌, [], flat_map}
use Rattle.std.specs.List.{All}
use Rattle.call_turn.proofs.shared.Turn.gather.Given as goal

abbrev pub invariant-loop-pass : goal.invariant-loop-pass
invariant-loop-pass g l = (l.seat.table_id ≡ l.self.table.shared.table_id) × (l.seat.me.1 ≡ []) × (l.seat.me.0.stage ≡ 0)
    × (flat_map (λ p. p.seat.me.0.owns) l.fn.passes.items ≡ flat_map (λ p. p.seat.me.0.owns) l.passes.items ++ l.seat.me.0.owns)
    × All (λ p. p.seat.table_id ≡ l.self.table.shared.table_id) l.passes.items

abbrev pub decreases-loop-pass : goal.decreases-loop-pass
decreases-loop-pass g l = goal.left-loop-pass g l
