use Rattle.std.proofs.Common.{◌≡◌, ◌-◌}
use Rattle.session_record.specs.Units.{units_at}
use Rattle.session_record.proofs.Loop.{with_front}
use Rattle.session_record.proofs.units.units_at.Given as goal

abbrev pub invariant-loop : goal.invariant-loop
invariant-loop l =
    with_front l.children.items l.parts.items (units_at l.few (l.count - l.counter) l.rest)
    ≡ units_at l.few l.count l.bytes
