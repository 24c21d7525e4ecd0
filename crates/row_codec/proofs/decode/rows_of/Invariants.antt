use Rattle.std.proofs.Common.{◌≡◌, [], ◌-◌}
use Rattle.row_codec.specs.Batch.{rows_of}
use Rattle.row_codec.proofs.Loop.{with_front}
use Rattle.row_codec.proofs.decode.rows_of.Given as goal

abbrev pub invariant-loop : goal.invariant-loop
invariant-loop l = with_front l.rows.items (rows_of l.low (l.count - l.counter) l.rest) ≡ rows_of [] l.count l.bytes
