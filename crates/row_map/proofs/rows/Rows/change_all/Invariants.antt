use Rattle.std.proofs.Common.{◌≡◌}
use Rattle.row_map.specs.Rows.{changed}
use Rattle.row_map.proofs.Rooms.{IsReady}
use Rattle.row_map.proofs.rows.Rows.change_all.Given as goal

-- what is left of the batch leads to the same rows, and has room where all of it had
abbrev pub invariant-loop-row : goal.invariant-loop-row
invariant-loop-row l = record {
  leads : changed l.self l.row-iterator.rest.items ≡ changed l.fn.self l.fn.rows.items;
  ready : IsReady l.fn.rows.items l.fn.self → IsReady l.row-iterator.rest.items l.self;
}
