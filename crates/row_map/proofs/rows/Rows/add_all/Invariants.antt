use Rattle.std.proofs.Common.{◌≡◌, ℕ, List, false, drop, map}
use Rattle.row_map.specs.Rows.{RowMap}
use Rattle.row_map.specs.Room.{in_batch, Back, Agrees, HasRoom, Grows}
use Rattle.row_map.proofs.rows.Rows.add_all.Given as goal

-- the rows so far have room, and can be taken back
abbrev pub invariant-loop-row : goal.invariant-loop-row
invariant-loop-row l = record {
  back : Back (map (λ key. key.now) l.added.items) l.fn.self l.self;
  agrees : Agrees l.rows l.fn.self l.self;
  inside : (q : List ℕ) → in_batch q l.rows ≡ false → in_batch q (drop l.row-index l.rows) ≡ false;
  room : (m : RowMap) → Grows l.self m → HasRoom (drop l.row-index l.rows) m → HasRoom l.rows m;
}
