use Rattle.std.proofs.Common.{◌≡◌, ◌∷◌, ◌+◌, ℕ, List, false, drop, sym, subst}
use Rattle.row_codec.specs.declared.batch.Row.{Row}
use Rattle.row_map.specs.Rows.{RowMap}
use Rattle.row_map.specs.Room.{in_batch, HasRoom, Grows}
use Rattle.row_map.proofs.Rooms.{drop_here, agrees_more, inside_more, room_more}
use Rattle.row_map.proofs.rows.Rows.add_all.Goals as goal

pub loop-row-preserved : goal.loop-row-preserved
loop-row-preserved c =
    let i = c.loop-row.row-index in
    let xs = c.args.rows.now in
    let r : Row = c.row-item.result in
    let rest = drop (i + 1) xs in
    let split : drop i xs ≡ r ∷ rest = drop_here xs i r c.loop-row-test.true (sym c.row-item.is) in
    let a = c.in_ok-add.ensures.adds in
    let inside = subst (λ (rs : List Row). (q : List ℕ) → in_batch q xs ≡ false
    → in_batch q rs ≡ false) split c.loop-row.invariant.inside in
    let room = subst (λ (rs : List Row). (m : RowMap) → Grows c.loop-row.self m → HasRoom rs m
    → HasRoom xs m) split c.loop-row.invariant.room in
    record {
      back = a.noted c.args.self.now c.loop-row.invariant.back;
      agrees = agrees_more xs rest r c.args.self.now c.loop-row.self c.add.new.self _ _ a inside
          c.loop-row.invariant.agrees;
      inside = inside_more xs rest r inside;
      room = room_more xs rest r c.loop-row.self c.add.new.self _ _ a c.in_ok-add.ensures.covers room;
    }
