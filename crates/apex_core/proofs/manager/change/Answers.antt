use Rattle.std.proofs.Common.{◌≡◌, ◌∙◌, refl, rules}
use Rattle.row_map.specs.Rows.{changed}
use Rattle.row_map.proofs.Rooms.{table_after}
use Rattle.apex_core.proofs.Performed.{weighs, small_now, small_next, weighs_next, stands_next, stands_same, if_err}
use Rattle.apex_core.proofs.manager.change.Goals as goal

pub weight_after-weight-requires-clause-weighs : goal.weight_after-weight-requires-clause-weighs
weight_after-weight-requires-clause-weighs c =
    let (w, call, s, j) = c.requires.judged in
    c.in_ok-make_room.ensures.same.weight ∙ weighs c.args.rows.now c.args.tables.now w s

pub weight_after-weight-requires-clause-small : goal.weight_after-weight-requires-clause-small
weight_after-weight-requires-clause-small c =
    let (w, call, s, j) = c.requires.judged in small_now c.args.rows.now c.args.tables.now w s

pub weight_after-weight-requires-clause-small_after : goal.weight_after-weight-requires-clause-small_after
weight_after-weight-requires-clause-small_after c =
    let (w, call, s, j) = c.requires.judged in
    rw c.deref.ensures.value (small_next c.args.rows.now c.args.tables.now w s call c.args.judged j)

pub returns-clause-stands : goal.returns-clause-stands
returns-clause-stands c w call s j =
    let judged = c.args.judged in
    let rows : c.change_all.new.self ≡ changed c.args.rows.now judged.rows.items =
    table_after judged.rows.items c.deref-2.result.now c.args.rows.now c.make_room-2.new.self c.change_all.new.self
    c.change_all.result c.deref-2.ensures.value c.in_ok-added.ensures.agrees c.in_ok-added.ensures.room
    (c.change_all.ensures.takes_none c.requires.ascending) c.change_all.ensures.changed in
    let after = (rw c.deref.ensures.value at c.weight_after-weight.ensures)
    ∙ weighs_next c.args.rows.now c.args.tables.now w s call judged j in
    stands_next c.args.rows.now c.change_all.new.self c.make_room.new.tables c.apply.new.tables w
    call judged c.weight_after-weight.result
    (stands_same c.args.rows.now c.args.rows.now c.args.tables.now c.make_room.new.tables w s refl
    c.in_ok-make_room.ensures.same) j rows after c.apply.ensures

pub returns-in_err-added-clause-stays : goal.returns-in_err-added-clause-stays
returns-in_err-added-clause-stays c w s =
    if_err c.from_residual-in_err-added.result
    (stands_same c.args.rows.now c.make_room-2.new.self c.args.tables.now c.make_room.new.tables w s (search rules)
    c.in_ok-make_room.ensures.same)
