use Rattle.std.proofs.Common.{◌≡◌, [], ◌∷◌, ◌++◌, sym, ap, ◌∙◌}
use Rattle.row_codec.specs.Slices.{row_seen}
use Rattle.row_codec.proofs.Loop.{next_row, no_row, bytes_left, none_left}
use Rattle.row_codec.proofs.decode.rows_of.Goals as goal

pub returns-in_default : goal.returns-in_default
returns-in_default c =
    no_row c.loop.rows.items c.loop.low.now c.args.count c.loop.counter c.loop.rest.now _ c.loop-test.true
    (sym c.in_default.ensures) c.loop.invariant

pub loop-preserved : goal.loop-preserved
loop-preserved c =
    let row = row_seen c.in-Some.row in
    let items : c.push.new.self.items ≡ c.loop.rows.items ++ row ∷ [] =
    c.in_ok-push.ensures.items ∙ ap (λ r. c.loop.rows.items ++ r ∷ []) c.in_ok-owned.ensures in
    rw items
    (next_row c.loop.rows.items c.loop.low.now c.args.count c.loop.counter c.loop.rest.now row
    c.in-Some.after.now _ c.loop-test.true (sym c.in-Some.ensures) c.loop.invariant)

pub returns-then-not-is_empty : goal.returns-then-not-is_empty
returns-then-not-is_empty c =
    bytes_left c.loop.rows.items c.loop.low.now c.args.count c.loop.counter c.loop.rest.now _ c.loop-test.false
    c.if-not-is_empty.ensures c.loop.invariant

pub returns : goal.returns
returns c =
    none_left c.loop.rows.items c.loop.low.now c.args.count c.loop.counter c.loop.rest.now _ c.loop-test.false
    c.if-not-is_empty.ensures c.loop.invariant
