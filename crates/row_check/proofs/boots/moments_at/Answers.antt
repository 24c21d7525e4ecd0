use Rattle.std.proofs.Common.{◌≡◌, [], ◌∷◌, ◌++◌, sym}
use Rattle.row_check.proofs.MomentLists.{next_moment, no_moment, bytes_left, none_left}
use Rattle.row_check.proofs.boots.moments_at.Goals as goal

pub returns-in_default : goal.returns-in_default
returns-in_default c =
    no_moment c.loop.moments.items c.args.count c.loop.counter c.loop.rest.now _ c.loop-test.true
    (sym c.in_default.ensures) c.loop.invariant

pub loop-preserved : goal.loop-preserved
loop-preserved c =
    let items : c.push.new.self.items ≡ c.loop.moments.items ++ c.in-Some.found.0 ∷ [] = c.in_ok-push.ensures.items in
    rw items
    (next_moment c.loop.moments.items c.args.count c.loop.counter c.loop.rest.now c.in-Some.found.0
    c.in-Some.found.1.now _ c.loop-test.true (sym c.in-Some.ensures) c.loop.invariant)

pub returns-then-not-is_empty : goal.returns-then-not-is_empty
returns-then-not-is_empty c =
    bytes_left c.loop.moments.items c.args.count c.loop.counter c.loop.rest.now _ c.loop-test.false
    c.if-not-is_empty.ensures c.loop.invariant

pub returns : goal.returns
returns c =
    none_left c.loop.moments.items c.args.count c.loop.counter c.loop.rest.now _ c.loop-test.false
    c.if-not-is_empty.ensures c.loop.invariant
