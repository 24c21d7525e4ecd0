use Rattle.std.proofs.Common.{sym, ◌∙◌}
use Rattle.row_check.proofs.MomentSteps.{next_moment, no_moment, none_left}
use Rattle.row_check.proofs.boots.are_moments.Goals as goal

pub returns-in-None : goal.returns-in-None
returns-in-None c =
    no_moment c.args.count c.loop.counter c.loop.rest.now _ c.loop-test.true (sym c.in-None.ensures) c.loop.invariant

pub loop-preserved : goal.loop-preserved
loop-preserved c =
    next_moment c.args.count c.loop.counter c.loop.rest.now _ _ _ c.loop-test.true (sym c.in-Some.ensures)
    c.loop.invariant

pub returns : goal.returns
returns c =
    c.is_empty.ensures
    ∙ none_left c.args.count c.loop.counter c.loop.rest.now _ c.loop-test.false c.loop.invariant
