use Rattle.std.proofs.Common.{sym, subst, arith}
use Rattle.row_check.specs.WrongTags.{IsWrongTag}
use Rattle.row_check.proofs.StrangeTags.{least_wrong}
use Rattle.row_check.proofs.TagsInTurn.{one_more, least_here}
use Rattle.row_check.proofs.tags.wrong_tag.Goals as goal

pub loop-tag-init : goal.loop-tag-init
loop-tag-init c = λ low l. absurd (omega (arith, l))

pub returns-then-not-branch : goal.returns-then-not-branch
returns-then-not-branch c =
    least_here c.args.rows.now c.loop-tag.tag c.in_ok-is_right.field-0 c.if-not-branch.true c.in_ok-is_right.ensures
    c.loop-tag.invariant

pub loop-tag-preserved : goal.loop-tag-preserved
loop-tag-preserved c =
    one_more c.args.rows.now c.loop-tag.tag c.in_ok-is_right.field-0 c.if-not-branch.false c.in_ok-is_right.ensures
    c.loop-tag.invariant

pub returns : goal.returns
returns c =
    subst (IsWrongTag c.args.rows.now) (sym c.strange_tag.ensures)
    (least_wrong c.args.rows.now (λ low l. c.loop-tag.invariant low (omega (arith, l, c.loop-tag-test.false))))
