use Rattle.std.proofs.Common.{◌∙◌, subst, sym}
use Rattle.session_check.specs.Marks.{IsPlace}
use Rattle.session_check.proofs.Places.{none_first, none_here, last_here}
use Rattle.session_check.proofs.search.last_before.Goals as goal

pub returns-then-next-eq0 : goal.returns-then-next-eq0
returns-then-next-eq0 c =
    let p = subst (λ b. IsPlace c.args.marks.now c.args.name.now b c.place-next.result)
    c.from.ensures c.place-next.ensures in
    none_first c.args.marks.now c.requires c.args.name.now c.args.boot c.place-next.result p c.if-next-eq0.true

pub returns-then-is_same : goal.returns-then-is_same
returns-then-is_same c =
    let p = subst (λ b. IsPlace c.args.marks.now c.args.name.now b c.place-next.result)
    c.from.ensures c.place-next.ensures in
    last_here c.args.marks.now c.requires c.args.name.now c.args.boot c.place-next.result p
    c.index-marks-next.result c.if-next-eq0.false c.index-marks-next.is (sym c.is_same.ensures ∙ c.if-is_same.true)

pub returns-else-is_same : goal.returns-else-is_same
returns-else-is_same c =
    let p = subst (λ b. IsPlace c.args.marks.now c.args.name.now b c.place-next.result)
    c.from.ensures c.place-next.ensures in
    none_here c.args.marks.now c.requires c.args.name.now c.args.boot c.place-next.result p
    c.index-marks-next.result c.if-next-eq0.false c.index-marks-next.is (sym c.is_same.ensures ∙ c.if-is_same.false)
