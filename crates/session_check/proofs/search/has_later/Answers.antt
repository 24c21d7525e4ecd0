use Rattle.std.proofs.Common.{◌≡◌, ◌<◌, ◌+◌, arith, subst, sym, ap, false, length, nat_lt, ◌∙◌}
use Rattle.std.proofs.lemmas.Bool.Decides.{nat_tests}
use Rattle.std.specs.Str.{bytes_eq}
use Rattle.session_check.specs.declared.marks.Mark.{Mark}
use Rattle.session_check.specs.Marks.{IsPlace}
use Rattle.session_check.proofs.Places.{none_later, later_here}
use Rattle.session_check.proofs.search.has_later.Goals as goal

pub returns-then-next-marks : goal.returns-then-next-marks
returns-then-next-marks c =
    let p = subst (λ b. IsPlace c.args.marks.now c.args.name.now (b + 1) c.place-next.result)
    c.from.ensures c.place-next.ensures in
    let within : c.place-next.result < length c.args.marks.now = omega arith in
    later_here c.args.marks.now c.requires c.args.name.now c.args.boot c.place-next.result p c.index-marks-next.result
    c.is_same.result within c.index-marks-next.is
    (ap (λ (m : Mark). bytes_eq m.name c.args.name.now) c.index-marks-next.is ∙ sym c.is_same.ensures)

pub returns-else-next-marks : goal.returns-else-next-marks
returns-else-next-marks c =
    let p = subst (λ b. IsPlace c.args.marks.now c.args.name.now (b + 1) c.place-next.result)
    c.from.ensures c.place-next.ensures in
    let past : nat_lt c.place-next.result (length c.args.marks.now) ≡ false = grind (arith, nat_tests) in
    past ∙ none_later c.args.marks.now c.requires c.args.name.now c.args.boot c.place-next.result p (omega arith)
