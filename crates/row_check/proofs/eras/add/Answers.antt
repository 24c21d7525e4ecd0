use Rattle.std.proofs.lemmas.Result.{on_ok_weaker}
use Rattle.std.proofs.Common.{◌≡◌, ◌∙◌, true, false, sym, ap}
use Rattle.std.specs.FinMap as fin
use Rattle.std.specs.Option.{is_some}
use Rattle.row_check.proofs.EraParts.{held_value, put_value}
use Rattle.row_check.proofs.eras.add.Goals as goal

pub returns-then-has : goal.returns-then-has
returns-then-has c =
    let there : is_some (fin.get c.args.values.now c.args.key.items) ≡ true =
    ap (λ k. is_some (fin.get c.args.values.now k)) (sym c.as_slice.ensures.value) ∙ sym c.has.ensures ∙ c.if-has.true in
    held_value c.args.values.now c.args.key.items c.args.value.items there

pub returns-else-has : goal.returns-else-has
returns-else-has c =
    let gone : is_some (fin.get c.args.values.now c.args.key.items) ≡ false =
    ap (λ k. is_some (fin.get c.args.values.now k)) (sym c.as_slice.ensures.value) ∙ sym c.has.ensures ∙ c.if-has.false in
    on_ok_weaker c.put.result
    (put_value c.args.values.now c.put.new.self c.args.key.items c.args.value.items c.of.result c.of.ensures gone) c.put.ensures.put
