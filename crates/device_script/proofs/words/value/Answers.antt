use Rattle.std.proofs.Common.{◌+◌, ◌*◌, ◌-◌, arith}
use Rattle.std.proofs.lemmas.List.{take_all}
use Rattle.std.proofs.lemmas.List.Sums.{fold_more}
use Rattle.std.proofs.lemmas.Bool.Decides.{nat_tests}
use Rattle.device_script.proofs.Values.{front_at_most}
use Rattle.device_script.proofs.words.value.Goals as goal

pub returns-in_err-checked_mul : goal.returns-in_err-checked_mul
returns-in_err-checked_mul c =
    let ds = c.args.digits.now in
    let i = c.loop-b.b-index in
    let most = front_at_most ds (i + 1) in
    let more = fold_more (λ n d. 10 * n + (d - 48)) 0 ds i 0 (omega arith) in
    rw c.from_residual.ensures (grind (arith, nat_tests, most, more))

pub returns-in_err-n : goal.returns-in_err-n
returns-in_err-n c =
    let ds = c.args.digits.now in
    let i = c.loop-b.b-index in
    let most = front_at_most ds (i + 1) in
    let more = fold_more (λ n d. 10 * n + (d - 48)) 0 ds i 0 (omega arith) in
    rw c.from_residual-in_err-n.ensures (grind (arith, nat_tests, most, more))

pub returns : goal.returns
returns c =
    let whole = take_all c.loop-b.b-index c.args.digits.now (omega arith) in
    let digits = rw whole at c.loop-b.invariant.digits in
    let value = rw whole at c.loop-b.invariant.value in
    grind (arith, nat_tests, digits, value)
