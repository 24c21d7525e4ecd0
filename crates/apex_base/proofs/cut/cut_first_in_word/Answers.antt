use Rattle.std.proofs.Common.{◌==◌, sym}
use Rattle.std.proofs.lemmas.List.{take_rest}
use Rattle.apex_base.proofs.Cuts.{split_none, split_some}
use Rattle.apex_base.proofs.cut.cut_first_in_word.Goals as goal

pub returns-in_err-at-clause-parts : goal.returns-in_err-at-clause-parts
returns-in_err-at-clause-parts c = rw c.from_residual.ensures (split_none _ _ (sym c.in_err-at.ensures.position))

pub returns-clause-parts : goal.returns-clause-parts
returns-clause-parts c =
    rw take_rest (split_some (λ b. b == c.args.separator) c.args.bytes.now c.in_ok-at.at 0
    (sym c.in_ok-at.ensures.position))
