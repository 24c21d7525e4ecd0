use Rattle.std.proofs.Common.{sym, arith, ◌∙◌}
use Rattle.std.proofs.lemmas.List.{length-take-le, take_rest}
use Rattle.module_digest.proofs.LineLemmas.{entry_read, entry_unread}
use Rattle.module_digest.proofs.lines.entry_of.Goals as goal

pub slice_bounds-digits-end : goal.slice_bounds-digits-end
slice_bounds-digits-end c = sym (length-take-le 64 c.args.line.now (omega arith))

pub returns-clause-entry : goal.returns-clause-entry
returns-clause-entry c =
    entry_read c.args.line.now c.in_ok-path.path _ (omega arith) (sym c.if-not-all_lower_digits.ensures)
    c.if-line-ne32.false
    (rw take_rest at c.in_ok-path.ensures) c.entry_with.ensures

pub returns-in_err-path-clause-entry : goal.returns-in_err-path-clause-entry
returns-in_err-path-clause-entry c =
    c.from_residual.ensures ∙ entry_unread c.args.line.now (rw take_rest at c.in_err-path.ensures)
