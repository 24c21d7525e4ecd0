use Rattle.std.proofs.Common.{sym, ◌∙◌}
use Rattle.device_script.proofs.DigitLemmas.{none_spelled}
use Rattle.device_script.proofs.words.hexadecimal.bytes_of.Goals as goal

pub returns-then-not-all_digits : goal.returns-then-not-all_digits
returns-then-not-all_digits c =
    sym (none_spelled c.args.digits.now (sym c.all_digits.ensures ∙ c.if-not-all_digits.true))
