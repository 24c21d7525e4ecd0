use Rattle.std.proofs.Common.{sym, ◌∙◌, arith}
use Rattle.std.proofs.lemmas.Bool.Decides.{nat_tests}
use Rattle.device_script.proofs.KeywordLemmas.{by_length, none_so_long}
use Rattle.device_script.proofs.keyword.keyword_of.Goals as goal

pub returns-in-3 : goal.returns-in-3
returns-in-3 c = c.of_three.ensures ∙ sym (by_length c.args.word.now 3 (omega arith))

pub returns-in-4 : goal.returns-in-4
returns-in-4 c = c.of_four.ensures ∙ sym (by_length c.args.word.now 4 (omega arith))

pub returns-in-5 : goal.returns-in-5
returns-in-5 c = c.of_five.ensures ∙ sym (by_length c.args.word.now 5 (omega arith))

pub returns-in-6 : goal.returns-in-6
returns-in-6 c = c.of_six.ensures ∙ sym (by_length c.args.word.now 6 (omega arith))

pub returns-in-7 : goal.returns-in-7
returns-in-7 c = c.of_seven.ensures ∙ sym (by_length c.args.word.now 7 (omega arith))

pub returns-in-8 : goal.returns-in-8
returns-in-8 c = c.of_eight.ensures ∙ sym (by_length c.args.word.now 8 (omega arith))

pub returns-in_default : goal.returns-in_default
returns-in_default c = sym (none_so_long c.args.word.now (grind (arith, nat_tests)))
