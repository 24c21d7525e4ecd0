use Rattle.std.proofs.Common.{sym, ◌∙◌, arith}
use Rattle.std.proofs.lemmas.List.{take_rest}
use Rattle.device_script.proofs.WordLemmas.{words_cut}
use Rattle.device_script.proofs.words.after_spaces.Goals as goal

pub returns-then-b-ne32-clause-words : goal.returns-then-b-ne32-clause-words
returns-then-b-ne32-clause-words c =
    rw take_rest (sym c.loop-i.invariant.words ∙ words_cut c.args.line.now c.loop-i.i (omega arith) c.if-b-ne32.true)
