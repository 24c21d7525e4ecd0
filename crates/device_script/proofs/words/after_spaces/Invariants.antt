use Rattle.std.proofs.Common.{◌≡◌, drop}
use Rattle.device_script.specs.Words.{words_of, cut_word}
use Rattle.device_script.proofs.words.after_spaces.Given as goal

-- the bytes so far are spaces
abbrev pub invariant-loop-i : goal.invariant-loop-i
invariant-loop-i l = record {
  cut : cut_word (drop l.i l.line) ≡ cut_word l.line;
  words : words_of (drop l.i l.line) ≡ words_of l.line;
}
