use Rattle.std.proofs.Common.{take}
use Rattle.version_select.specs.Kept.{KeepsChoices}
use Rattle.version_select.proofs.selection.choices_of.Given as goal

abbrev pub invariant-loop-candidate : goal.invariant-loop-candidate
invariant-loop-candidate l = KeepsChoices (take l.candidate-index l.candidates) l.choices.entries
