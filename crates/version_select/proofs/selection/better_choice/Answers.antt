use Rattle.std.proofs.Common.{◌≡◌, false, true, refl}
use Rattle.version_select.proofs.Choices.{choice_changes, choice_holds}
use Rattle.version_select.proofs.selection.better_choice.Goals as goal

pub returns-then-improves : goal.returns-then-improves
returns-then-improves c = λ seen h.
    choice_changes seen c.args.candidate.now c.args.before (c.if-improves.ensures.0 refl) h

pub returns-else-improves : goal.returns-else-improves
returns-else-improves c = λ seen h.
    choice_holds seen c.args.candidate.now c.args.before
    (λ better. let both : false ≡ true = c.if-improves.ensures.1 better in absurd cc) h
