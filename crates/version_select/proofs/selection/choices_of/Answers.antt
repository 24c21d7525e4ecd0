use Rattle.std.proofs.Common.{take}
use Rattle.version_select.proofs.KeptLemmas.{kept_more, seen_more}
use Rattle.version_select.proofs.selection.choices_of.Goals as goal

pub loop-candidate-preserved : goal.loop-candidate-preserved
loop-candidate-preserved c =
    let seen = take c.loop-candidate.candidate-index c.args.candidates.now in
    let one = c.candidate-item.result in
    rw (seen_more c.args.candidates.now c.loop-candidate.candidate-index one c.loop-candidate-test.true
    c.candidate-item.is)
    (kept_more seen one c.loop-candidate.choices.entries c.insert.new.self.entries c.better_choice-after.result
    c.in_ok-insert.ensures.updates.0
    (λ h. c.better_choice-after.ensures seen (rw c.choice_at-before.ensures h)) c.loop-candidate.invariant)
