use Rattle.std.proofs.Common.{sym, refl, ap, ◌∙◌}
use Rattle.call_turn.proofs.closing.has_lane.Goals as goal

pub returns-then-passes-place : goal.returns-then-passes-place
returns-then-passes-place g c = ((λ _. (c.loop-place.place, c.index-passes-place.result, c.loop-place-test.true, sym c.index-passes-place.is, ap (λ p. p.lane) c.index-passes-place.is ∙ c.if-passes-place.true)), λ _. refl)
