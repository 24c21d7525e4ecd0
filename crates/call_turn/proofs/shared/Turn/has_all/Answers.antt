use Rattle.std.proofs.Common.{◌≡◌, ◌≢◌, ⊎_elim, arith, rules, sym, ◌∙◌, subst, refl}
use Rattle.std.specs.List.{Any}
use Rattle.std.proofs.lemmas.List.{length-map}
use Rattle.call_turn.proofs.Lists.{eq_or_ne}
use Rattle.call_turn.proofs.Ends.{among, any_from}
use Rattle.call_turn.proofs.shared.Turn.has_all.Goals as goal

pub returns-then-not-has_lane : goal.returns-then-not-has_lane
returns-then-not-has_lane g c =
    let i = c.loop-lane.invariant in
    ((λ e. absurd (Prim.search rules)), λ all. sym c.if-not-has_lane.true ∙ c.has_lane.ensures.1 (any_from (λ p. p.lane) c.loop-lane.lane c.args.passes.now (all.1 c.loop-lane.lane i.0 (omega (arith, c.loop-lane-test.true)))))

pub loop-lane-preserved : goal.loop-lane-preserved
loop-lane-preserved g c =
    let i = c.loop-lane.invariant in (
      omega arith,
      omega (arith, c.loop-lane-test.true),
      i.2,
      λ n low high. ⊎_elim (λ (e : n ≡ c.loop-lane.lane). subst (λ m. Any (λ p. p.lane ≡ m) c.args.passes.now) (sym e) (c.has_lane.ensures.0 c.if-not-has_lane.false))
          (λ (e : n ≢ c.loop-lane.lane). i.3 n low (omega (arith, high, e))) (eq_or_ne n c.loop-lane.lane),
    )

pub returns : goal.returns
returns g c =
    let i = c.loop-lane.invariant in
    ((λ _. (length-map c.args.passes.now (λ p. p.lane) ∙ i.2, λ n low high. among (λ p. p.lane) n c.args.passes.now (i.3 n low (omega (arith, high, c.loop-lane-test.false))))), λ _. refl)
