use Rattle.std.proofs.Common.{◌≡◌, ℕ, rules, sym, refl, ap, subst, map, false, true, ◌∙◌}
use Rattle.call_turn.specs.History.{IsAll}
use Rattle.call_turn.proofs.Ends.{rests, closes}
use Rattle.call_turn.proofs.shared.Turn.close.Goals as goal

distinct : false ≡ true → ⊥
distinct e = Prim.search rules

pub returns-then-not-has_all-clause-err : goal.returns-then-not-has_all-clause-err
returns-then-not-has_all-clause-err g c =
    let every = ap (λ l. map (λ p. p.lane) l) c.as_slice.ensures.value in
    ((λ all. distinct (sym c.if-not-has_all.true ∙ c.has_all.ensures.1 (subst (λ ns. IsAll c.args.self.lanes ns) (sym every) all))), refl, refl, Prim.search rules)

pub returns-clause-ok : goal.returns-clause-ok
returns-clause-ok g c =
    let v = c.close_with-closed.ensures.values in
    let s = c.gather-seat.ensures in
    let every = ap (λ l. map (λ p. p.lane) l) c.as_slice.ensures.value in
    let all : IsAll c.args.self.lanes (map (λ p. p.lane) c.args.passes.items) = subst (λ ns. IsAll c.args.self.lanes ns) every (c.has_all.ensures.0 c.if-not-has_all.false) in
    let key = c.args.self.table.shared.key in (
      all,
      closes g.O.OneThread.history g.O.OneThread.start (λ p. p.lane) (λ p. p.seat.me) (λ p. p.step) c.args.passes.items key.lanes key.object.value _ c.gather-seat.result.me.0 _ _ c.take-object.result
          (λ p. rests g.O.OneThread.history g.O.OneThread.start 0 key.object.value p.lane p.step p.seat.me p.idle)
          (subst (λ (n : ℕ). IsAll n (map (λ p. p.lane) c.args.passes.items)) c.args.self.counted.0 all)
          s.2 s.3 v.2 c.take-object.ensures.value,
    )
