use Rattle.std.proofs.Common.{arith, ◌≡◌, ◌+◌, ◌-◌, ◌++◌, ◌∷◌, [], map, ap, sym, subst, ◌∙◌}
use Rattle.std.specs.List.{All}
use Rattle.std.proofs.lemmas.List.{map_push}
use Rattle.std.proofs.lemmas.List.Elements.{All-push}
use Rattle.call_turn.specs.Rule.{entries_of}
use Rattle.call_turn.proofs.Ends.{idle_again, splits_dealing, next_dealing, dealt, kept_last, lanes_on}
use Rattle.call_turn.proofs.shared.Turn.deal.Goals as goal

pub split_seat-other-requires : goal.split_seat-other-requires
split_seat-other-requires g c = let t = c.args.self.now.table.shared in let i = c.loop-lane.invariant in
    (i.4, omega (arith, c.args.self.now.sized.0), splits_dealing g.O.OneThread.history g.O.OneThread.start t.key.lanes t.key.object.value _ _ _ c.loop-lane.seat.me i.5)

pub loop-lane-preserved : goal.loop-lane-preserved
loop-lane-preserved g c =
    let t = c.args.self.now.table.shared in
    let i = c.loop-lane.invariant in
    let s = c.split_seat-other.ensures in
    let push = c.push_reserved.ensures in
    let k = c.loop-lane.lane in
    let n = c.args.self.now.lanes in
    let history = g.O.OneThread.history in
    let start_of = g.O.OneThread.start in
    let d = dealt history start_of t.key.lanes t.key.object.value k n c.loop-lane.seat.me c.split_seat-other.result.me i.5 s.4 in (
      omega arith,
      omega (arith, c.loop-lane-test.true),
      omega (arith, push.len, i.2),
      omega (arith, push.capacity, i.3),
      s.0 ∙ i.4,
      next_dealing history start_of t.key.lanes t.key.object.value k n c.loop-lane.seat.me c.split_seat-other.new.seat.me (omega (arith, c.loop-lane-test.true)) i.5 s.2,
      ap (λ l. map (λ p. p.lane) l) push.items ∙ (map_push (λ p. p.lane) c.loop-lane.passes.items _ ∙ (ap (λ l. l ++ k ∷ []) i.6 ∙ lanes_on k (k + 1 - 1) i.0 (omega arith))),
      subst (λ l. All (λ p. (p.seat.table_id ≡ t.table_id) × (p.step ≡ 0) × (entries_of p.seat.me.0.owns ≡ [])) l) (sym push.items)
          (All-push (λ p. (p.seat.table_id ≡ t.table_id) × (p.step ≡ 0) × (entries_of p.seat.me.0.owns ≡ [])) c.loop-lane.passes.items _ i.7 (s.3 ∙ i.4, d.1, d.2)),
    )

pub returns-clause-lanes : goal.returns-clause-lanes
returns-clause-lanes g c =
    let i = c.loop-lane.invariant in
    ap (λ l. map (λ p. p.lane) l) c.push_reserved-2.ensures.items ∙ (map_push (λ p. p.lane) c.loop-lane.passes.items _ ∙ (ap (λ l. l ++ c.loop-lane.lane ∷ []) i.6 ∙ lanes_on c.loop-lane.lane c.args.self.now.lanes i.0 (omega (arith, i.1, c.loop-lane-test.false))))

pub returns-clause-passes : goal.returns-clause-passes
returns-clause-passes g c =
    let t = c.args.self.now.table.shared in
    let i = c.loop-lane.invariant in
    let d = kept_last g.O.OneThread.history g.O.OneThread.start t.key.lanes t.key.object.value c.loop-lane.lane c.args.self.now.lanes c.loop-lane.seat.me (omega (arith, c.loop-lane-test.false)) i.5 in
    subst (λ l. All (λ p. (p.seat.table_id ≡ t.table_id) × (p.step ≡ 0) × (entries_of p.seat.me.0.owns ≡ [])) l) (sym c.push_reserved-2.ensures.items)
    (All-push (λ p. (p.seat.table_id ≡ t.table_id) × (p.step ≡ 0) × (entries_of p.seat.me.0.owns ≡ [])) c.loop-lane.passes.items _ i.7 (i.4, d.1, d.2))

pub invariant_of-push_reserved : goal.invariant_of-push_reserved
invariant_of-push_reserved g c =
    let key = c.args.self.now.table.shared.key in
    let d = dealt g.O.OneThread.history g.O.OneThread.start key.lanes key.object.value c.loop-lane.lane c.args.self.now.lanes c.loop-lane.seat.me c.split_seat-other.result.me c.loop-lane.invariant.5 c.split_seat-other.ensures.4 in
    record { idle = idle_again g.O.OneThread.history g.O.OneThread.start key.lanes key.object.value c.loop-lane.lane 0 c.split_seat-other.result.me d.0 }

pub invariant_of-push_reserved-2 : goal.invariant_of-push_reserved-2
invariant_of-push_reserved-2 g c =
    let key = c.args.self.now.table.shared.key in
    let d = kept_last g.O.OneThread.history g.O.OneThread.start key.lanes key.object.value c.loop-lane.lane c.args.self.now.lanes c.loop-lane.seat.me (omega (arith, c.loop-lane-test.false)) c.loop-lane.invariant.5 in
    record { idle = idle_again g.O.OneThread.history g.O.OneThread.start key.lanes key.object.value c.loop-lane.lane 0 c.loop-lane.seat.me d.0 }
