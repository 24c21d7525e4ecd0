use Rattle.std.proofs.Common.{arith, ◌≡◌, ◌++◌, append_assoc, ap, sym, refl, Some, flat_map, ◌∙◌}
use Rattle.call_turn.proofs.Ends.{rests, joins, popped, flat_pop}
use Rattle.call_turn.proofs.shared.Turn.gather.Goals as goal

pub loop-pass-init : goal.loop-pass-init
loop-pass-init g c =
    let p = popped (λ p. p.seat.table_id ≡ c.args.self.now.table.shared.table_id) c.args.passes.items c.pop.new.self.items c.pop.result c.unwrap-seat.result c.pop.ensures.items c.unwrap-seat.ensures c.requires.passes in
    let r = rests g.O.OneThread.history g.O.OneThread.start 0 c.args.self.now.table.shared.key.object.value c.unwrap-seat.result.lane c.unwrap-seat.result.step c.unwrap-seat.result.seat.me c.unwrap-seat.result.idle in
    (p.1, r.empty, r.stage, flat_pop (λ p. p.seat.me.0.owns) c.args.passes.items c.pop.new.self.items c.pop.result c.unwrap-seat.result c.pop.ensures.items c.unwrap-seat.ensures, p.0)

pub join_seat-requires : goal.join_seat-requires
join_seat-requires g c =
    let t = c.args.self.now.table.shared in
    let i = c.loop-pass.invariant in
    let p = popped (λ p. p.seat.table_id ≡ t.table_id) c.loop-pass.passes.items c.pop-in-loop-pass.new.self.items (Some c.in-Some.pass) c.in-Some.pass c.in-Some.ensures.items refl i.4 in
    let r = rests g.O.OneThread.history g.O.OneThread.start 0 c.args.self.now.table.shared.key.object.value c.in-Some.pass.lane c.in-Some.pass.step c.in-Some.pass.seat.me c.in-Some.pass.idle in
    (i.0, p.1, r.empty, omega (arith, c.args.self.now.sized.0), joins g.O.OneThread.history g.O.OneThread.start t.key.lanes t.key.object.value _ _ _ _ i.2 r.stage)

pub loop-pass-preserved : goal.loop-pass-preserved
loop-pass-preserved g c =
    let t = c.args.self.now.table.shared in
    let i = c.loop-pass.invariant in
    let j = c.join_seat.ensures in
    let p = popped (λ p. p.seat.table_id ≡ t.table_id) c.loop-pass.passes.items c.pop-in-loop-pass.new.self.items (Some c.in-Some.pass) c.in-Some.pass c.in-Some.ensures.items refl i.4 in
    let f = flat_pop (λ p. p.seat.me.0.owns) c.loop-pass.passes.items c.pop-in-loop-pass.new.self.items (Some c.in-Some.pass) c.in-Some.pass c.in-Some.ensures.items refl in (
      j.0 ∙ i.0,
      ap (λ m. m.1) j.2 ∙ i.1,
      ap (λ m. m.0.stage) j.2 ∙ i.2,
      i.3 ∙ (ap (λ l. l ++ c.loop-pass.seat.me.0.owns) f ∙ (append_assoc (flat_map (λ p. p.seat.me.0.owns) c.pop-in-loop-pass.new.self.items) c.in-Some.pass.seat.me.0.owns c.loop-pass.seat.me.0.owns
          ∙ ap (λ l. flat_map (λ p. p.seat.me.0.owns) c.pop-in-loop-pass.new.self.items ++ l) (sym (ap (λ m. m.0.owns) j.2)))),
      p.0,
    )
