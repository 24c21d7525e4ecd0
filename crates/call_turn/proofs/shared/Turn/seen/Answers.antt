use Rattle.std.proofs.Common.{arith}
use mathlib.Core.Option.{none}
use Rattle.atomic_table.specs.Table.{step}
use Rattle.call_turn.proofs.Keeps.{looks}
use Rattle.call_turn.proofs.Ends.{rests, looked, idle_again, looked_known}
use Rattle.call_turn.proofs.shared.Turn.seen.Goals as goal

pub load-requires : goal.load-requires
load-requires g c = let t = c.args.self.now.table.shared in
    (c.requires, omega (arith, c.args.self.now.sized.0), looks g.O.OneThread.history g.O.OneThread.start t.key.lanes t.key.object.value _ _ _ (step 0 2 0 0 none))

pub invariant_of-pass : goal.invariant_of-pass
invariant_of-pass g c =
    let l = c.load.ensures in
    let p = c.args.pass.now in
    let key = c.args.self.now.table.shared.key in
    let r = rests g.O.OneThread.history g.O.OneThread.start key.lanes key.object.value p.lane p.step p.seat.me p.idle in
    record {
      idle = idle_again g.O.OneThread.history g.O.OneThread.start key.lanes key.object.value p.lane p.step c.load.new.seat.me
          (looked g.O.OneThread.history g.O.OneThread.start key.lanes key.object.value p.lane p.step p.seat.me c.load.new.seat.me c.load.result r l.2.0 l.2.2);
    }

pub returns-clause-known : goal.returns-clause-known
returns-clause-known g c =
    let l = c.load.ensures in
    let p = c.args.pass.now in
    let key = c.args.self.now.table.shared.key in
    let r = rests g.O.OneThread.history g.O.OneThread.start key.lanes key.object.value p.lane p.step p.seat.me p.idle in
    looked_known g.O.OneThread.history g.O.OneThread.start key.lanes key.object.value p.lane p.step p.seat.me c.load.new.seat.me c.load.result r l.2.1 l.2.2
