use Rattle.std.proofs.Common.{arith, ap}
use mathlib.Core.Option.{none}
use Rattle.atomic_table.specs.Table.{step}
use Rattle.call_turn.proofs.Keeps.{draws, asks}
use Rattle.call_turn.proofs.shared.Turn.wait.Goals as goal

pub fetch_add-ticket-requires : goal.fetch_add-ticket-requires
fetch_add-ticket-requires g c = let t = c.args.self.now.table.shared in
    (c.requires.place.0, omega (arith, c.args.self.now.sized.0), draws g.O.OneThread.history g.O.OneThread.start t.key.lanes t.key.object.value _ _ _ (step 0 2 0 0 none) c.requires.place.2 c.requires.calls.0 c.requires.calls.1)

pub load-requires : goal.load-requires
load-requires g c = let i = c.loop.invariant in let t = c.args.self.now.table.shared in
    (i.0, omega (arith, c.args.self.now.sized.0), asks g.O.OneThread.history g.O.OneThread.start t.key.lanes t.key.object.value _ _ _ (step 0 2 0 0 none) (ap (λ v. v.stage) i.3))
