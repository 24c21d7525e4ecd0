use Rattle.std.proofs.Common.{◌+◌, inl, length}
use Rattle.apex_disk.specs.Disk.{Torn}
use Rattle.apex_disk.specs.Moments.{LeavesOnly}
use Rattle.apex_disk.proofs.Moments.{andthen}
use Rattle.apex_journal.specs.Gate.{MayBeGated}
use Rattle.apex_journal.proofs.Told.{widened}
use Rattle.apex_journal.proofs.Gates.{From, gate_torn}
use Rattle.apex_journal.proofs.gate.write_behind_gate.Given as given
use Rattle.apex_journal.proofs.gate.write_behind_gate.Goals.{After-write_and_sync-2}
use Rattle.apex_journal.proofs.gate.write_behind_gate.Goals as goal

pub returns-in-Err-clause-any_moment : goal.returns-in-Err-clause-any_moment
returns-in-Err-clause-any_moment g c =
    widened g.D.Disk.moment g.D.Disk.images_since c.args.disk.now c.write_and_sync.new.disk
    (From (g.D.Disk.images c.args.disk.now) (Torn (c.args.gate + 1) (length c.args.bytes.now)))
    (From (g.D.Disk.images c.args.disk.now) (MayBeGated c.args.gate c.args.bytes.now))
    c.write_and_sync.ensures.any_moment (λ f left. (left.0, left.1, inl left.2))

-- after both writes the device may hold the old bytes, the new ones with a closed gate, or with an open one
both : (g : given.Over) (c : After-write_and_sync-2 g)
    → LeavesOnly g.D.Disk.moment g.D.Disk.images_since c.args.disk.now c.write_and_sync-2.new.disk
    (From (g.D.Disk.images c.args.disk.now) (MayBeGated c.args.gate c.args.bytes.now))
both g c =
    andthen g.D.Disk.moment g.D.Disk.images_since c.args.disk.now c.write_and_sync.new.disk c.write_and_sync-2.new.disk
    (From (g.D.Disk.images c.args.disk.now) (Torn (c.args.gate + 1) (length c.args.bytes.now)))
    (From (g.D.Disk.images c.write_and_sync.new.disk) (Torn c.args.gate 1))
    (From (g.D.Disk.images c.args.disk.now) (MayBeGated c.args.gate c.args.bytes.now))
    c.write_and_sync.ensures.any_moment c.write_and_sync-2.ensures.any_moment
    (λ f left. (left.0, left.1, inl left.2))
    (gate_torn (g.D.Disk.reads c.args.disk.now) (g.D.Disk.reads c.write_and_sync.new.disk)
    (g.D.Disk.images c.args.disk.now)
    (g.D.Disk.images c.write_and_sync.new.disk) c.args.gate c.args.bytes.now c.in-Ok.ensures.written
    c.in-Ok.ensures.settled
    (g.met.D.Disk.reads_left c.args.disk.now))

pub returns-in-Err-write_and_sync-clause-any_moment : goal.returns-in-Err-write_and_sync-clause-any_moment
returns-in-Err-write_and_sync-clause-any_moment g c =
    both g (goal.at.returns-in-Err-write_and_sync-clause-any_moment g c).After-write_and_sync-2

pub returns-in-Ok-write_and_sync-clause-any_moment : goal.returns-in-Ok-write_and_sync-clause-any_moment
returns-in-Ok-write_and_sync-clause-any_moment g c =
    both g (goal.at.returns-in-Ok-write_and_sync-clause-any_moment g c).After-write_and_sync-2
