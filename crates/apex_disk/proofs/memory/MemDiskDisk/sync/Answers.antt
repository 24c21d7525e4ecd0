use Rattle.std.proofs.Common.{◌∙◌, sym, refl}
use Rattle.apex_disk.proofs.Kept.{settled, time_passed}
use Rattle.apex_disk.proofs.memory.MemDiskDisk.sync.Goals as goal

pub returns-clause-settled : goal.returns-clause-settled
returns-clause-settled c =
    settled c.sync.new.self c.sync.ensures.pending (c.sync.ensures.synced ∙ sym c.sync.ensures.bytes)

pub returns-clause-time : goal.returns-clause-time
returns-clause-time c =
    time_passed _ _ c.self.view_is c.self.inside.past.items c.push_reserved.new.self.items c.of.result
    c.sync.new.self refl c.push_reserved.ensures.items c.of.ensures
