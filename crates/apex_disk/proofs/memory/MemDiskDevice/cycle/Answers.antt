use Rattle.apex_disk.proofs.Kept.{settled}
use Rattle.apex_disk.proofs.memory.MemDiskDevice.cycle.Goals as goal

pub returns-clause-settled : goal.returns-clause-settled
returns-clause-settled c = settled c.cycle.new.self c.cycle.ensures.pending c.cycle.ensures.synced
