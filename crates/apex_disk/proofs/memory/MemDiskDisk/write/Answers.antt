use Rattle.std.proofs.Common.{length, refl}
use Rattle.apex_disk.proofs.Kept.{reads_unwritten, images_unwritten, images_written, time_passed}
use Rattle.apex_disk.proofs.memory.MemDiskDisk.write.Goals as goal

pub returns-then-refuses-clause-torn : goal.returns-then-refuses-clause-torn
returns-then-refuses-clause-torn c =
    reads_unwritten _ _ c.self.view_is c.args.at (length c.args.bytes.now) c.requires.range

pub returns-then-refuses-clause-images : goal.returns-then-refuses-clause-images
returns-then-refuses-clause-images c =
    images_unwritten _ _ c.self.view_is c.args.at (length c.args.bytes.now) c.self.invariant c.requires.range

pub returns-then-stops-clause-images : goal.returns-then-stops-clause-images
returns-then-stops-clause-images c =
    images_written _ _ c.self.view_is c.write.new.self c.args.at c.args.bytes.now c.self.invariant c.requires.range
    c.write.ensures.bytes c.write.ensures.synced c.write.ensures.pending

pub returns-then-stops-clause-time : goal.returns-then-stops-clause-time
returns-then-stops-clause-time c =
    time_passed _ _ c.self.view_is c.self.inside.past.items c.push_reserved.new.self.items c.of.result
    c.write.new.self refl c.push_reserved.ensures.items c.of.ensures

pub returns-clause-images : goal.returns-clause-images
returns-clause-images c =
    images_written _ _ c.self.view_is c.write.new.self c.args.at c.args.bytes.now c.self.invariant c.requires.range
    c.write.ensures.bytes c.write.ensures.synced c.write.ensures.pending

pub returns-clause-time : goal.returns-clause-time
returns-clause-time c =
    time_passed _ _ c.self.view_is c.self.inside.past.items c.push_reserved.new.self.items c.of.result
    c.write.new.self refl c.push_reserved.ensures.items c.of.ensures
