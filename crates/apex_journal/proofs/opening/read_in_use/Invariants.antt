use Rattle.std.proofs.Common.{◌≡◌, false}
use Rattle.apex_disk.specs.Disk.{SameImages}
use Rattle.apex_disk.specs.Moments.{LeavesOnly}
use Rattle.apex_journal.specs.Journal.{half_len, half_of, Told}
use Rattle.apex_journal.specs.Pieces.{IsInHalf, IsReadTo, left_of}
use Rattle.apex_journal.proofs.opening.read_in_use.Given as goal

-- the half begins with what was read, and the device is as it was
abbrev pub invariant-pieces : goal.invariant-pieces
invariant-pieces g l = record {
  begins : Told (g.D.Disk.reads l.fn.disk) (λ file. IsReadTo false (half_of l.scale file) l.reading);
  inside : IsInHalf (half_len l.scale) l.reading;
  faults : g.D.Disk.faults l.fn.disk ≡ g.D.Disk.faults l.disk;
  gone : g.D.Disk.gone l.fn.disk → g.D.Disk.gone l.disk;
  reads : g.D.Disk.reads l.disk ≡ g.D.Disk.reads l.fn.disk;
  images : SameImages (g.D.Disk.images l.fn.disk) (g.D.Disk.images l.disk);
  any_moment : LeavesOnly g.D.Disk.moment g.D.Disk.images_since l.fn.disk l.disk (g.D.Disk.images l.fn.disk);
  log : g.D.Disk.log l.disk ≡ g.D.Disk.log l.fn.disk;
  len : g.D.Disk.length_of l.disk ≡ g.D.Disk.length_of l.fn.disk;
}

abbrev pub decreases-pieces : goal.decreases-pieces
decreases-pieces g l = left_of (half_len l.scale) l.reading
