use Rattle.std.proofs.Common.{List, ℕ, subst}
use Rattle.apex_journal.specs.Journal.{Stands}
use Rattle.apex_journal.proofs.Appends.{stands_on}
use Rattle.apex_journal.proofs.journal.Journal.arm.Goals as goal

pub returns-clause-stands : goal.returns-clause-stands
returns-clause-stands g c =
    subst (λ j. (records : List (List ℕ)) → Stands g.D.Disk.reads g.D.Disk.images j records
    → Stands g.D.Disk.reads g.D.Disk.images (record {
      device = c.arm.new.self;
      scale = c.self.inside.scale;
      start = c.self.inside.start;
      used = c.self.inside.used;
    }) records) c.self.view_is
    (λ records stands. stands_on g.D.Disk.reads g.D.Disk.images g.D.Disk.moment g.D.Disk.images_since
    g.D.Disk.length_of g.met.D.Disk.only_now
    (λ d f is. g.met.D.Disk.images_long d f (g.met.D.Disk.reads_left d f is)) (record {
      device = c.self.inside.disk;
      scale = c.self.inside.scale;
      start = c.self.inside.start;
      used = c.self.inside.used;
    }) records stands c.arm.new.self c.arm.ensures.reads c.arm.ensures.images.fewer)
