use Rattle.row_store.proofs.Commits.{holds_on}
use Rattle.row_store.proofs.store.RowStore.arm.Goals as goal

pub invariant_of-self : goal.invariant_of-self
invariant_of-self g c =
    holds_on g.D.Disk.reads g.D.Disk.images c.self.inside.journal c.arm.new.self _ _ c.arm.ensures.stands
    c.arm.ensures.images.fewer c.arm.ensures.scale c.self.invariant
