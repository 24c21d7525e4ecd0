use Rattle.std.proofs.Common.{ℕ, List, length, arith}
use Rattle.apex_disk.specs.Disk.{Torn}
use Rattle.apex_disk.specs.Moments.{LeavesOnly}
use Rattle.apex_disk.proofs.Moments.{started, goes_on}
use Rattle.apex_disk.proofs.Written.{torn_self}
use Rattle.apex_disk.proofs.step.write_and_sync.Given as given
use Rattle.apex_disk.proofs.step.write_and_sync.Goals.{After-write}
use Rattle.apex_disk.proofs.step.write_and_sync.Goals as goal

-- an image with any bytes in the range
abbrev Ranged : (List ℕ → Type 0) → ℕ → ℕ → List ℕ → Type 0
Ranged images at n c = (d : List ℕ) × images d × Torn at n d c

-- the write leaves only such images
wrote : (g : given.Over) (c : After-write g)
    → LeavesOnly g.D.Disk.moment g.D.Disk.images_since c.args.disk.now c.write.new.self
    (Ranged (g.D.Disk.images c.args.disk.now) c.args.at (length c.args.bytes.now))
wrote g c =
    let P = Ranged (g.D.Disk.images c.args.disk.now) c.args.at (length c.args.bytes.now) in
    let before : (f : List ℕ) → g.D.Disk.images c.args.disk.now f → P f =
    λ f left. (
      f,
      left,
      torn_self c.args.at (length c.args.bytes.now) f (omega (
        arith,
        c.requires.range,
        g.met.D.Disk.images_long c.args.disk.now f left,
      )),
    ) in
    let at_start =
    started g.D.Disk.moment g.D.Disk.images_since c.args.disk.now P
    (λ f left. before f (g.met.D.Disk.only_now c.args.disk.now f left)) in
    goes_on g.D.Disk.moment g.D.Disk.images_since c.args.disk.now c.args.disk.now c.write.new.self P _ at_start
    c.write.ensures.time c.write.ensures.images

pub returns-in-Err-clause-any_moment : goal.returns-in-Err-clause-any_moment
returns-in-Err-clause-any_moment g c = wrote g (goal.at.returns-in-Err-clause-any_moment g c).After-write

pub returns-clause-any_moment : goal.returns-clause-any_moment
returns-clause-any_moment g c =
    goes_on g.D.Disk.moment g.D.Disk.images_since c.args.disk.now c.write.new.self c.sync.new.self
    (Ranged (g.D.Disk.images c.args.disk.now) c.args.at (length c.args.bytes.now)) _
    (wrote g (goal.at.returns-clause-any_moment g c).After-write) c.sync.ensures.time
    (λ f now. c.write.ensures.images f (c.sync.ensures.images f now))
