use Rattle.std.proofs.Common.{◌≤◌, List, ℕ, length, subst, sym, arith}
use Rattle.apex_disk.specs.Moments.{LeavesOnly}
use Rattle.apex_journal.specs.Header.{IsHeader}
use Rattle.apex_journal.specs.Journal.{BlankOrEmpty}
use Rattle.apex_journal.proofs.Fresh.{room_for_header, format_runs, format_opens}
use Rattle.apex_journal.proofs.formatting.write_header.Given as given
use Rattle.apex_journal.proofs.formatting.write_header.Goals.{After-write_behind_gate}
use Rattle.apex_journal.proofs.formatting.write_header.Goals as goal

-- what the device may hold after its calls is long enough for the header
wide : (g : given.Over) (c : After-write_behind_gate g) → (f : List ℕ) → g.D.Disk.images c.reserve.new.self f
    → 4097 ≤ length f
wide g c f left = omega (
  arith,
  g.met.D.Disk.images_long c.reserve.new.self f left,
  c.reserve.ensures.len,
  c.len-len.ensures,
  c.device_len-need.ensures,
  room_for_header c.args.scale,
)

-- and what is written is one
headed : (g : given.Over) (c : After-write_behind_gate g) → IsHeader c.args.scale c.deref.result.now
headed g c = subst (IsHeader c.args.scale) (sym c.deref.ensures.value) c.in-Ok.ensures

-- at any moment the device is blank or has an empty journal
runs : (g : given.Over) (c : After-write_behind_gate g)
    → LeavesOnly g.D.Disk.moment g.D.Disk.images_since c.args.disk.now c.write_behind_gate.new.disk
    (BlankOrEmpty c.args.scale)
runs g c =
    format_runs g.D.Disk.reads g.D.Disk.images g.D.Disk.moment g.D.Disk.images_since g.met.D.Disk.only_now
    c.args.disk.now c.reserve.new.self c.write_behind_gate.new.disk c.requires.blank c.reserve.ensures.images.fewer
    (wide g c) c.args.scale c.deref.result.now (headed g c) c.reserve.ensures.time
    c.write_behind_gate.ensures.any_moment

pub returns-in-Err-clause-any_moment : goal.returns-in-Err-clause-any_moment
returns-in-Err-clause-any_moment g c = runs g (goal.at.returns-in-Err-clause-any_moment g c).After-write_behind_gate

pub returns-clause-any_moment : goal.returns-clause-any_moment
returns-clause-any_moment g c = runs g (goal.at.returns-clause-any_moment g c).After-write_behind_gate

pub returns-clause-opens : goal.returns-clause-opens
returns-clause-opens g c =
    let wrote = (goal.at.returns-clause-opens g c).After-write_behind_gate in
    format_opens g.D.Disk.reads g.D.Disk.images g.D.Disk.moment g.D.Disk.images_since g.met.D.Disk.only_now
    c.args.disk.now c.reserve.new.self c.write_behind_gate.new.disk c.requires.blank c.reserve.ensures.images.fewer
    (wide g wrote) c.args.scale c.deref.result.now (headed g wrote) (g.met.D.Disk.reads_left c.reserve.new.self)
    c.in-Ok-write_behind_gate.ensures.written
