use Rattle.std.proofs.Common.{◌≡◌, List, take}
use Rattle.apex_base.specs.declared.records.Record.{Record}
use Rattle.package_store.specs.Latest.{AreHeld}
use Rattle.world_laws.specs.BootByRows.{chosen_in}
use Rattle.boot_recover.proofs.choosing.Selection.choose.Given as goal

-- the modules so far are chosen from
abbrev pub invariant-loop-m : goal.invariant-loop-m
invariant-loop-m g l =
    (sessions : List Record) → AreHeld sessions l.held → l.picks.items
    ≡ chosen_in (g.M.Mounter.mounting l.self.mounter.now) l.self.rows.now sessions
    (take l.m-index l.self.order.now.image.modules)
