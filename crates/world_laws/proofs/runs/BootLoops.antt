-- A boot leads from a lawful world to one that runs: `boots_running`.
use Rattle.std.proofs.Common.{Bool, true, false, if◌then◌else◌}
use Rattle.std.specs.Prelude.{Some, None}
use Rattle.apex_base.specs.Rollbacks.{is_eligible}
use Rattle.apex_base.specs.Windows.{is_looping}
use Rattle.apex_world.specs.declared.calls.BootOrder.{BootOrder}
use Rattle.apex_world.specs.Boot.{started, after_loop, loop_trigger}
use Rattle.world_laws.specs.Invariance.{IsOrderOf, BootsLeadToRunning}
use Rattle.apex_world.specs.Lawful.{Lawful}
use Rattle.apex_world.specs.Running.{Running}
use Rattle.apex_world.specs.Selection.{Mounts}
use Rattle.apex_world.specs.World.{World}
use Rattle.world_laws.proofs.runs.BootRuns.{started_running}
use Rattle.world_laws.proofs.runs.TriggerRuns.{triggered_running, forgetting_running}

module _ (w : World) (law : Lawful w) (order : BootOrder) (o : IsOrderOf w order) (mounts : Mounts) where
  abbrev booted : World
  booted = started w order mounts

  run : Running booted
  run = started_running w law order o mounts

  -- the commits of a boot loop keep the world running, and so does forgetting the boots that led to it
  looped_if : (b : Bool) → Running (after_loop booted (if b then Some (loop_trigger order booted.sessions) else None))
  looped_if true =
      forgetting_running (record booted { sessions = (loop_trigger order booted.sessions).sessions })
      (triggered_running (is_eligible booted.sessions) booted run (λ x e. e) order.observers)
  looped_if false = run

-- a boot of a lawful world leads to one that runs
pub boots_running : BootsLeadToRunning
boots_running w law order o mounts =
    looped_if w law order o mounts (is_looping order.time (started w order mounts).moments)
