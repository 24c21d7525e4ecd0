-- The law of the rows after a boot: `booted_rows`.
use Rattle.std.proofs.Common.{◌≡◌, ℕ, Bool, true, false, List, [], Some, None, if◌then◌else◌}
use Rattle.apex_base.specs.Keys.{Key, DataOf, IsKey}
use Rattle.apex_base.specs.Windows.{is_looping}
use Rattle.apex_world.specs.declared.calls.BootOrder.{BootOrder}
use Rattle.apex_world.specs.Boot.{started, after_loop, loop_trigger}
use Rattle.world_laws.specs.Invariance.{IsOrderOf}
use Rattle.apex_world.specs.Lawful.{Lawful}
use Rattle.apex_world.specs.Rows.{row_at, rows}
use Rattle.world_laws.specs.RowsBooted.{booted_row, BootsSettleRows}
use Rattle.apex_world.specs.Selection.{Mounts}
use Rattle.apex_world.specs.World.{World, boots}
use Rattle.world_laws.proofs.rows.BootDataRows.{data_settled}
use Rattle.world_laws.proofs.rows.BootKeeps.{loop_keeps}
use Rattle.world_laws.proofs.rows.BootRows.{settled_at}

module _ (w : World) (law : Lawful w) (order : BootOrder) (o : IsOrderOf w order) (mounts : Mounts) where
  abbrev v : World
  v = started w order mounts

  -- the world after a boot that is looping, or isn't
  abbrev looped : Bool → World
  looped b = after_loop v (if b then Some (loop_trigger order v.sessions) else None)

  abbrev IsSettled : World → Key → Type 0
  IsSettled u k = row_at u k ≡ booted_row (rows w) w.sessions u.sessions order (boots u) u.moments k

  settled_if : (b : Bool) → ((name key : List ℕ) → IsSettled (looped b) (DataOf name key)) → (k : Key) → IsKey k
      → IsSettled (looped b) k
  settled_if true values = settled_at w law order mounts (loop_trigger order v.sessions).sessions []
      (loop_keeps w law order mounts o true) values
  settled_if false values = settled_at w law order mounts v.sessions v.moments (loop_keeps w law order mounts o false)
      values

-- after a boot of a lawful world, each row is what it is settled to
pub booted_rows : BootsSettleRows
booted_rows w law order o mounts =
    settled_if w law order o mounts (is_looping order.time (started w order mounts).moments)
    (λ name key. data_settled w law order mounts name key)
