-- Laws of worlds that are alike: docs/rows.md, "Alike".
use Rattle.std.specs.Prelude.{◌≡◌, Bool, true, false}
use Rattle.apex_world.specs.declared.calls.BootOrder.{BootOrder}
use Rattle.apex_world.specs.declared.calls.Call.{Call}
use Rattle.apex_world.specs.declared.calls.Call.TheVariants as calls
use Rattle.world_laws.specs.Alike.{Alike, AlikeAfter}
use Rattle.apex_world.specs.Boot.{boot_world, boot_reply}
use Rattle.world_laws.specs.Invariance.{IsCall, IsOrderOf}
use Rattle.apex_world.specs.Lawful.{Lawful}
use Rattle.apex_world.specs.Running.{Running}
use Rattle.apex_world.specs.Selection.{Mounts}
use Rattle.apex_world.specs.Step.{step}
use Rattle.world_laws.specs.StoredAlike.{AreAlikeInParts, AreSteppedAlike}
use Rattle.apex_world.specs.World.{World}

-- lawful worlds that are alike have the same parts

abbrev pub AlikeInParts : Type 0
AlikeInParts = (w v : World) → Lawful w → Lawful v → Alike w v → AreAlikeInParts w v

abbrev pub AlikeByParts : Type 0
AlikeByParts = (w v : World) → Lawful w → Lawful v → AreAlikeInParts w v → Alike w v

-- the calls that never change a session
abbrev pub leaves_sessions : Call → Bool
leaves_sessions (calls.Submit id children rollback parts) = false
leaves_sessions (calls.Ready id) = false
leaves_sessions (calls.Abort id) = false
leaves_sessions (calls.Success time id) = false
leaves_sessions calls.Revert = false
leaves_sessions (calls.Commit id) = false
leaves_sessions (calls.Put name key value) = true
leaves_sessions (calls.Drop name key) = true
leaves_sessions (calls.Get name key) = true
leaves_sessions (calls.StateOf id) = true
leaves_sessions (calls.Watch time observer duration names) = true
leaves_sessions (calls.Report time name why) = false

-- they have the same replies in worlds that are alike, and lead to worlds that are alike
abbrev pub QuietCallsAreAlike : Type 0
QuietCallsAreAlike =
    (w v : World) → AreAlikeInParts w v → (call : Call) → leaves_sessions call ≡ true
    → AreSteppedAlike (step w call) (step v call)

-- Calls and boots, in parts

-- each call has the same reply in worlds of which the same is stored and the same runs, and leads to such worlds
abbrev pub CallsAreAlikeInParts : Type 0
CallsAreAlikeInParts =
    (w v : World) → Running w → Running v → AreAlikeInParts w v → (call : Call)
    → AreSteppedAlike (step w call) (step v call)

-- and so does each boot
abbrev pub BootsAreAlikeInParts : Type 0
BootsAreAlikeInParts =
    (w v : World) → Lawful w → AreAlikeInParts w v → (order : BootOrder) (mounts : Mounts)
    → (boot_reply w order mounts ≡ boot_reply v order mounts)
    × AreAlikeInParts (boot_world w order mounts) (boot_world v order mounts)

-- Calls and boots, by rows

-- each call has the same reply in worlds that are alike, and leads to worlds that are alike
abbrev pub CallsAreAlike : Type 0
CallsAreAlike =
    (w v : World) → Running w → Running v → Alike w v → (call : Call) → IsCall call
    → AlikeAfter (step w call) (step v call)

-- and so does each boot
abbrev pub BootsAreAlike : Type 0
BootsAreAlike =
    (w v : World) → Lawful w → Lawful v → Alike w v → (order : BootOrder) → IsOrderOf w order → (mounts : Mounts)
    → (boot_reply w order mounts ≡ boot_reply v order mounts)
    × Alike (boot_world w order mounts) (boot_world v order mounts)
