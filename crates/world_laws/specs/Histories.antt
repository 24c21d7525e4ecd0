-- Over a whole history no id is used twice: docs/sessions.md, "What stays".
use Rattle.std.specs.Prelude.{◌≡◌, true, List, [], ◌∷◌}
use Rattle.apex_base.specs.declared.numbers.SessionId.{SessionId}
use Rattle.apex_base.specs.declared.records.Record.{Record}
use Rattle.apex_base.specs.Members.{In}
use Rattle.apex_base.specs.Sessions.{has_id}
use Rattle.apex_world.specs.declared.calls.BootOrder.{BootOrder}
use Rattle.apex_world.specs.declared.calls.Call.{Call}
use Rattle.apex_world.specs.Boot.{boot_world}
use Rattle.apex_world.specs.Lawful.{Lawful, HaveIds}
use Rattle.apex_world.specs.Running.{Running}
use Rattle.apex_world.specs.Selection.{Mounts}
use Rattle.apex_world.specs.Step.{step}
use Rattle.apex_world.specs.World.{World}
use Rattle.world_facts.specs.Follows.{IsKeptAs, Leads}
use Rattle.world_laws.specs.Invariance.{IsCall, IsOrderOf}

-- what happens to a world: a boot, or a call
pub data Happening : Type 0 where
  Booting : BootOrder → Mounts → Happening
  Calling : Call → Happening

-- a boot goes by an order for the world, and a call's values are in their ranges
abbrev pub CanHappen : World → Happening → Type 0
CanHappen w (Booting order mounts) = IsOrderOf w order
CanHappen w (Calling call) = IsCall call

abbrev pub happened : World → Happening → World
happened w (Booting order mounts) = boot_world w order mounts
happened w (Calling call) = (step w call).world

-- the world after all that happens, one after another
abbrev pub afterwards : World → List Happening → World
afterwards w [] = w
afterwards w (x ∷ xs) = afterwards (happened w x) xs

-- each can happen to the world that it finds
abbrev pub IsHistoryOf : World → List Happening → Type 0
IsHistoryOf w [] = Unit {0}
IsHistoryOf w (x ∷ xs) = CanHappen w x × IsHistoryOf (happened w x) xs

-- sessions at two moments of a history
pub record UsesIdsOnce (before after : List Record) : Type 0 where
  -- none is taken away or gets other ids, and each that came in has ids that none had before
  pub leads : Leads IsKeptAs before after
  -- who has an id that somebody had before is that session
  pub once : (r s : Record) (id : SessionId) → In r before → In s after → has_id id r ≡ true → has_id id s ≡ true
      → IsKeptAs r s
  -- all ids differ, those of sessions and children that one trigger made too
  pub apart : HaveIds after

-- from any moment of a history after its first boot
abbrev pub IdsAreUsedOnce : Type 0
IdsAreUsedOnce =
    (w : World) → Running w → (history : List Happening) → IsHistoryOf w history
    → UsesIdsOnce w.sessions (afterwards w history).sessions

-- and from before a boot
abbrev pub IdsAreUsedOnceFromBoots : Type 0
IdsAreUsedOnceFromBoots =
    (w : World) → Lawful w → (order : BootOrder) (mounts : Mounts) → IsOrderOf w order → (history : List Happening)
    → IsHistoryOf (boot_world w order mounts) history
    → UsesIdsOnce w.sessions (afterwards (boot_world w order mounts) history).sessions
