-- A run of planned steps: what it leaves where it goes on, and where it stops.
use Rattle.std.specs.Prelude.{◌≡◌, ℕ, ◌+◌, List, [], ◌∷◌, ◌++◌, length, map, fold, Option, Result, Ok, Err}
use Rattle.apex_base.specs.Outside.{PutFront, PutAll}
use Rattle.apex_world.specs.declared.calls.Call.{Call}
use Rattle.apex_world.specs.declared.script.Lane.{Lane}
use Rattle.apex_world.specs.declared.script.ScriptBoot.{ScriptBoot}
use Rattle.apex_world.specs.declared.script.Segment.{Segment}
use Rattle.apex_world.specs.declared.turns.TurnRow.{TurnRow}
use Rattle.apex_world.specs.declared.turns.Fate.TheVariants.{Answered}
use Rattle.apex_world.specs.World.{World}
use Rattle.apex_world.specs.Fold.{Event, BootOf, CallOf, turned_by}
use Rattle.apex_world.specs.Text.{turn_lines}
use Rattle.apex_world.specs.Turns.{lane_calls}
use Rattle.play_text.specs.declared.put.PutFailed.{PutFailed}
use Rattle.device_play.specs.declared.device.Device.{Device}
use Rattle.device_play.specs.Device.{IsDeviceOf}
use Rattle.device_play.specs.Events.{CanHappen}

-- a turn that is to come, with what the script says there
pub record Planned : Type 0 where
  pub row : TurnRow
  pub event : Event

abbrev pub answered : ℕ → ℕ → ℕ → TurnRow
answered boot lane step = record { boot = boot; lane = lane; step = step; fate = Answered }

abbrev pub planned_boot : ℕ → ScriptBoot → Planned
planned_boot boot b = record { row = answered boot 0 0; event = BootOf b }

abbrev pub planned_call : ℕ → ℕ → ℕ → Call → Planned
planned_call boot lane step call = record { row = answered boot lane step; event = CallOf call }

-- calls of a lane, after its first k
abbrev pub call_plan : ℕ → ℕ → ℕ → List Call → List Planned
call_plan boot lane k [] = []
call_plan boot lane k (c ∷ cs) = planned_call boot lane (k + 1) c ∷ call_plan boot lane (k + 1) cs

-- lane blocks, one after the other, after earlier blocks of the boot
abbrev pub block_plan : ℕ → List Lane → List Lane → List Planned
block_plan boot earlier [] = []
block_plan boot earlier (b ∷ bs) =
    call_plan boot b.number (length (lane_calls b.number earlier)) b.calls ++ block_plan boot (earlier ++ b ∷ []) bs

-- segments, after earlier blocks of the boot
abbrev pub segment_plan : ℕ → List Lane → List Segment → List Planned
segment_plan boot earlier [] = []
segment_plan boot earlier (s ∷ ss) = block_plan boot earlier s.lanes ++ segment_plan boot (earlier ++ s.lanes) ss

abbrev pub boot_plan : ℕ → ScriptBoot → List Planned
boot_plan boot b = planned_boot boot b ∷ segment_plan boot [] b.segments

-- boots, the first of which is the k + 1st
abbrev pub boots_plan : ℕ → List ScriptBoot → List Planned
boots_plan k [] = []
boots_plan k (b ∷ bs) = boot_plan (k + 1) b ++ boots_plan (k + 1) bs

abbrev pub rows_of : List Planned → List TurnRow
rows_of plan = map (λ p. p.row) plan

-- the world that planned steps lead to
abbrev pub plan_world : World → List Planned → World
plan_world w plan = fold (λ w p. (turned_by w p.event).world) w plan

-- and their lines
abbrev pub plan_lines : World → List Planned → List ℕ
plan_lines w [] = []
plan_lines w (p ∷ ps) = turn_lines p.row (turned_by w p.event).shown ++ plan_lines (turned_by w p.event).world ps

-- each step can happen to the world that the earlier ones lead to
abbrev pub CanFollow : World → List Planned → Type 0
CanFollow w [] = Unit {0}
CanFollow w (p ∷ ps) = CanHappen w p.event × CanFollow (turned_by w p.event).world ps

-- there is a world that the device may be of, and to which the steps can happen
abbrev pub CanPlay : List Planned → Device → Type 0
CanPlay plan device = (w : World) × (IsDeviceOf device w × CanFollow w plan)

-- where a run stands: its device, what the sink holds, and its turns
pub record Stage : Type 0 where
  pub device : Device
  pub held : Option (List ℕ)
  pub turns : List TurnRow

-- the run made these steps from a world on, and put their lines
pub record WentFrom (w : World) (plan : List Planned) (s s' : Stage) : Type 0 where
  pub turns : s'.turns ≡ s.turns ++ rows_of plan
  pub leads : IsDeviceOf s'.device (plan_world w plan)
  pub put : PutAll s.held s'.held (plan_lines w plan)

-- the run entered the first of these steps, and put a front of their lines
pub record StoppedFrom (w : World) (plan : List Planned) (s s' : Stage) : Type 0 where
  pub front : List Planned
  pub rest : List Planned
  pub split : plan ≡ front ++ rest
  pub turns : s'.turns ≡ s.turns ++ rows_of front
  pub put : PutFront s.held s'.held (plan_lines w front)

-- A device may be of several worlds: one without rows is of an empty world of either scale. What is said of a run holds
-- from each of them on to which the steps can happen.

abbrev pub Went : List Planned → Stage → Stage → Type 0
Went plan s s' = (w : World) → IsDeviceOf s.device w → CanFollow w plan → WentFrom w plan s s'

abbrev pub Stopped : List Planned → Stage → Stage → Type 0
Stopped plan s s' = (w : World) → IsDeviceOf s.device w → CanFollow w plan → StoppedFrom w plan s s'

-- what a call that plays steps leaves
abbrev pub Ran : {T : Type 0} → Result T PutFailed → List Planned → Stage → Stage → Type 0
Ran (Ok x) plan s s' = Went plan s s'
Ran (Err e) plan s s' = Stopped plan s s'
