-- What one thread gets from the turns of a run, from a world on.
use Rattle.std.specs.Prelude.{ℕ, ◌-◌, ◌==◌, List, Option, Some, None, fold, flat_map, slice_get, option_and_then, if◌then◌else◌, ◌≡◌, refl, codes, [], ◌∷◌, length}
use Rattle.std.specs.Option.{option_map}
use Rattle.apex_world.specs.declared.calls.Call.{Call}
use Rattle.apex_world.specs.declared.script.Script.{Script}
use Rattle.apex_world.specs.declared.script.ScriptBoot.{ScriptBoot}
use Rattle.apex_world.specs.declared.turns.Shown.{Shown}
use Rattle.apex_world.specs.declared.turns.Shown.TheVariants.{Booted, Replied, Fated}
use Rattle.apex_world.specs.declared.turns.TurnRow.{TurnRow}
use Rattle.apex_world.specs.declared.turns.Fate.{Fate}
use Rattle.apex_world.specs.declared.turns.Fate.TheVariants.{Answered, Kept, Lost, Open, Closed, NoMemory, Full}
use Rattle.apex_world.specs.World.{World, empty_world}
use Rattle.apex_world.specs.Selection.{all_mount_but}
use Rattle.apex_world.specs.Boot.{boot_world, boot_reply}
use Rattle.apex_world.specs.Step.{step}
use Rattle.apex_world.specs.Turns.{lane_calls, is_boot}
use Rattle.apex_base.specs.declared.numbers.Scale.TheVariants.{Small}
use Rattle.apex_base.specs.declared.refusal.Refusal.TheVariants.{NoSession}
use Rattle.apex_world.specs.declared.calls.Call.TheVariants as calls
use Rattle.apex_world.specs.declared.calls.Reply.TheVariants as replies

-- the world after a turn, and what the turn shows
pub record Turned : Type 0 where
  pub world : World
  pub shown : Shown

-- the k-th of a list, from 1
abbrev pub nth : {X : Type 0} → List X → ℕ → Option X
nth xs k = if k == 0 then None else slice_get xs (k - 1)

-- the k-th call of a lane since a boot
abbrev pub call_in : ScriptBoot → ℕ → ℕ → Option Call
call_in boot lane k = nth (lane_calls lane (flat_map (λ s. s.lanes) boot.segments)) k

-- what a script says at a place: a boot, or a call
pub data Event : Type 0 where
  BootOf : ScriptBoot → Event
  CallOf : Call → Event

abbrev pub event_in : ScriptBoot → TurnRow → Option Event
event_in boot row = if is_boot row then Some (BootOf boot) else option_map CallOf (call_in boot row.lane row.step)

abbrev pub event_at : Script → TurnRow → Option Event
event_at script row = option_and_then (λ boot. event_in boot row) (nth script.boots row.boot)

abbrev pub turned_by : World → Event → Turned
turned_by w (BootOf boot) = record { world = boot_world w boot.order (all_mount_but boot.mounts); shown = Booted (boot_reply w boot.order (all_mount_but boot.mounts)) }
turned_by w (CallOf call) = record { world = (step w call).world; shown = Replied (step w call).reply }

-- a turn that was kept happened as well, but nobody had its answer
abbrev pub turned_with : World → Fate → Event → Turned
turned_with w Answered event = turned_by w event
turned_with w Kept event = record { world = (turned_by w event).world; shown = Fated }
turned_with w Lost event = record { world = w; shown = Fated }
turned_with w Open event = record { world = w; shown = Fated }
turned_with w Closed event = record { world = w; shown = Fated }
turned_with w NoMemory event = record { world = w; shown = Fated }
turned_with w Full event = record { world = w; shown = Fated }

abbrev pub turned_at : World → Fate → Option Event → Turned
turned_at w fate None = record { world = w; shown = Fated }
turned_at w fate (Some event) = turned_with w fate event

-- what a turn of a script does to a world: nothing where it didn't happen
unfoldable pub turn : Script → World → TurnRow → Turned
turn script w row = turned_at w row.fate (event_at script row)

-- the world after the turns
abbrev pub world_after : Script → World → List TurnRow → World
world_after script w rows = fold (λ w row. (turn script w row).world) w rows

-- Worked values: an empty image is booted, and a call for a session that isn't there is refused. Turns that were lost
-- change nothing

abbrev pub example : Script
example = record {
  scale = Small;
  boots = record {
    order = record { scale = Small; image = record { print = codes "P"; modules = [] }; observers = []; time = 0 };
    mounts = [];
    workers = 1;
    cut = None;
    segments = record { cut = None; lanes = record { number = 0; calls = calls.Ready (record { 0 = 1 }) ∷ [] } ∷ [] } ∷ [];
  } ∷ [];
}

abbrev pub example_turn : ℕ → Fate → TurnRow
example_turn step fate = record { boot = 1; lane = 0; step = step; fate = fate }

pub refused : (turn example (empty_world Small) (example_turn 1 Answered)).shown ≡ Replied (replies.Refused (NoSession (record { 0 = 1 })))
unfolding turn
refused = refl

pub one_boot : length (world_after example (empty_world Small) (example_turn 0 Answered ∷ example_turn 1 Answered ∷ [])).eras ≡ 1
unfolding turn
one_boot = refl

pub lost : length (world_after example (empty_world Small) (example_turn 0 Lost ∷ [])).eras ≡ 0
unfolding turn
lost = refl
