-- Where a run in the code stands.
use Rattle.std.specs.Prelude.{◌≡◌, ◌≤◌, ℕ, List, take, length, flat_map, get_or, Option, Result}
use Rattle.apex_world.specs.declared.script.Lane.{Lane}
use Rattle.apex_world.specs.declared.script.Segment.{Segment}
use Rattle.apex_world.specs.declared.script.ScriptBoot.{ScriptBoot}
use Rattle.apex_world.specs.Turns.{lane_calls}
use Rattle.device_play.specs.declared.run.Run.{Run}
use Rattle.play_text.specs.declared.put.PutFailed.{PutFailed}
use Rattle.device_play.specs.Run.{Planned, Stage, Ran}

abbrev pub stage_of : Run → Option (List ℕ) → Stage
stage_of run held = record { device = run.device; held = held; turns = run.turns.items }

-- what a call that plays steps makes of a run and its sink
abbrev pub Plays : {S T : Type 0} → (S → Option (List ℕ)) → List Planned → Result T PutFailed → Run → S → Run → S
    → Type 0
Plays held plan result old sink new sink' = Ran result plan (stage_of old (held sink)) (stage_of new (held sink'))

-- the lane blocks before the segment at a place
abbrev pub blocks_before : ScriptBoot → ℕ → List Lane
blocks_before boot at = flat_map (λ (s : Segment). s.lanes) (take at boot.segments)

-- the counts are how many calls each lane has in these blocks
pub record HasCounts (counts : List ℕ) (blocks : List Lane) : Type 0 where
  pub lanes : length counts ≡ 9
  pub each : (lane : ℕ) → lane ≤ 8 → get_or counts lane 0 ≡ length (lane_calls lane blocks)
