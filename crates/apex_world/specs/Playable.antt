-- What a script that was read has: docs/formats/script.md, "Bounds".
use Rattle.std.specs.Prelude.{◌≡◌, ◌≢◌, false, [], ℕ, ◌^◌, ◌<◌, ◌≤◌, length, flat_map}
use Rattle.std.specs.List.{All, AllPairs}
use Rattle.apex_world.specs.declared.calls.Call.{Call}
use Rattle.apex_world.specs.declared.calls.Call.TheVariants as calls
use Rattle.apex_world.specs.declared.script.Lane.{Lane}
use Rattle.apex_world.specs.declared.script.Script.{Script}
use Rattle.apex_world.specs.declared.script.ScriptBoot.{ScriptBoot}
use Rattle.apex_world.specs.declared.script.Segment.{Segment}
use Rattle.apex_world.specs.Turns.{lane_calls}

-- a call that lines make so far
abbrev pub IsBuilt : Call → Type 0
IsBuilt (calls.Submit id children rollback parts) = (children ≡ []) × (rollback ≡ false) × (length parts ≡ 1)
IsBuilt (calls.Ready id) = Unit {0}
IsBuilt (calls.Abort id) = Unit {0}
IsBuilt (calls.Success time id) = Unit {0}
IsBuilt calls.Revert = ⊥
IsBuilt (calls.Commit id) = ⊥
IsBuilt (calls.Put name key value) = ⊥
IsBuilt (calls.Drop name key) = ⊥
IsBuilt (calls.Get name key) = ⊥
IsBuilt (calls.StateOf id) = Unit {0}
IsBuilt (calls.Watch time observer duration names) = ⊥
IsBuilt (calls.Report time name reason) = ⊥

-- lane 0, or one of the eight that a script can name, with calls that lines make
pub record IsPlayableLane (lane : Lane) : Type 0 where
  pub number : lane.number ≤ 8
  pub calls : All IsBuilt lane.calls

-- each lane number stands once in a segment
pub record IsPlayableSegment (segment : Segment) : Type 0 where
  pub numbers : AllPairs (λ a b. a.number ≢ b.number) segment.lanes
  pub lanes : All IsPlayableLane segment.lanes

-- each lane has fewer steps since the boot than a bound; no line registers an observer so far
pub record IsPlayableBoot (bound : ℕ) (boot : ScriptBoot) : Type 0 where
  pub alone : boot.order.observers ≡ []
  pub steps : (lane : ℕ) → length (lane_calls lane (flat_map (λ (s : Segment). s.lanes) boot.segments)) < bound
  pub segments : All IsPlayableSegment boot.segments

-- boots and steps can be numbered
pub record IsPlayable (script : Script) : Type 0 where
  pub boots : length script.boots < 2 ^ 32
  pub each : All (IsPlayableBoot (2 ^ 32)) script.boots
