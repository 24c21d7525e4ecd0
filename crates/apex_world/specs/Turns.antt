-- Which turns a script may have, and in which order: docs/formats/text.md, "Turns".
use Rattle.std.specs.Prelude.{◌≡◌, ◌≢◌, ◌⊎◌, ◌↔◌, ℕ, ◌+◌, ◌==◌, ◌&&◌, Bool, true, false, IsTrue, List, [], ◌∷◌, ◌++◌, length, map, filter, flat_map, if◌then◌else◌, refl}
use Rattle.std.specs.List.{list_any}
use Rattle.apex_base.specs.Outside.{IsFront}
use Rattle.apex_world.specs.declared.calls.Call.{Call}
use Rattle.apex_world.specs.declared.script.Lane.{Lane}
use Rattle.apex_world.specs.declared.script.Segment.{Segment}
use Rattle.apex_world.specs.declared.script.ScriptBoot.{ScriptBoot}
use Rattle.apex_world.specs.declared.script.Script.{Script}
use Rattle.apex_world.specs.declared.turns.Fate.{Fate}
use Rattle.apex_world.specs.declared.turns.Fate.TheVariants.{Kept, Lost, Open, Closed, NoMemory}
use Rattle.apex_world.specs.declared.turns.TurnRow.{TurnRow}
use Rattle.apex_world.specs.declared.calls.Call.TheVariants as calls

-- The steps of a script

-- where a boot or a call of a script stands
pub record Position : Type 0 where
  pub boot : ℕ
  pub lane : ℕ
  pub step : ℕ

abbrev pub position_of : TurnRow → Position
position_of row = record { boot = row.boot; lane = row.lane; step = row.step }

-- the calls of a lane among lane blocks
abbrev pub lane_calls : ℕ → List Lane → List Call
lane_calls lane blocks = flat_map (λ b. if b.number == lane then b.calls else []) blocks

-- the positions of calls of a lane, after its first k
abbrev pub call_positions : ℕ → ℕ → ℕ → List Call → List Position
call_positions boot lane k [] = []
call_positions boot lane k (call ∷ calls) = record { boot = boot; lane = lane; step = k + 1 } ∷ call_positions boot lane (k + 1) calls

-- the positions of lane blocks, one block after another, after earlier blocks of that boot
abbrev pub block_positions : ℕ → List Lane → List Lane → List Position
block_positions boot earlier [] = []
block_positions boot earlier (b ∷ bs) = call_positions boot b.number (length (lane_calls b.number earlier)) b.calls ++ block_positions boot (earlier ++ b ∷ []) bs

-- the positions of segments, a list for each
abbrev pub segment_rounds : ℕ → List Lane → List Segment → List (List Position)
segment_rounds boot earlier [] = []
segment_rounds boot earlier (s ∷ ss) = block_positions boot earlier s.lanes ∷ segment_rounds boot (earlier ++ s.lanes) ss

-- the rounds of a boot: the boot by itself, and then its segments
abbrev pub boot_rounds : ℕ → ScriptBoot → List (List Position)
boot_rounds boot b = (record { boot = boot; lane = 0; step = 0 } ∷ []) ∷ segment_rounds boot [] b.segments

-- the rounds of boots, the first of which is the k + 1st
abbrev pub rounds_from : ℕ → List ScriptBoot → List (List Position)
rounds_from k [] = []
rounds_from k (b ∷ bs) = boot_rounds (k + 1) b ++ rounds_from (k + 1) bs

-- the rounds of a script, one after another; within a round the lanes may run at the same time
abbrev pub rounds : Script → List (List Position)
rounds script = rounds_from 0 script.boots

-- all positions of a script, the lanes of a round one after another in the order of their blocks
abbrev pub positions : Script → List Position
positions script = flat_map (λ round. round) (rounds script)

-- The order of turns

abbrev pub of_lane : ℕ → List Position → List Position
of_lane lane ps = filter (λ p. p.lane == lane) ps

-- within a round, each lane's turns are the first of its steps, in order
abbrev pub IsWithinRound : List Position → List Position → Type 0
IsWithinRound round turns = (lane : ℕ) → IsFront (of_lane lane turns) (of_lane lane round)

-- the turns of a round come after those of earlier ones, each of which has all its steps
abbrev pub AreInRounds : List (List Position) → List Position → Type 0
AreInRounds [] turns = turns ≡ []
AreInRounds (round ∷ rs) turns =
    (here : List Position) × (behind : List Position) × (turns ≡ here ++ behind) × IsWithinRound round here × ((behind ≡ []) ⊎ (length here ≡ length round)) × AreInRounds rs behind

-- The fates of turns

abbrev pub is_faulted : Fate → Bool
is_faulted Kept = true
is_faulted Lost = true
is_faulted Open = true
is_faulted _ = false

abbrev pub is_open : Fate → Bool
is_open Open = true
is_open _ = false

abbrev pub is_boot : TurnRow → Bool
is_boot row = (row.lane == 0) && (row.step == 0)

-- a turn's fate beside those before it
pub record FateFits (before : List TurnRow) (row : TurnRow) : Type 0 where
  -- a turn is closed if and only if an earlier turn of its boot is faulted
  pub closed : (row.fate ≡ Closed) ↔ IsTrue (list_any (λ r. (r.boot == row.boot) && is_faulted r.fate) before)
  -- after an open turn each boot is lost and each call closed, so that no other turn is open
  pub open_boot : IsTrue (list_any (λ r. is_open r.fate) before) → IsTrue (is_boot row) → row.fate ≡ Lost
  pub open_call : IsTrue (list_any (λ r. is_open r.fate) before) → is_boot row ≡ false → row.fate ≡ Closed
  -- a boot that runs out of memory has no turn
  pub entered : IsTrue (is_boot row) → row.fate ≢ NoMemory

abbrev pub FatesFit : List TurnRow → Type 0
FatesFit rows = (before : List TurnRow) (row : TurnRow) (behind : List TurnRow) → rows ≡ before ++ row ∷ behind → FateFits before row

-- What a run's turns may be

-- the turns are the first of a script's, each lane's in its order
pub record Begins (script : Script) (rows : List TurnRow) : Type 0 where
  pub order : AreInRounds (rounds script) (map position_of rows)
  pub fates : FatesFit rows

-- they are all of them
pub record Fits (script : Script) (rows : List TurnRow) : Type 0 where
  pub begins : Begins script rows
  pub whole : length rows ≡ length (positions script)

-- the lanes of a round come one after another, in the order of their blocks
pub record IsInOrder (script : Script) (rows : List TurnRow) : Type 0 where
  pub begins : Begins script rows
  pub in_blocks : IsFront (map position_of rows) (positions script)

-- Worked values: a boot and two calls of lane 0; the second call is its second step

abbrev pub example_lane : Lane
example_lane = record { number = 0; calls = calls.Revert ∷ calls.Revert ∷ [] }

pub two_calls : block_positions 1 [] (example_lane ∷ []) ≡ record { boot = 1; lane = 0; step = 1 } ∷ record { boot = 1; lane = 0; step = 2 } ∷ []
two_calls = refl

pub third_call : block_positions 1 (example_lane ∷ []) (record example_lane { calls = calls.Revert ∷ [] } ∷ []) ≡ record { boot = 1; lane = 0; step = 3 } ∷ []
third_call = refl
