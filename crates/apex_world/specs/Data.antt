-- What modules keep: docs/calls.md, "Put, drop and get".
use Rattle.std.specs.Prelude.{ℕ, nat_le, is_some, List, map, sum, Option, Some, None, Result, Ok, Err, if◌then◌else◌, ◌≡◌, refl, codes, [], replicate}
use Rattle.std.specs.FinMap as fin
use Rattle.apex_base.specs.declared.refusal.Refusal.{Refusal}
use Rattle.apex_base.specs.declared.refusal.Refusal.TheVariants.{UnknownModule, DataFull, NoKey}
use Rattle.apex_base.specs.Numbers.{scale_data_weight}
use Rattle.apex_base.specs.Results.{◌>>=◌}
use Rattle.apex_base.specs.RowSums.{entry_weight}
use Rattle.apex_base.specs.Tables.{NameMap, part_of, value_of, with_value, without_value}
use Rattle.apex_world.specs.declared.calls.Image.{Image}
use Rattle.apex_world.specs.declared.calls.Reply.TheVariants as reply
use Rattle.apex_world.specs.Stepped.{Stepped, replied, answered}
use Rattle.apex_world.specs.Submit.{pass, in_running}
use Rattle.apex_world.specs.World.{World, Contents, empty_world}
use Rattle.apex_base.specs.declared.numbers.Scale.TheVariants.{Small}

-- the weight of all that stands under a name
abbrev pub part_weight : NameMap (List ℕ) → ℕ
part_weight m = sum (map (λ e. entry_weight e.0 e.1) (fin.entries m))

abbrev pub data_weight : Contents → List ℕ → ℕ
data_weight contents name = part_weight (part_of contents name)

-- the running image has no module of this name
abbrev pub unknown_module : Option Image → List ℕ → Option Refusal
unknown_module image name = if is_some (in_running image name) then None else Some (UnknownModule name)

-- Put

abbrev pub with_entry : World → List ℕ → List ℕ → List ℕ → World
with_entry w name key value = record w { contents = with_value w.contents name key value }

-- the name's data weighs more than the scale allows
abbrev pub data_full : World → List ℕ → Option Refusal
data_full w name = if nat_le (data_weight w.contents name) (scale_data_weight w.scale) then None else Some (DataFull (data_weight w.contents name))

abbrev pub put : World → List ℕ → List ℕ → List ℕ → Stepped
put w name key value = replied w do
  known ← pass (unknown_module w.image name)
  light ← pass (data_full (with_entry w name key value) name)
  Ok (with_entry w name key value)

-- Drop and get

abbrev pub found : List ℕ → Option (List ℕ) → Result (List ℕ) Refusal
found key None = Err (NoKey key)
found key (Some value) = Ok value

-- the value of a key, or why there is none
abbrev pub value_at : World → List ℕ → List ℕ → Result (List ℕ) Refusal
value_at w name key = do
  known ← pass (unknown_module w.image name)
  found key (value_of w.contents name key)

abbrev pub drop : World → List ℕ → List ℕ → Stepped
drop w name key = replied w do
  value ← value_at w name key
  Ok (record w { contents = without_value w.contents name key })

abbrev pub get : World → List ℕ → List ℕ → Stepped
get w name key = answered w do
  value ← value_at w name key
  Ok (record { world = w; reply = reply.Value value })

-- Worked values: without an image no module is known; a value of 895 bytes under a key of one weighs 1024

pub nothing_known : (put (empty_world Small) (codes "a") (codes "k") []).reply ≡ reply.Refused (UnknownModule (codes "a"))
nothing_known = refl

pub full_weight : entry_weight (codes "k") (replicate 895 0) ≡ 1024
full_weight = refl
