-- What playing a script leaves.
use Rattle.std.specs.Prelude.{◌≡◌, ℕ, List, Option, Result, Ok, Err}
use Rattle.std.specs.List.{All}
use Rattle.apex_base.specs.Outside.{PutFront, PutAll}
use Rattle.apex_world.specs.declared.script.Script.{Script}
use Rattle.apex_world.specs.declared.turns.TurnRow.{TurnRow}
use Rattle.apex_world.specs.declared.turns.Fate.TheVariants.{Answered}
use Rattle.apex_world.specs.Text.{out}
use Rattle.apex_world.specs.Turns.{Fits, IsInOrder}
use Rattle.play_text.specs.declared.put.PutFailed.{PutFailed}

-- all turns and the whole text
pub record PlayedWhole (script : Script) (held held' : Option (List ℕ)) (turns : List TurnRow) : Type 0 where
  pub order : IsInOrder script turns
  pub answered : All (λ (row : TurnRow). row.fate ≡ Answered) turns
  pub fits : Fits script turns
  pub put : PutAll held held' (out script turns)

-- the first turns, and a front of their text
pub record PlayedFront (script : Script) (held held' : Option (List ℕ)) (turns : List TurnRow) : Type 0 where
  pub order : IsInOrder script turns
  pub answered : All (λ (row : TurnRow). row.fate ≡ Answered) turns
  pub put : PutFront held held' (out script turns)

abbrev pub HasPlayed : {T : Type 0} → Result T PutFailed → Script → Option (List ℕ) → Option (List ℕ) → List TurnRow
    → Type 0
HasPlayed (Ok x) script held held' turns = PlayedWhole script held held' turns
HasPlayed (Err e) script held held' turns = PlayedFront script held held' turns
