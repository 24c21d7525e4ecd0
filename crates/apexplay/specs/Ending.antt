-- What a run over a reader and a writer leaves of their bytes, where they tell them.
use Rattle.std.specs.Prelude.{◌≡◌, ◌⊎◌, ℕ, List, [], ◌++◌, Option, Some, None, String}
use Rattle.std.specs.List.{All}
use Rattle.std.specs.declared.alloc.Global.{Global}
use Rattle.apex_base.specs.Outside.{IsFront, PutAll}
use Rattle.apex_world.specs.declared.script.Script.{Script}
use Rattle.apex_world.specs.declared.turns.Fate.TheVariants.{Answered}
use Rattle.apex_world.specs.declared.turns.TurnRow.{TurnRow}
use Rattle.apex_world.specs.Text.{out}
use Rattle.apex_world.specs.Turns.{Fits, IsInOrder}
use Rattle.device_script.specs.declared.fault.ScriptWhy.{ScriptWhy}
use Rattle.device_play.specs.declared.status.Status.{Status}
use Rattle.device_play.specs.declared.status.Status.TheVariants as status
use Rattle.device_play.specs.Headline.{Plays, HasScript, HasNoScript, IsRefused, HasBadLine, IsSilent}
use Rattle.device_play.specs.Source.{Ended, TakesAtMost}

-- the writer holds a front of what it held before and the text after it
abbrev pub HoldsFront : Option (List ℕ) → Option (List ℕ) → List ℕ → Type 0
HoldsFront None after text = Unit {0}
HoldsFront (Some before) None text = ⊥
HoldsFront (Some before) (Some after) text = IsFront after (before ++ text)

-- the writer was given the text of the script's first turns, as far as the run went; at Done of all turns, in full
pub record HasText (script : Script) (s : Status) (before after : Option (List ℕ)) : Type 0 where
  pub turns : List TurnRow
  pub in_order : IsInOrder script turns
  pub answered : All (λ (row : TurnRow). row.fate ≡ Answered) turns
  pub front : HoldsFront before after (out script turns)
  pub all_turns : s ≡ status.Done → Fits script turns
  pub whole : s ≡ status.Done → PutAll before after (out script turns)

-- a run with these words ended in this status: what was left of the reader and what the writer held before and after it
pub record IsRun (words : List (String Global)) (left left' before after : Option (List ℕ)) (s : Status) : Type 0 where
  pub text : (script : Script) → HasScript left script → HasText script s before after
  pub emptied : s ≡ status.Done → Ended left left'
  -- a run that refuses has written nothing, nor has one whose bytes are no script
  pub silent : IsSilent s → HoldsFront before after []
  pub no_script : (why : ScriptWhy) → HasNoScript left why → HoldsFront before after []
  -- the cause of each status; running out of memory and failed writes may be reported at any time
  pub usage : s ≡ status.Usage → ¬ (Plays words)
  pub no_command : (¬ (Plays words)) → (s ≡ status.Usage) ⊎ (s ≡ status.Memory)
  pub bad_line : HasBadLine left s
  pub refused : (why : ScriptWhy) → HasNoScript left why → (¬ (s ≡ status.SinkFault)) → IsRefused s why
  -- however long the reader is, at most one byte more is read of it than a script may have
  pub taken : (¬ (s ≡ status.SourceFault)) → TakesAtMost 16777217 left left'
