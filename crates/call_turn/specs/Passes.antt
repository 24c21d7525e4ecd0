-- What clauses say of passes and of their turn: a word for each.
use Rattle.std.specs.Prelude.{◌≡◌, ℕ, List}
use Rattle.call_turn.specs.declared.Entry.{Entry}
use Rattle.call_turn.specs.declared.OneThread.{Ghosts}
use Rattle.call_turn.specs.declared.shared.Pass.{Pass}
use Rattle.call_turn.specs.declared.shared.Turn.{Turn}
use Rattle.call_turn.specs.History.{Account}
use Rattle.call_turn.specs.Rule.{entries_of, known_of, account}

module _ {O Order Answer Start : Type 0} where
  -- the object as it was given to `open`
  abbrev pub at_open : Turn O Order Answer Start → O
  at_open turn = turn.table.shared.key.object.value

  module _ {ghosts : Ghosts O Order Answer Start} where
    -- the pass is one of this turn
    abbrev pub IsPassOf : Turn O Order Answer Start → Pass O Order Answer Start ghosts → Type 0
    IsPassOf turn pass = pass.seat.table_id ≡ turn.table.shared.table_id

    -- the entries of a pass since `open`, in the order of its calls
    abbrev pub entries : Pass O Order Answer Start ghosts → List (Entry Order Answer)
    entries pass = entries_of pass.seat.me.0.owns

    -- how many entries there were when the pass last looked
    abbrev pub known : Pass O Order Answer Start ghosts → ℕ
    known pass = known_of pass.seat.me.0.owns

    -- what a pass tells at `close`
    abbrev pub told : Pass O Order Answer Start ghosts → Account Order Answer
    told pass = account pass.lane pass.seat.me.0
