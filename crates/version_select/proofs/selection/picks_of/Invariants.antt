use Rattle.std.proofs.Common.{◌≡◌, ◌++◌, map}
use Rattle.version_select.specs.Kept.{pick_of}
use Rattle.version_select.proofs.selection.picks_of.Given as goal

-- the picks so far, and those of what is left
abbrev pub invariant-loop-name : goal.invariant-loop-name
invariant-loop-name l = l.picks.items ++ map pick_of l.name-iterator ≡ map pick_of l.fn.choices.entries
