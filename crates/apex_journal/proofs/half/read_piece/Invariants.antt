use Rattle.std.proofs.Common.{◌-◌, length}
use Rattle.apex_journal.specs.Pieces.{Adds}
use Rattle.apex_journal.proofs.half.read_piece.Given as goal

abbrev pub invariant-loop-at : goal.invariant-loop-at
invariant-loop-at l = record { adds : Adds l.piece l.fn.records.items l.records.items l.at }

abbrev pub decreases-loop-at : goal.decreases-loop-at
decreases-loop-at l = length l.piece - l.at
