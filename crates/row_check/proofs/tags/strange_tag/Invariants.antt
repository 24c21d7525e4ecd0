use Rattle.std.proofs.Common.{◌≡◌}
use Rattle.std.specs.FinMap as fin
use Rattle.row_map.specs.Rows.{shown}
use Rattle.row_check.specs.WrongTags.{lesser, strange_tag}
use Rattle.row_check.proofs.tags.strange_tag.Given as goal

-- the least tag so far or that of the rows that are left is the least of all
abbrev pub invariant-loop-key : goal.invariant-loop-key
invariant-loop-key l = lesser l.least (strange_tag (shown l.key-iterator)) ≡ strange_tag (fin.entries l.rows)
