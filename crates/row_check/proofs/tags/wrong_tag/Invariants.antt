use Rattle.row_check.specs.WrongTags.{AgreeBelow}
use Rattle.row_check.proofs.tags.wrong_tag.Given as goal

-- they agree at each tag so far
abbrev pub invariant-loop-tag : goal.invariant-loop-tag
invariant-loop-tag l = AgreeBelow l.rows l.tag
