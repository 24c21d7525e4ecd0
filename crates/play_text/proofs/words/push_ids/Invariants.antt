use Rattle.std.proofs.Common.{◌≡◌, ◌++◌, take}
use Rattle.apex_world.specs.Text.{id_words}
use Rattle.play_text.proofs.words.push_ids.Given as goal

-- the ids so far stand on the line
abbrev pub invariant-loop-id : goal.invariant-loop-id
invariant-loop-id l = l.line.items ≡ l.fn.line.items ++ id_words (take l.id-index l.ids)
