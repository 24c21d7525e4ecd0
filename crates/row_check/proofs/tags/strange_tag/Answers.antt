use Rattle.std.proofs.Common.{◌≡◌, ◌∷◌, sym, ◌∙◌}
use Rattle.std.specs.FinMap as fin
use Rattle.row_map.specs.Rows.{shown}
use Rattle.row_check.specs.WrongTags.{lesser, strange_in, strange_tag}
use Rattle.row_check.proofs.StrangeTags.{lesser_more, lesser_none}
use Rattle.row_check.proofs.tags.strange_tag.Goals as goal

pub loop-key-preserved : goal.loop-key-preserved
loop-key-preserved c =
    let key = c.in-Some.key.now.items in
    let rest = shown c.next.new.self in
    let step : c.loop-key.key-iterator ≡ (c.in-Some.key.now, c.in-Some.field-0-1.now) ∷ c.next.new.self =
    c.in-Some.ensures.steps in
    let before : lesser c.loop-key.least (lesser (strange_in key) (strange_tag rest))
    ≡ strange_tag (fin.entries c.args.rows.now) = rw step at c.loop-key.invariant in
    let now : c.lesser-least.result ≡ lesser c.loop-key.least (strange_in key) =
    rw (c.strange_in.ensures, c.as_slice.ensures.value) at c.lesser-least.ensures in
    rw now (lesser_more c.loop-key.least (strange_in key) (strange_tag rest) ∙ before)

pub returns : goal.returns
returns c =
    sym (lesser_none c.loop-key.least) ∙ (rw c.in-None.ensures.steps.0 at c.loop-key.invariant)
