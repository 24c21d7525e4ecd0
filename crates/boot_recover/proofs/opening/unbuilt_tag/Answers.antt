use Rattle.std.proofs.Common.{sym, ◌∙◌}
use Rattle.boot_recover.specs.Refused.{are_simple}
use Rattle.boot_recover.proofs.Bootable.{tag_by_rows, tag_six, tag_nine, tag_none}
use Rattle.boot_recover.proofs.TagRows.{are_of}
use Rattle.boot_recover.proofs.opening.unbuilt_tag.Goals as goal

pub returns-then-has_rows : goal.returns-then-has_rows
returns-then-has_rows c =
    let m = c.args.rows.now in
    let ss = c.args.sessions.now in
    tag_six (are_simple ss) (are_of 6 m) (are_of 9 m) (sym c.are_simple.ensures ∙ c.if-not-are_simple.false)
    (sym c.has_rows.ensures ∙ c.if-has_rows.true)
    ∙ tag_by_rows m c.args.scale ss c.requires.right c.requires.lawful c.requires.sessions

pub returns-then-has_rows-2 : goal.returns-then-has_rows-2
returns-then-has_rows-2 c =
    let m = c.args.rows.now in
    let ss = c.args.sessions.now in
    tag_nine (are_simple ss) (are_of 6 m) (are_of 9 m) (sym c.are_simple.ensures ∙ c.if-not-are_simple.false)
    (sym c.has_rows.ensures ∙ c.if-has_rows.false) (sym c.has_rows-else-has_rows.ensures ∙ c.if-has_rows-2.true)
    ∙ tag_by_rows m c.args.scale ss c.requires.right c.requires.lawful c.requires.sessions

pub returns-else-has_rows-2 : goal.returns-else-has_rows-2
returns-else-has_rows-2 c =
    let m = c.args.rows.now in
    let ss = c.args.sessions.now in
    tag_none (are_simple ss) (are_of 6 m) (are_of 9 m) (sym c.are_simple.ensures ∙ c.if-not-are_simple.false)
    (sym c.has_rows.ensures ∙ c.if-has_rows.false) (sym c.has_rows-else-has_rows.ensures ∙ c.if-has_rows-2.false)
    ∙ tag_by_rows m c.args.scale ss c.requires.right c.requires.lawful c.requires.sessions
