use Rattle.std.proofs.Common.{sym, ◌∙◌}
use Rattle.row_check.proofs.MomentSteps.{no_number, no_count, boots_then, boots_else}
use Rattle.row_check.proofs.boots.are_boots.Goals as goal

pub returns-in_default : goal.returns-in_default
returns-in_default c = sym (no_number c.args.value.now (sym c.in_default.ensures))

pub returns-in_default-byte_at : goal.returns-in_default-byte_at
returns-in_default-byte_at c =
    sym (no_count c.args.value.now c.in-Some.boots c.in-Some.rest.now (sym c.in-Some.ensures)
    (sym c.in_default-byte_at.ensures))

pub returns-then-is_count : goal.returns-then-is_count
returns-then-is_count c =
    c.are_moments.ensures ∙ boots_then c.args.value.now c.in-Some.boots c.in-Some.rest.now c.in-Some-byte_at.count
    c.in-Some-byte_at.after.now (sym c.in-Some.ensures) (sym c.in-Some-byte_at.ensures) c.if-is_count.ensures

pub returns-else-is_count : goal.returns-else-is_count
returns-else-is_count c =
    c.is_count.ensures ∙ sym c.if-is_count.ensures
    ∙ boots_else c.args.value.now c.in-Some.boots c.in-Some.rest.now c.in-Some-byte_at.count
    c.in-Some-byte_at.after.now (sym c.in-Some.ensures) (sym c.in-Some-byte_at.ensures) c.if-is_count.ensures
