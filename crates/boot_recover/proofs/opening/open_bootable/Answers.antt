use Rattle.boot_recover.specs.Refused.{AreRefused}
use Rattle.boot_recover.proofs.Bootable.{foreign_refused, if_error, none_refused, unbuilt_refused}
use Rattle.boot_recover.proofs.Bootable.{unlawful_refused}
use Rattle.boot_recover.proofs.opening.open_bootable.Goals as goal

pub returns-in_err-opened-clause-bad : goal.returns-in_err-opened-clause-bad
returns-in_err-opened-clause-bad c =
    if_error c.from_residual.result c.in_err-opened.field-0.0 (AreRefused c.args.rows.now c.args.scale)
    c.from_residual.ensures.1
    (foreign_refused c.args.rows.now c.args.scale c.in_err-opened.field-0.0 c.in_err-opened.ensures.bad)

pub may_boot-requires-clause-right : goal.may_boot-requires-clause-right
may_boot-requires-clause-right c = c.in_ok-opened.ensures.right c.args.scale

pub returns-then-not-may-clause-bad : goal.returns-then-not-may-clause-bad
returns-then-not-may-clause-bad c =
    unlawful_refused c.args.rows.now c.args.scale c.refused.result c.refused.ensures
    (c.in_ok-opened.ensures.right c.args.scale)
    (λ both. absurd (cc (c.in_ok-may.ensures.1 both, c.if-not-may.true)))

pub unbuilt_tag-requires-clause-right : goal.unbuilt_tag-requires-clause-right
unbuilt_tag-requires-clause-right c = c.in_ok-opened.ensures.right c.args.scale

pub unbuilt_tag-requires-clause-lawful : goal.unbuilt_tag-requires-clause-lawful
unbuilt_tag-requires-clause-lawful c = (c.in_ok-may.ensures.0 c.if-not-may.false).0

pub returns-in-Some-clause-bad : goal.returns-in-Some-clause-bad
returns-in-Some-clause-bad c =
    unbuilt_refused c.args.rows.now c.args.scale c.refused-in-Some.result c.in-Some.tag c.refused-in-Some.ensures
    (c.in_ok-opened.ensures.right c.args.scale) (c.in_ok-may.ensures.0 c.if-not-may.false) c.in-Some.ensures

pub returns-in-None-clause-good : goal.returns-in-None-clause-good
returns-in-None-clause-good c =
    none_refused c.args.rows.now c.args.scale (c.in_ok-opened.ensures.right c.args.scale)
    (c.in_ok-may.ensures.0 c.if-not-may.false) c.in-None.ensures
