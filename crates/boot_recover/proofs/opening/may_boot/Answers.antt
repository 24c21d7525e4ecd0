use Rattle.boot_recover.proofs.Bootable.{left_decides}
use Rattle.boot_recover.proofs.opening.may_boot.Goals as goal

pub returns-then-lawful : goal.returns-then-lawful
returns-then-lawful c =
    left_decides c.args.rows.now c.args.scale c.in_ok-lawful.lawful c.has_boots_left-left.result
    c.args.found.now.boots.count c.args.found.now.boots.moments.items c.in_ok-lawful.ensures c.if-lawful.true
    c.has_boots_left-left.ensures c.requires.boots
