use Rattle.std.proofs.Common.{◌<◌, length, arith}
use Rattle.apex_world.specs.Text.{change_line}
use Rattle.play_text.proofs.Puts.{flat_map_at, put_exit, put_front, put_more, put_of}
use Rattle.play_text.proofs.put.put_changes.Goals as goal

pub returns-in_err-put_change : goal.returns-in_err-put_change
returns-in_err-put_change g c =
    let lt : c.loop-changed.changed-index < length c.args.changes.now = omega arith in
    put_exit _ _ _ _ _ _ _ c.from_residual.ensures.1
    (put_of _ _ _ _ _ _ _ (flat_map_at change_line c.args.changes.now c.loop-changed.changed-index c.changed-item.result
    lt c.changed-item.is)
    (put_more _ _ _ _ _ _ _ _ _ _ c.loop-changed.invariant (put_front _ _ _ _ _ _ _ c.in_err-put_change.ensures)))
