use Rattle.std.proofs.Common.{◌<◌, length, arith}
use Rattle.apex_world.specs.Text.{pick_line}
use Rattle.play_text.proofs.Puts.{flat_map_at, put_exit, put_front, put_more, put_of}
use Rattle.play_text.proofs.put.put_picks.Goals as goal

pub returns-in_err-put_pick : goal.returns-in_err-put_pick
returns-in_err-put_pick g c =
    let lt : c.loop-pick.pick-index < length c.args.picks.now = omega arith in
    put_exit _ _ _ _ _ _ _ c.from_residual.ensures.1
    (put_of _ _ _ _ _ _ _ (flat_map_at pick_line c.args.picks.now c.loop-pick.pick-index c.pick-item.result lt
    c.pick-item.is)
    (put_more _ _ _ _ _ _ _ _ _ _ c.loop-pick.invariant (put_front _ _ _ _ _ _ _ c.in_err-put_pick.ensures)))
