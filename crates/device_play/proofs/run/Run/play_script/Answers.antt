use Rattle.apex_world.specs.World.{empty_world}
use Rattle.device_play.proofs.Following.{script_can}
use Rattle.device_play.proofs.PlayedLemmas.{played_err, played_end}
use Rattle.device_play.proofs.run.Run.play_script.Goals as goal

pub play_boots-requires-clause-can : goal.play_boots-requires-clause-can
play_boots-requires-clause-can g c =
    let script = c.args.script.now in
    let can = script_can script c.requires.orders c.requires.few in
    rw c.as_slice.ensures (empty_world script.scale, (c.requires.device, can))

pub returns-in_err-play_boots-clause-played : goal.returns-in_err-play_boots-clause-played
returns-in_err-play_boots-clause-played g c =
    let script = c.args.script.now in
    let can = script_can script c.requires.orders c.requires.few in
    played_err _ script _ _ c.from_residual.ensures.0
    (record { device = c.requires.device; turns = c.requires.turns; can = can })
    (rw c.as_slice.ensures at c.in_err-play_boots.ensures.ran)

pub returns-clause-played : goal.returns-clause-played
returns-clause-played g c =
    let script = c.args.script.now in
    let can = script_can script c.requires.orders c.requires.few in
    played_end _ script _ _ _ (record { device = c.requires.device; turns = c.requires.turns; can = can })
    (rw c.as_slice.ensures at c.in_ok-play_boots.ensures.ran) (rw c.deref.ensures.value at c.end_line.ensures.put)
