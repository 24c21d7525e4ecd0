use Rattle.std.proofs.Common.{take, flat_map, Ok}
use Rattle.apex_world.specs.Text.{pick_line}
use Rattle.play_text.specs.Put.{HasPut}
use Rattle.play_text.proofs.put.put_picks.Given as goal

-- the lines so far are put
abbrev pub invariant-loop-pick : goal.invariant-loop-pick
invariant-loop-pick g l = HasPut {T = Unit {0}} (Ok tt) (g.K.Sink.held l.fn.sink) (g.K.Sink.held l.sink)
    (g.K.Sink.faults l.fn.sink) (g.K.Sink.faults l.sink) (flat_map pick_line (take l.pick-index l.picks))
