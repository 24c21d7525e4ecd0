use Rattle.std.proofs.Common.{take, flat_map, Ok}
use Rattle.apex_world.specs.Text.{change_line}
use Rattle.play_text.specs.Put.{HasPut}
use Rattle.play_text.proofs.put.put_changes.Given as goal

-- the lines so far are put
abbrev pub invariant-loop-changed : goal.invariant-loop-changed
invariant-loop-changed g l = HasPut {T = Unit {0}} (Ok tt) (g.K.Sink.held l.fn.sink) (g.K.Sink.held l.sink)
    (g.K.Sink.faults l.fn.sink) (g.K.Sink.faults l.sink) (flat_map change_line (take l.changed-index l.changes))
