use Rattle.std.proofs.Common.{[], take, Ok}
use Rattle.play_text.specs.Put.{HasSinkCause}
use Rattle.device_play.specs.Device.{IsOn}
use Rattle.device_play.specs.Run.{Went, segment_plan}
use Rattle.device_play.specs.Stages.{stage_of, blocks_before, HasCounts}
use Rattle.device_play.proofs.run.Run.play_segments.Given as goal

-- the segments so far are played
abbrev pub invariant-loop-at : goal.invariant-loop-at
invariant-loop-at g l = record {
  went : Went (segment_plan l.number [] (take l.at l.boot.segments)) (stage_of l.fn.self (g.K.Sink.held l.fn.sink))
      (stage_of l.self (g.K.Sink.held l.sink));
  counts : HasCounts l.steps (blocks_before l.boot l.at);
  faults : HasSinkCause {T = Unit {0}} (Ok tt) (g.K.Sink.faults l.fn.sink) (g.K.Sink.faults l.sink);
  on : IsOn l.self.device;
}
