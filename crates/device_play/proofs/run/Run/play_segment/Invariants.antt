use Rattle.std.proofs.Common.{◌++◌, take, Ok}
use Rattle.play_text.specs.Put.{HasSinkCause}
use Rattle.device_play.specs.Device.{IsOn}
use Rattle.device_play.specs.Run.{Went, block_plan}
use Rattle.device_play.specs.Stages.{stage_of, blocks_before, HasCounts}
use Rattle.device_play.proofs.run.Run.play_segment.Given as goal

-- the lanes so far are played
abbrev pub invariant-loop-lane : goal.invariant-loop-lane
invariant-loop-lane g l = record {
  went : Went (block_plan l.number (blocks_before l.boot l.at) (take l.lane-index l.segment.lanes))
      (stage_of l.fn.self (g.K.Sink.held l.fn.sink)) (stage_of l.self (g.K.Sink.held l.sink));
  counts : HasCounts l.steps (blocks_before l.boot l.at ++ take l.lane-index l.segment.lanes);
  faults : HasSinkCause {T = Unit {0}} (Ok tt) (g.K.Sink.faults l.fn.sink) (g.K.Sink.faults l.sink);
  on : IsOn l.self.device;
}
