use Rattle.std.proofs.Common.{◌≡◌, ◌+◌, take, Ok}
use Rattle.play_text.specs.Put.{HasSinkCause}
use Rattle.device_play.specs.Device.{IsOn}
use Rattle.device_play.specs.Run.{Went, call_plan}
use Rattle.device_play.specs.Stages.{stage_of}
use Rattle.device_play.proofs.run.Run.play_lane.Given as goal

-- the calls so far are played
abbrev pub invariant-loop-call : goal.invariant-loop-call
invariant-loop-call g l = record {
  went : Went (call_plan l.boot l.lane.number l.earlier (take l.call-index l.lane.calls))
      (stage_of l.fn.self (g.K.Sink.held l.fn.sink)) (stage_of l.self (g.K.Sink.held l.sink));
  count : l.step ≡ l.earlier + l.call-index;
  faults : HasSinkCause {T = Unit {0}} (Ok tt) (g.K.Sink.faults l.fn.sink) (g.K.Sink.faults l.sink);
  on : IsOn l.self.device;
}
