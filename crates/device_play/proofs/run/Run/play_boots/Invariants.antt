use Rattle.std.proofs.Common.{◌≡◌, take, Ok}
use Rattle.play_text.specs.Put.{HasSinkCause}
use Rattle.device_play.specs.Run.{Went, boots_plan}
use Rattle.device_play.specs.Stages.{stage_of}
use Rattle.device_play.proofs.run.Run.play_boots.Given as goal

-- the boots so far are played
abbrev pub invariant-loop-boot : goal.invariant-loop-boot
invariant-loop-boot g l = record {
  went : Went (boots_plan 0 (take l.boot-index l.boots)) (stage_of l.fn.self (g.K.Sink.held l.fn.sink))
      (stage_of l.self (g.K.Sink.held l.sink));
  count : l.number ≡ l.boot-index;
  faults : HasSinkCause {T = Unit {0}} (Ok tt) (g.K.Sink.faults l.fn.sink) (g.K.Sink.faults l.sink);
}
