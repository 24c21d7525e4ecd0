use Rattle.apex_world.specs.Calls.{call_at}
use Rattle.apex_world.specs.Segments.{plain_segment, segment_of}
use Rattle.device_play.specs.Stages.{stage_of, blocks_before}
use Rattle.device_play.proofs.Runs.{ran_as}
use Rattle.device_play.proofs.run.Run.play_step.Goals as goal

pub play_plain-requires-clause-here : goal.play_plain-requires-clause-here
play_plain-requires-clause-here g c = rw c.in-Plain.ensures c.requires.here

pub play_segment-requires-clause-here : goal.play_segment-requires-clause-here
play_segment-requires-clause-here g c = rw c.in-Lanes.ensures c.requires.here

pub returns-in-Plain-clause-ran : goal.returns-in-Plain-clause-ran
returns-in-Plain-clause-ran g c =
    ran_as c.play_plain.result c.args.number (blocks_before c.args.boot.now c.args.at)
    (plain_segment (call_at c.in-Plain.call)) (segment_of c.args.step.now)
    (stage_of c.args.self.now (g.K.Sink.held c.args.sink.now))
    (stage_of c.play_plain.new.self (g.K.Sink.held c.play_plain.new.sink)) c.in-Plain.ensures
    c.play_plain.ensures.ran

pub returns-in-Lanes-clause-ran : goal.returns-in-Lanes-clause-ran
returns-in-Lanes-clause-ran g c =
    ran_as c.play_segment.result c.args.number (blocks_before c.args.boot.now c.args.at) c.in-Lanes.segment.now
    (segment_of c.args.step.now)
    (stage_of c.args.self.now (g.K.Sink.held c.args.sink.now))
    (stage_of c.play_segment.new.self (g.K.Sink.held c.play_segment.new.sink)) c.in-Lanes.ensures
    c.play_segment.ensures.ran
