use Rattle.std.proofs.Common.{◌≡◌, ◌<◌, length, get_or, refl, arith}
use Rattle.apex_world.specs.Segments.{segment_of}
use Rattle.play_text.proofs.Puts.{faults_more}
use Rattle.device_play.proofs.Places.{segment_plan_at, segment_plan_next}
use Rattle.device_play.proofs.Runs.{Stopped-at, Went-next, ran_err}
use Rattle.device_play.proofs.Steps.{few_of, step_at}
use Rattle.device_play.proofs.run.Run.play_segments.Goals as goal

pub play_step-requires-clause-there : goal.play_step-requires-clause-there
play_step-requires-clause-there g c = few_of _ _ c.loop-at.at c.forms-step-items.ensures (omega arith)

pub play_step-requires-clause-here : goal.play_step-requires-clause-here
play_step-requires-clause-here g c =
    step_at _ _ c.loop-at.at c.step-item.result c.forms-step-items.ensures (omega arith) c.step-item.is

pub returns-in_err-play_step-clause-ran : goal.returns-in_err-play_step-clause-ran
returns-in_err-play_step-clause-ran g c =
    let xs = c.args.boot.now.segments in
    let i = c.loop-at.at in
    let x = segment_of c.step-item.result in
    let lt : i < length xs = few_of _ _ i c.forms-step-items.ensures (omega arith) in
    let here : x ≡ get_or xs i x =
    step_at _ _ i c.step-item.result c.forms-step-items.ensures (omega arith) c.step-item.is in
    ran_err _ _ _ _ c.from_residual.ensures.0
    (Stopped-at _ _ _ _ _ _ _ (segment_plan_at c.args.number i xs x lt here) c.loop-at.invariant.went
    c.in_err-play_step.ensures.ran)

pub loop-at-preserved : goal.loop-at-preserved
loop-at-preserved g c =
    let xs = c.args.boot.now.segments in
    let i = c.loop-at.at in
    let x = segment_of c.step-item.result in
    let lt : i < length xs = few_of _ _ i c.forms-step-items.ensures (omega arith) in
    let here : x ≡ get_or xs i x =
    step_at _ _ i c.step-item.result c.forms-step-items.ensures (omega arith) c.step-item.is in
    record {
      went = Went-next _ _ _ _ _ _ (segment_plan_next c.args.number i xs x lt here) c.loop-at.invariant.went
          c.in_ok-play_step.ensures.ran;
      counts = c.in_ok-play_step.ensures.counts refl;
      faults = faults_more _ _ _ _ _ c.loop-at.invariant.faults c.in_ok-play_step.ensures.faults;
      on = c.in_ok-play_step.ensures.on refl;
    }
