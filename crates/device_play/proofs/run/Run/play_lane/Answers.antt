use Rattle.std.proofs.Common.{refl, ◌≡◌, ◌<◌, ◌+◌, get_or, length, ap, arith}
use Rattle.play_text.proofs.Puts.{faults_more}
use Rattle.device_play.proofs.Places.{call_plan_at, call_plan_next}
use Rattle.device_play.proofs.Runs.{Stopped-at, Went-next, ran_err}
use Rattle.device_play.proofs.run.Run.play_lane.Goals as goal

pub returns-in_err-play_call-clause-ran : goal.returns-in_err-play_call-clause-ran
returns-in_err-play_call-clause-ran g c =
    let xs = c.args.lane.now.calls in
    let i = c.loop-call.call-index in
    let x = c.call-item.result in
    let lt : i < length xs = omega (arith, ap length c.as_slice-call-items.ensures) in
    let here : x ≡ get_or xs i x = rw c.as_slice-call-items.ensures at c.call-item.is in
    ran_err _ _ _ _ c.from_residual.ensures.0
    (Stopped-at _ _ _ _ _ _ _ (call_plan_at c.args.boot c.args.lane.now.number c.args.earlier i (c.loop-call.step + 1)
    xs x lt here (omega arith)) c.loop-call.invariant.went
    (rw c.borrowed.ensures at c.in_err-play_call.ensures.ran))

pub loop-call-preserved : goal.loop-call-preserved
loop-call-preserved g c =
    let xs = c.args.lane.now.calls in
    let i = c.loop-call.call-index in
    let x = c.call-item.result in
    let lt : i < length xs = omega (arith, ap length c.as_slice-call-items.ensures) in
    let here : x ≡ get_or xs i x = rw c.as_slice-call-items.ensures at c.call-item.is in
    record {
      went = Went-next _ _ _ _ _ _ (call_plan_next c.args.boot c.args.lane.now.number c.args.earlier i
          (c.loop-call.step + 1) xs x lt here (omega arith)) c.loop-call.invariant.went
          (rw c.borrowed.ensures at c.in_ok-play_call.ensures.ran);
      count = omega arith;
      faults = faults_more _ _ _ _ _ c.loop-call.invariant.faults c.in_ok-play_call.ensures.faults;
      on = c.in_ok-play_call.ensures.on refl;
    }
