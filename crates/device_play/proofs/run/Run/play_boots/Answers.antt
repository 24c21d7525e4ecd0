use Rattle.std.proofs.Common.{◌<◌, ◌+◌, ◌^◌, length, drop, sym, subst, arith}
use Rattle.apex_world.specs.Playable.{IsPlayableBoot}
use Rattle.device_play.specs.Run.{boot_plan, boots_plan}
use Rattle.play_text.proofs.Puts.{faults_more}
use Rattle.device_play.proofs.Places.{boots_plan_at, boots_plan_next}
use Rattle.device_play.proofs.Runs.{Stopped-at, Went-next, can_play-at, ran_err}
use Rattle.device_play.proofs.run.Run.play_boots.Goals as goal

pub play_boot_and_calls-requires-clause-playable : goal.play_boot_and_calls-requires-clause-playable
play_boot_and_calls-requires-clause-playable g c =
    subst (IsPlayableBoot (2 ^ 32)) (sym c.boot-item.is)
    (c.requires.playable c.loop-boot.boot-index c.boot-item.result c.loop-boot-test.true)

pub play_boot_and_calls-requires-clause-can : goal.play_boot_and_calls-requires-clause-can
play_boot_and_calls-requires-clause-can g c =
    let xs = c.args.boots.now in
    let i = c.loop-boot.boot-index in
    let lt : i < length xs = omega arith in
    let number = c.loop-boot.number + 1 in
    can_play-at _ _ (boot_plan number c.boot-item.result) (boots_plan number (drop (i + 1) xs)) _ _
    (boots_plan_at i number xs c.boot-item.result lt c.boot-item.is (omega arith)) c.loop-boot.invariant.went
    c.requires.can

pub returns-in_err-play_boot_and_calls-clause-ran : goal.returns-in_err-play_boot_and_calls-clause-ran
returns-in_err-play_boot_and_calls-clause-ran g c =
    let xs = c.args.boots.now in
    let i = c.loop-boot.boot-index in
    let lt : i < length xs = omega arith in
    ran_err _ _ _ _ c.from_residual.ensures.0
    (Stopped-at _ _ _ _ _ _ _ (boots_plan_at i (c.loop-boot.number + 1) xs c.boot-item.result lt c.boot-item.is
    (omega arith)) c.loop-boot.invariant.went c.in_err-play_boot_and_calls.ensures.ran)

pub loop-boot-preserved : goal.loop-boot-preserved
loop-boot-preserved g c =
    let xs = c.args.boots.now in
    let i = c.loop-boot.boot-index in
    let lt : i < length xs = omega arith in
    record {
      went = Went-next _ _ _ _ _ _ (boots_plan_next i (c.loop-boot.number + 1) xs c.boot-item.result lt c.boot-item.is
          (omega arith)) c.loop-boot.invariant.went c.in_ok-play_boot_and_calls.ensures.ran;
      count = omega arith;
      faults = faults_more _ _ _ _ _ c.loop-boot.invariant.faults c.in_ok-play_boot_and_calls.ensures.faults;
    }
