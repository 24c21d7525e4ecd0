use Rattle.std.proofs.Common.{[], ◌∷◌}
use Rattle.device_play.specs.Run.{planned_boot, segment_plan}
use Rattle.play_text.proofs.Puts.{faults_more}
use Rattle.device_play.proofs.Runs.{Stopped-front, can_play-front, ran_err, ran_more}
use Rattle.device_play.proofs.run.Run.play_boot_and_calls.Goals as goal

pub play_boot-requires-clause-can : goal.play_boot-requires-clause-can
play_boot-requires-clause-can g c =
    let boot = c.args.boot.now in
    let calls = segment_plan c.args.number [] boot.segments in
    can_play-front (planned_boot c.args.number boot ∷ []) calls _ c.requires.can

pub returns-in_err-play_boot-clause-ran : goal.returns-in_err-play_boot-clause-ran
returns-in_err-play_boot-clause-ran g c =
    ran_err _ _ _ _ c.from_residual.ensures.0 (Stopped-front _ _ _ _ c.in_err-play_boot.ensures.ran)

pub returns-clause-ran : goal.returns-clause-ran
returns-clause-ran g c = ran_more _ _ _ _ _ _ c.in_ok-play_boot.ensures.ran c.play_segments.ensures.ran

pub returns-clause-faults : goal.returns-clause-faults
returns-clause-faults g c =
    faults_more _ _ _ _ _ c.in_ok-play_boot.ensures.faults c.play_segments.ensures.faults
