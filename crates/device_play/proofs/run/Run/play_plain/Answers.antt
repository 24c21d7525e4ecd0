use Rattle.std.proofs.Common.{sym, subst, arith}
use Rattle.apex_world.specs.Calls.{call_at}
use Rattle.apex_world.specs.Segments.{plain_segment}
use Rattle.device_play.specs.Stages.{blocks_before, HasCounts}
use Rattle.device_play.proofs.Counts.{call_playable, call_counted, call_counts, blocks_next}
use Rattle.device_play.proofs.Runs.{ran_err}
use Rattle.device_play.proofs.run.Run.play_plain.Goals as goal

pub overflow_add-step : goal.overflow_add-step
overflow_add-step g c =
    omega (
      arith,
      c.requires.counts.each 0 (omega arith),
      call_counted c.args.boot.now c.args.at
          (call_at c.args.call.now) c.requires.playable c.requires.there c.requires.here,
    )

pub play_call-requires-clause-built : goal.play_call-requires-clause-built
play_call-requires-clause-built g c =
    call_playable c.args.boot.now c.args.at (call_at c.args.call.now) c.requires.playable c.requires.there
    c.requires.here

pub returns-in_err-play_call-clause-ran : goal.returns-in_err-play_call-clause-ran
returns-in_err-play_call-clause-ran g c =
    let had = c.requires.counts.each 0 (omega arith) in
    ran_err _ _ _ _ c.from_residual.ensures.0 (rw had at c.in_err-play_call.ensures.ran)

pub returns-clause-ran : goal.returns-clause-ran
returns-clause-ran g c =
    let had = c.requires.counts.each 0 (omega arith) in
    rw had at c.in_ok-play_call.ensures.ran

pub returns-clause-counts : goal.returns-clause-counts
returns-clause-counts g c =
    λ _. subst (HasCounts _)
    (sym (blocks_next c.args.boot.now c.args.at (plain_segment (call_at c.args.call.now)) c.requires.there
    c.requires.here))
    (call_counts c.args.steps.now (blocks_before c.args.boot.now c.args.at) (call_at c.args.call.now) c.requires.counts)
