use Rattle.std.proofs.Common.{refl, ◌≡◌, ◌<◌, ◌≤◌, ◌+◌, ◌++◌, ◌∷◌, [], ◌∙◌, ◌^◌, length, get_or, set, take, sym, ap}
use Rattle.std.proofs.Common.{subst, append_assoc, arith}
use Rattle.device_play.specs.Stages.{blocks_before, HasCounts}
use Rattle.device_play.proofs.Counts.{counts_few, counts_more, lane_playable}
use Rattle.play_text.proofs.Puts.{faults_more}
use Rattle.device_play.proofs.Places.{block_plan_at, block_plan_next, next_of}
use Rattle.device_play.proofs.Runs.{Stopped-at, Went-next, ran_err}
use Rattle.device_play.proofs.run.Run.play_segment.Goals as goal

pub bounds-steps-lane : goal.bounds-steps-lane
bounds-steps-lane g c =
    let s = c.args.segment.now in
    let l = c.lane-item.result in
    let j = c.loop-lane.lane-index in
    let lt : j < length s.lanes = omega (arith, ap length c.as_slice-lane-items.ensures) in
    let here : l ≡ get_or s.lanes j l = rw c.as_slice-lane-items.ensures at c.lane-item.is in
    omega (
      arith,
      (lane_playable (2 ^ 32) c.args.boot.now c.args.at j s l c.requires.playable c.requires.there
          c.requires.here lt here).number,
    )

pub play_lane-requires-clause-playable : goal.play_lane-requires-clause-playable
play_lane-requires-clause-playable g c =
    let s = c.args.segment.now in
    let l = c.lane-item.result in
    let j = c.loop-lane.lane-index in
    let lt : j < length s.lanes = omega (arith, ap length c.as_slice-lane-items.ensures) in
    let here : l ≡ get_or s.lanes j l = rw c.as_slice-lane-items.ensures at c.lane-item.is in
    lane_playable (2 ^ 32) c.args.boot.now c.args.at j s l c.requires.playable c.requires.there c.requires.here lt here

pub bounds-steps-lane-in-loop-lane : goal.bounds-steps-lane-in-loop-lane
bounds-steps-lane-in-loop-lane g c =
    let s = c.args.segment.now in
    let l = c.lane-item.result in
    let j = c.loop-lane.lane-index in
    let lt : j < length s.lanes = omega (arith, ap length c.as_slice-lane-items.ensures) in
    let here : l ≡ get_or s.lanes j l = rw c.as_slice-lane-items.ensures at c.lane-item.is in
    omega (
      arith,
      (lane_playable (2 ^ 32) c.args.boot.now c.args.at j s l c.requires.playable c.requires.there
          c.requires.here lt here).number,
    )

pub play_lane-requires-clause-few : goal.play_lane-requires-clause-few
play_lane-requires-clause-few g c =
    let s = c.args.segment.now in
    let l = c.lane-item.result in
    let j = c.loop-lane.lane-index in
    let lt : j < length s.lanes = omega (arith, ap length c.as_slice-lane-items.ensures) in
    let here : l ≡ get_or s.lanes j l = rw c.as_slice-lane-items.ensures at c.lane-item.is in
    let low : l.number ≤ 8 =
    (lane_playable (2 ^ 32) c.args.boot.now c.args.at j s l c.requires.playable c.requires.there c.requires.here lt
    here).number in
    let had = c.loop-lane.invariant.counts.each l.number low in
    omega (
      arith,
      had,
      counts_few (2 ^ 32) c.args.boot.now.segments c.args.at j s l c.requires.playable.steps
          c.requires.there c.requires.here lt here,
    )

pub returns-in_err-play_lane-clause-ran : goal.returns-in_err-play_lane-clause-ran
returns-in_err-play_lane-clause-ran g c =
    let s = c.args.segment.now in
    let l = c.lane-item.result in
    let j = c.loop-lane.lane-index in
    let lt : j < length s.lanes = omega (arith, ap length c.as_slice-lane-items.ensures) in
    let here : l ≡ get_or s.lanes j l = rw c.as_slice-lane-items.ensures at c.lane-item.is in
    let low : l.number ≤ 8 =
    (lane_playable (2 ^ 32) c.args.boot.now c.args.at j s l c.requires.playable c.requires.there c.requires.here lt
    here).number in
    let had = c.loop-lane.invariant.counts.each l.number low in
    let e = blocks_before c.args.boot.now c.args.at in
    ran_err _ _ _ _ c.from_residual.ensures.0
    (Stopped-at _ _ _ _ _ _ _ (block_plan_at c.args.number j e s.lanes l lt here) c.loop-lane.invariant.went
    (rw had at c.in_err-play_lane.ensures.ran))

pub overflow_cast-steps : goal.overflow_cast-steps
overflow_cast-steps g c =
    let s = c.args.segment.now in
    let l = c.lane-item.result in
    let j = c.loop-lane.lane-index in
    let lt : j < length s.lanes = omega (arith, ap length c.as_slice-lane-items.ensures) in
    let here : l ≡ get_or s.lanes j l = rw c.as_slice-lane-items.ensures at c.lane-item.is in
    let low : l.number ≤ 8 =
    (lane_playable (2 ^ 32) c.args.boot.now c.args.at j s l c.requires.playable c.requires.there c.requires.here lt
    here).number in
    let had = c.loop-lane.invariant.counts.each l.number low in
    omega (
      arith,
      had,
      ap length c.as_slice.ensures,
      counts_few (2 ^ 32) c.args.boot.now.segments c.args.at j s l
          c.requires.playable.steps c.requires.there c.requires.here lt here,
    )

pub overflow_add-steps : goal.overflow_add-steps
overflow_add-steps g c =
    let s = c.args.segment.now in
    let l = c.lane-item.result in
    let j = c.loop-lane.lane-index in
    let lt : j < length s.lanes = omega (arith, ap length c.as_slice-lane-items.ensures) in
    let here : l ≡ get_or s.lanes j l = rw c.as_slice-lane-items.ensures at c.lane-item.is in
    let low : l.number ≤ 8 =
    (lane_playable (2 ^ 32) c.args.boot.now c.args.at j s l c.requires.playable c.requires.there c.requires.here lt
    here).number in
    let had = c.loop-lane.invariant.counts.each l.number low in
    omega (
      arith,
      had,
      ap length c.as_slice.ensures,
      counts_few (2 ^ 32) c.args.boot.now.segments c.args.at j s l
          c.requires.playable.steps c.requires.there c.requires.here lt here,
    )

pub loop-lane-preserved : goal.loop-lane-preserved
loop-lane-preserved g c =
    let s = c.args.segment.now in
    let l = c.lane-item.result in
    let j = c.loop-lane.lane-index in
    let lt : j < length s.lanes = omega (arith, ap length c.as_slice-lane-items.ensures) in
    let here : l ≡ get_or s.lanes j l = rw c.as_slice-lane-items.ensures at c.lane-item.is in
    let low : l.number ≤ 8 =
    (lane_playable (2 ^ 32) c.args.boot.now c.args.at j s l c.requires.playable c.requires.there c.requires.here lt
    here).number in
    let had = c.loop-lane.invariant.counts.each l.number low in
    let e = blocks_before c.args.boot.now c.args.at in
    let steps = c.loop-lane.steps in
    let k = get_or steps l.number 0 + length c.as_slice.result.now in
    let is : k ≡ get_or steps l.number 0 + length l.calls =
    ap (λ cs. get_or steps l.number 0 + length cs) c.as_slice.ensures in
    let blocks : e ++ take (j + 1) s.lanes ≡ (e ++ take j s.lanes) ++ l ∷ [] =
    ap (λ ls. e ++ ls) (next_of s.lanes j l lt here) ∙ sym (append_assoc e (take j s.lanes) (l ∷ [])) in
    record {
      went = Went-next _ _ _ _ _ _ (block_plan_next c.args.number j e s.lanes l lt here) c.loop-lane.invariant.went
          (rw had at c.in_ok-play_lane.ensures.ran);
      counts = subst (HasCounts (set steps l.number k)) (sym blocks)
          (counts_more steps (e ++ take j s.lanes) l k c.loop-lane.invariant.counts low is);
      faults = faults_more _ _ _ _ _ c.loop-lane.invariant.faults c.in_ok-play_lane.ensures.faults;
      on = c.in_ok-play_lane.ensures.on refl;
    }
