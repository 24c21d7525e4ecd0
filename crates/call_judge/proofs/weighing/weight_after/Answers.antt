use Rattle.std.proofs.Common.{arith}
use Rattle.call_judge.proofs.Weights.{weighs_after, lost_most}
use Rattle.call_judge.proofs.weighing.weight_after.Goals as goal

pub gained-requires : goal.gained-requires
gained-requires c =
    omega (
      arith,
      weighs_after c.args.batch.now c.args.rows.now c.requires.ascending,
      lost_most c.args.batch.now c.args.rows.now c.requires.ascending,
      c.requires.small_after,
    )

pub overflow_add-result : goal.overflow_add-result
overflow_add-result c =
    omega (
      arith,
      weighs_after c.args.batch.now c.args.rows.now c.requires.ascending,
      lost_most c.args.batch.now c.args.rows.now c.requires.ascending,
      c.requires.small,
      c.requires.small_after,
      c.requires.weighs,
      c.gained.ensures,
    )

pub lost-requires : goal.lost-requires
lost-requires c =
    omega (arith, lost_most c.args.batch.now c.args.rows.now c.requires.ascending, c.requires.small)

pub overflow_sub-result : goal.overflow_sub-result
overflow_sub-result c =
    omega (
      arith,
      lost_most c.args.batch.now c.args.rows.now c.requires.ascending,
      c.requires.weighs,
      c.lost.ensures,
    )

pub returns : goal.returns
returns c =
    omega (
      arith,
      weighs_after c.args.batch.now c.args.rows.now c.requires.ascending,
      c.requires.weighs,
      c.gained.ensures,
      c.lost.ensures,
    )
