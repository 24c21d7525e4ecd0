use Rattle.std.proofs.Common.{arith}
use Rattle.session_record.proofs.Lengths.{parts_more}
use Rattle.session_record.proofs.length.parts_len.Goals as goal

pub loop-part-preserved : goal.loop-part-preserved
loop-part-preserved c =
    let more = parts_more c.args.parts.now c.loop-part.part-index c.part-item.result c.loop-part-test.true
    c.part-item.is in (
      omega (arith, more, c.loop-part.invariant.0, c.part_len.ensures.value),
      omega (arith, c.loop-part.invariant.1, c.part_len.ensures.small),
    )
