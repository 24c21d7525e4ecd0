use Rattle.std.proofs.Common.{arith, ◌+◌, ◌-◌, length, take, drop}
use Rattle.std.proofs.lemmas.List.{take_rest}
use Rattle.apex_journal.proofs.HalfPieces.{long_enough, piece_step}
use Rattle.apex_journal.proofs.half.read_piece.Goals as goal

pub loop-at-preserved : goal.loop-at-preserved
loop-at-preserved c =
    let piece = c.args.piece.now in
    let at = c.loop-at.at in
    let rest = take (length piece - (at + 1)) (drop (at + 1) piece) in
    let need = c.need_of-need.result in
    let four = long_enough rest need c.need_of-need.ensures.need (omega (arith, c.if-rest-need.false)) in
    record {
      adds = piece_step piece rest c.args.records.now.items c.loop-at.records.items c.push_copy.new.records.items at
          (need - 6) (4 + (need - 6) - 4) (take_rest piece (at + 1)) (omega arith) c.loop-at.invariant.adds
          c.loop-at-test.true (c.need_of-need.ensures.len four)
          (omega (arith, c.if-rest-need.false, c.need_of-need.ensures.some)) c.in_ok-push_copy.ensures;
    }
