use Rattle.std.proofs.Common.{arith}
use Rattle.std.proofs.lemmas.List.{length-take-le}
use Rattle.device_play.proofs.Sources.{took_none}
use Rattle.device_play.proofs.source.read_piece.Goals as goal

pub returns-in-Ok-eq0-clause-end : goal.returns-in-Ok-eq0-clause-end
returns-in-Ok-eq0-clause-end g c =
    λ _. took_none _ _ _ _ c.in-Ok-eq0.field-0 (omega arith)
    (omega (arith, c.requires.some, c.read.auto.into, length-take-le c.args.most c.args.buffer.now c.requires.room))
    c.in-Ok-eq0.ensures.taken
