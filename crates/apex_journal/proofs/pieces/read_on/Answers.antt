use Rattle.std.proofs.Common.{◌≡◌, Err, ℕ, ◌+◌, length, take, drop, arith, ap, sym, ◌∙◌, subst}
use Rattle.std.proofs.lemmas.List.{with_items_is}
use Rattle.std.specs.Vec.{with_items}
use Rattle.apex_journal.specs.Journal.{half_of}
use Rattle.apex_journal.specs.declared.pieces.HalfWhy.{HalfWhy}
use Rattle.apex_journal.specs.Records.{IsDamagedAt}
use Rattle.apex_journal.specs.Pieces.{IsPieceTaken}
use Rattle.apex_journal.proofs.Told.{told_at}
use Rattle.apex_journal.proofs.HalfPieces.{half_long, piece_of_half}
use Rattle.apex_journal.proofs.pieces.read_on.Goals as goal

pub returns-in-Ok-take_piece-clause-read : goal.returns-in-Ok-take_piece-clause-read
returns-in-Ok-take_piece-clause-read g c = λ file told.
    let r = c.args.reading.now in
    let room = c.deref_mut.result.now in
    let into = c.read_at.new.into in
    let piece = (with_items r.piece into).items in
    let long = g.met.D.Disk.images_long c.args.disk.now file (g.met.D.Disk.reads_left c.args.disk.now file told) in
    let same : piece ≡ into = with_items_is r.piece into (omega arith) in
    let is = told_at (g.D.Disk.reads c.args.disk.now)
    (λ f. into ≡ take (length room) (drop (4096 + r.at) f)) file told c.in-Ok.ensures.bytes in
    c.in-Ok-take_piece.ensures.taken (half_of c.args.scale file)
    (half_long c.args.scale file (omega (arith, long, c.requires.long)) ∙ sym c.half_len.ensures.len)
    (piece_of_half c.args.scale file piece into room r.at same (omega (arith, ap length same)) is
    (omega (arith, ap length c.deref_mut.ensures.value, c.requires.inside.inside))) (c.requires.begins file told)

pub returns-in-Err-RunsOver-clause-refused : goal.returns-in-Err-RunsOver-clause-refused
returns-in-Err-RunsOver-clause-refused g c = λ file told.
    let r = c.args.reading.now in
    let room = c.deref_mut.result.now in
    let into = c.read_at.new.into in
    let piece = (with_items r.piece into).items in
    let long = g.met.D.Disk.images_long c.args.disk.now file (g.met.D.Disk.reads_left c.args.disk.now file told) in
    let same : piece ≡ into = with_items_is r.piece into (omega arith) in
    let is = told_at (g.D.Disk.reads c.args.disk.now)
    (λ f. into ≡ take (length room) (drop (4096 + r.at) f)) file told c.in-Ok.ensures.bytes in
    let after = c.take_piece.new.reading in
    let damaged : IsDamagedAt (half_of c.args.scale file) c.in-Err-RunsOver.at =
    subst (λ (why : HalfWhy). IsPieceTaken (half_of c.args.scale file) after (Err why))
    c.in-Err-RunsOver.field-0-is (c.in-Err-RunsOver.ensures.taken (half_of c.args.scale file)
    (half_long c.args.scale file (omega (arith, long, c.requires.long)) ∙ sym c.half_len.ensures.len)
    (piece_of_half c.args.scale file piece into room r.at same (omega (arith, ap length same)) is
    (omega (arith, ap length c.deref_mut.ensures.value, c.requires.inside.inside))) (c.requires.begins file told)) in (
      omega arith,
      subst (λ (k : ℕ). IsDamagedAt (half_of c.args.scale file) k) (omega arith) damaged,
    )
