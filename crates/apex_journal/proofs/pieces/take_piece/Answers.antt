use Rattle.std.proofs.Common.{ℕ, List, arith, subst}
use Rattle.apex_journal.specs.declared.half.PieceEnd.{PieceEnd}
use Rattle.apex_journal.specs.declared.half.PieceEnd.TheVariants.{Closed, Cut}
use Rattle.apex_journal.specs.Pieces.{IsPieceRead}
use Rattle.apex_journal.proofs.HalfPieces.{whole_begins, whole_closed, whole_damaged}
use Rattle.apex_journal.proofs.pieces.take_piece.Goals as goal

pub returns-then-left-need-clause-taken : goal.returns-then-left-need-clause-taken
returns-then-left-need-clause-taken c =
    let r = c.args.reading.now in
    let after = c.read_piece.new.records.items in
    let p = subst (λ (l : List ℕ). IsPieceRead l r.records.items after (Cut c.in-Cut.at c.in-Cut.need))
    c.deref.ensures.value (subst (λ (e : PieceEnd). IsPieceRead c.deref.result.now r.records.items after e) c.in-Cut.is
    c.in-Ok.ensures) in
    λ half long is begins. whole_damaged half r.piece.items r.records.items after r.at c.in-Cut.at is begins p.0
    c.in-Cut.need p.1 p.2 (omega (arith, long, c.if-left-need.true))

pub returns-in-Closed-clause-taken : goal.returns-in-Closed-clause-taken
returns-in-Closed-clause-taken c =
    let r = c.args.reading.now in
    let after = c.read_piece.new.records.items in
    let p = subst (λ (l : List ℕ). IsPieceRead l r.records.items after (Closed c.in-Closed.at))
    c.deref.ensures.value (subst (λ (e : PieceEnd). IsPieceRead c.deref.result.now r.records.items after e)
    c.in-Closed.is c.in-Ok.ensures) in
    λ half long is begins. whole_closed half r.piece.items r.records.items after r.at c.in-Closed.at is begins p.0 p.1

pub returns-in-Ok-make_room-clause-taken : goal.returns-in-Ok-make_room-clause-taken
returns-in-Ok-make_room-clause-taken c =
    let r = c.args.reading.now in
    let after = c.read_piece.new.records.items in
    let p = subst (λ (l : List ℕ). IsPieceRead l r.records.items after (Cut c.in-Cut.at c.in-Cut.need))
    c.deref.ensures.value (subst (λ (e : PieceEnd). IsPieceRead c.deref.result.now r.records.items after e) c.in-Cut.is
    c.in-Ok.ensures) in
    λ half long is begins. whole_begins half r.piece.items r.records.items after r.at c.in-Cut.at is begins p.0
