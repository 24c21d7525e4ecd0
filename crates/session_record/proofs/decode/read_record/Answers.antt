use Rattle.std.proofs.Common.{◌≡◌, Some, None, sym, ◌∙◌}
use Rattle.session_record.specs.Units.{units_at}
use Rattle.session_record.proofs.Fronts.{no_front, after_front}
use Rattle.session_record.proofs.Parts.{uncounted, no_units, bytes_left, all_read}
use Rattle.session_record.proofs.decode.read_record.Goals as goal

pub returns-in_default : goal.returns-in_default
returns-in_default c = no_front c.args.id c.args.bytes.now c.in_default.ensures

pub returns-then-not-is_count : goal.returns-then-not-is_count
returns-then-not-is_count c =
    sym (uncounted c.args.id c.in-Some.front c.in-Some.rest.now (sym c.if-not-is_count.ensures))
    ∙ after_front c.args.id c.args.bytes.now c.in-Some.front c.in-Some.rest.now c.in-Some.ensures

pub returns-in_default-2 : goal.returns-in_default-2
returns-in_default-2 c =
    let none : None ≡ units_at c.in-Some.front.children c.in-Some.front.parts c.in-Some.rest.now =
    rw c.in_default-2.is at c.in_ok-units.ensures in
    sym (no_units c.args.id c.in-Some.front c.in-Some.rest.now (sym c.if-not-is_count.ensures) none)
    ∙ after_front c.args.id c.args.bytes.now c.in-Some.front c.in-Some.rest.now c.in-Some.ensures

pub returns-then-not-is_empty : goal.returns-then-not-is_empty
returns-then-not-is_empty c =
    let front = c.in-Some.front in
    let units = c.in-Some-2.units in
    let read : Some ((units.children.items, units.parts.items), c.in-Some-2.rest.now)
    ≡ units_at front.children front.parts c.in-Some.rest.now =
    rw c.in-Some-2.is at c.in_ok-units.ensures in
    sym (bytes_left c.args.id front c.in-Some.rest.now _ _ (sym c.if-not-is_count.ensures) read
    c.if-not-is_empty.ensures)
    ∙ after_front c.args.id c.args.bytes.now front c.in-Some.rest.now c.in-Some.ensures

pub returns : goal.returns
returns c =
    let front = c.in-Some.front in
    let units = c.in-Some-2.units in
    let read : Some ((units.children.items, units.parts.items), c.in-Some-2.rest.now)
    ≡ units_at front.children front.parts c.in-Some.rest.now =
    rw c.in-Some-2.is at c.in_ok-units.ensures in
    rw (c.of.ensures, c.of-2.ensures)
    (sym (all_read c.args.id front c.in-Some.rest.now _ _ (sym c.if-not-is_count.ensures) read
    c.if-not-is_empty.ensures)
    ∙ after_front c.args.id c.args.bytes.now front c.in-Some.rest.now c.in-Some.ensures)
