use Rattle.std.proofs.Common.{◌≡◌, ◌||◌, Bool, true, List, fold, take, Option, ap, sym, subst, ◌∙◌}
use Rattle.std.proofs.lemmas.List.{take_all}
use Rattle.std.proofs.lemmas.List.Elements.{All-from_recursion}
use Rattle.apex_base.specs.declared.records.Record.{Record}
use Rattle.apex_base.specs.Held.{is_available, target_of}
use Rattle.package_store.specs.Earlier.{AreEarlier, looks_back}
use Rattle.package_store.specs.Latest.{Best}
use Rattle.session_record.specs.Room.{HasPartNumber}
use Rattle.package_store.specs.Named.{note_held, if_undoable}
use Rattle.package_store.proofs.HeldNames.{Lists, lists}
use Rattle.package_store.proofs.NameNotes.{all_noted}
use Rattle.package_store.proofs.Parts.{held_part}
use Rattle.package_store.proofs.naming.name_changes.Goals as goal

pub active_changes-requires : goal.active_changes-requires
active_changes-requires c = λ name.
    subst (λ (best : Option Best). HasPartNumber (target_of best)) (sym (c.requires.held name))
    (held_part c.args.records.now name c.requires.parts)

pub add_backups-requires : goal.add_backups-requires
add_backups-requires c =
    let records = c.args.records.now in
    let i = c.loop-r.r-index in
    let r : Record = c.r-item.result in
    let Asked : Record → Type 0 = λ (r : Record). looks_back r ≡ true → AreEarlier records c.args.earlier.now in
    let asked : Asked r =
    subst Asked (sym c.r-item.is) (All-from_recursion Asked records c.requires.earlier i r c.loop-r-test.true) in
    let back : looks_back r ≡ true = ap (λ (b : Bool). b || is_available r.rollback) (sym c.if-is_undoable.ensures) in
    (records, c.requires.parts, asked back)

pub returns : goal.returns
returns c =
    let records : List Record = c.args.records.now in
    let all : take c.loop-r.r-index records ≡ records =
    take_all c.loop-r.r-index records c.loop-r-test.false in
    let has : Lists records c.args.held.now.entries =
    lists records c.args.held.now c.requires.held c.active_changes.ensures.ordered in
    λ key.
    c.loop-r.invariant key
    ∙ ap (fold (if_undoable records key) (note_held c.args.held.now.entries key)) all
    ∙ all_noted records c.args.held.now.entries has key
