use Rattle.std.proofs.Common.{◌≡◌, ◌<◌, ◌≤◌, List, length, get_or, fold, take, ap, sym, ◌∙◌}
use Rattle.std.proofs.lemmas.List.{take_all}
use Rattle.std.proofs.lemmas.List.Sums.{fold_more}
use Rattle.std.specs.FinMap as fin
use Rattle.apex_base.specs.declared.records.Part.{Part}
use Rattle.package_store.specs.Named.{Note, note_backup}
use Rattle.package_store.proofs.naming.add_backups.Goals as goal

pub loop-p-preserved : goal.loop-p-preserved
loop-p-preserved c =
    let xs : List Part = c.args.r.now.parts in
    let i = c.loop-p.p-index in
    let p : Part = c.p-item.result in
    let is : xs ≡ c.as_slice-p-items.result.now = sym c.as_slice-p-items.ensures in
    let low : i < length xs = rw is c.loop-p-test.true in
    let here : p ≡ get_or xs i p = rw is c.p-item.is in
    λ records are key.
    let f : Note → Part → Note = λ noted (p : Part). note_backup records c.args.r.now p.name key noted in
    let start = fin.get c.args.changes.now key in
    c.in_ok-add_backup.ensures records are key ∙ ap (λ (n : Note). f n p) (c.loop-p.invariant records are key)
    ∙ ap (λ (x : Part). f (fold f start (take i xs)) x) here ∙ sym (fold_more f start xs i p low)

pub returns : goal.returns
returns c =
    let xs : List Part = c.args.r.now.parts in
    let high : length xs ≤ c.loop-p.p-index = rw (sym c.as_slice-p-items.ensures) c.loop-p-test.false in
    λ records are key.
    let f : Note → Part → Note = λ noted (p : Part). note_backup records c.args.r.now p.name key noted in
    c.loop-p.invariant records are key
    ∙ ap (fold f (fin.get c.args.changes.now key)) (take_all c.loop-p.p-index xs high)
