use Rattle.std.proofs.Common.{◌≡◌, List, ℕ, None, Some, cond, ap, sym, ◌∙◌}
use Rattle.std.specs.FinMap as fin
use Rattle.std.specs.Str.{bytes_eq}
use Rattle.package_store.specs.Named.{Note, resettled}
use Rattle.package_store.specs.Spelled.{ChangeMap}
use Rattle.package_store.proofs.RowNotes.{on_ok, put_note, removed_note, gone, none_if}
use Rattle.package_store.proofs.settling.settle_name.Goals as goal

pub returns-then-not-has : goal.returns-then-not-has
returns-then-not-has c =
    let old = c.args.changes.now in
    let key = c.args.key.now in
    let none : fin.get old key ≡ None = none_if (fin.get old key) (sym c.if-not-has.ensures) in
    on_ok c.put.result c.put.ensures
    (λ put q. ap (λ (m : ChangeMap). fin.get m q) put ∙ put_note old c.in_ok-from_slice.field-0.items None q
    ∙ ap (λ (k : List ℕ). cond (bytes_eq q k) (Some None) (fin.get old q)) c.in_ok-from_slice.ensures.items
    ∙ ap (λ (n : Note). cond (bytes_eq q key) (resettled n c.args.value.now) (fin.get old q)) (sym none))

pub returns-then-is_wanted : goal.returns-then-is_wanted
returns-then-is_wanted c =
    let old = c.args.changes.now in
    let key = c.args.key.now in
    λ q. ap (λ (m : ChangeMap). fin.get m q) c.remove.ensures ∙ removed_note old key q
    ∙ ap (λ (n : Note). cond (bytes_eq q key) n (fin.get old q))
    (sym (gone (fin.get old key) c.args.value.now (sym c.if-is_wanted.ensures)))
