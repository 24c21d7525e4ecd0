use Rattle.std.proofs.Common.{◌≡◌, ◌≤◌, List, ℕ, None, Some, false, cond, ◌-◌, length, take, drop, get_or, ap, sym, ◌∙◌}
use Rattle.std.specs.FinMap as fin
use Rattle.std.specs.Str.{bytes_eq}
use Rattle.package_store.specs.Named.{Note, note_row}
use Rattle.package_store.specs.Keeping.{stays_among}
use Rattle.package_store.specs.Spelled.{ChangeMap}
use Rattle.package_store.proofs.RowNotes.{on_ok, put_note, file_gone}
use Rattle.package_store.proofs.settling.settle_row.Goals as goal

pub returns-then-not-file_stays : goal.returns-then-not-file_stays
returns-then-not-file_stays c =
    let old = c.args.changes.now in
    let key = c.args.key.now in
    let long : 1 ≤ length key = c.in-len1-up.len_at_least in
    let five : get_or key 0 0 ≡ 5 = c.if-tag-eq-FILE.true in
    let gone : stays_among c.args.kept.now (take (length key - 1) (drop 1 key)) ≡ false =
    sym c.if-not-file_stays.ensures in
    let row : note_row (stays_among c.args.kept.now) key c.args.value.now (fin.get old key) ≡ Some None =
    file_gone (stays_among c.args.kept.now) key c.args.value.now (fin.get old key) long five gone in
    on_ok c.put.result c.put.ensures
    (λ put q. ap (λ (m : ChangeMap). fin.get m q) put ∙ put_note old c.in_ok-from_slice.field-0.items None q
    ∙ ap (λ (k : List ℕ). cond (bytes_eq q k) (Some None) (fin.get old q)) c.in_ok-from_slice.ensures.items
    ∙ ap (λ (n : Note). cond (bytes_eq q key) n (fin.get old q)) (sym row))
