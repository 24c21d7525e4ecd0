use Rattle.std.proofs.Common.{◌≡◌, ℕ, List, Option, map, rules, sym, ap, subst, ◌∙◌}
use Rattle.std.specs.Cmp.Lexicographic.{slice_cmp}
use Rattle.std.specs.FinMap as fin
use Rattle.std.specs.List.Sorted.{IsStrictlySortedBy}
use Rattle.std.specs.Ordering.{nat_cmp}
use Rattle.row_codec.specs.declared.batch.Row.{Row}
use Rattle.row_codec.specs.Batch as batch
use Rattle.package_store.specs.Spelled.{ChangeMap, change_of, listed}
use Rattle.package_store.proofs.Maps.{ascending, in_order}
use Rattle.package_store.proofs.Noted.{keys_ascend}
use Rattle.package_store.proofs.changes.Changes.into_rows.Goals as goal

pub loop-key-init : goal.loop-key-init
loop-key-init c =
    let gives = c.into_iter-key-iterator.ensures.into_iter_gives in
    rw c.new-rows.ensures.items
    (ap (λ es. map change_of (map (λ entry. (entry.0.items, entry.1)) es)) gives.0
    ∙ ap (λ (es : List (List ℕ × Option (List ℕ))). map change_of es)
    (sym (in_order _ (ascending c.self.inside.map.entries gives.5))
    ∙ ap (λ (m : ChangeMap). fin.entries m) c.self.view_is))

pub returns-clause-ascending : goal.returns-clause-ascending
returns-clause-ascending c =
    let gives = c.into_iter-key-iterator.ensures.into_iter_gives in
    let all : c.loop-key.rows.items ≡ listed c.args.self = search rules in
    let es = map (λ entry. (entry.0.items, entry.1)) c.self.inside.map.entries in
    let is : es ≡ fin.entries c.args.self =
    sym (in_order _ (ascending c.self.inside.map.entries gives.5))
    ∙ ap (λ (m : ChangeMap). fin.entries m) c.self.view_is in
    subst (λ (rs : List Row). IsStrictlySortedBy (slice_cmp nat_cmp) (batch.keys_of rs))
    (ap (λ (es : List (List ℕ × Option (List ℕ))). map change_of es) is ∙ sym all)
    (keys_ascend es (ascending c.self.inside.map.entries gives.5))
