use Rattle.std.proofs.Common.{◌≡◌, ◌∷◌, List, ℕ, Vec, Global, cond, ap, sym, subst, ◌∙◌}
use Rattle.std.specs.FinMap as fin
use Rattle.std.specs.List.{AllByRecursion}
use Rattle.std.specs.Str.{bytes_eq}
use Rattle.apex_base.specs.Held.{kept}
use Rattle.row_codec.specs.declared.batch.Row.{Row}
use Rattle.row_map.specs.Rows.{rows_of, shown, changed}
use Rattle.package_store.specs.Keeping.{stays_among}
use Rattle.package_store.specs.Named.{Note, note_row}
use Rattle.package_store.specs.Settled.{settled_value, file_stays, IsChange}
use Rattle.package_store.specs.Spelled.{change_to}
use Rattle.package_store.proofs.KeptModules.{same_note}
use Rattle.package_store.proofs.Noted.{all_made, all_change}
use Rattle.package_store.proofs.RowNotes.{if_ok}
use Rattle.package_store.proofs.RowSteps.{Settling, starts, row_settled, ends}
use Rattle.package_store.proofs.settling.settle_held.Goals as goal

pub loop-key-init : goal.loop-key-init
loop-key-init c =
    let records = c.args.records.now in
    let gives = c.into_iter-key-iterator.ensures.into_iter_gives in
    subst (λ es. Settling records (rows_of c.args.rows.now.entries) c.in_ok-changes.changes (shown es)) (sym gives.0)
    (starts records c.args.rows.now.entries c.in_ok-changes.changes
    c.in_ok-changes.ensures gives.5)

pub loop-key-preserved : goal.loop-key-preserved
loop-key-preserved c =
    let records = c.args.records.now in
    let rows = rows_of c.args.rows.now.entries in
    let old = c.loop-key.changes in
    let row : List ℕ × List ℕ = (c.in-Some.key.now.items, c.in-Some.value.now) in
    let rest = shown c.next.new.self in
    let s : Settling records rows old (row ∷ rest) =
    subst (λ es. Settling records rows old (shown es)) c.in-Some.ensures.steps c.loop-key.invariant in
    let stays = stays_among c.in_ok-kept.kept in
    let seen : (q : List ℕ) → fin.get c.settle_row.new.changes q
    ≡ cond (bytes_eq q row.0) (note_row stays row.0 row.1 (fin.get old row.0)) (fin.get old q) =
    rw (
      c.deref.ensures.value,
      c.as_slice.ensures,
    ) at c.in_ok-settle_row.ensures in
    let noted : (q : List ℕ) → fin.get c.settle_row.new.changes q
    ≡ cond (bytes_eq q row.0) (note_row (file_stays (kept records)) row.0 row.1 (fin.get old row.0)) (fin.get old q) =
    λ q. seen q ∙ ap (λ (n : Note). cond (bytes_eq q row.0) n (fin.get old q))
    (same_note c.in_ok-kept.kept (kept records) c.in_ok-kept.ensures row.0 row.1 (fin.get old row.0)) in
    row_settled records rows old c.settle_row.new.changes row rest s noted

-- each key has its change where the loop ends
noted : (c : goal.After-drop-earlier-2) → (q : List ℕ) → fin.get c.loop-key.changes q
    ≡ change_to (fin.get (rows_of c.args.rows.now.entries) q)
    (settled_value (rows_of c.args.rows.now.entries) c.args.records.now q)
noted c =
    ends c.args.records.now (rows_of c.args.rows.now.entries) c.loop-key.changes
    (subst (λ es. Settling c.args.records.now (rows_of c.args.rows.now.entries) c.loop-key.changes (shown es))
    c.in-None.ensures.steps.0 c.loop-key.invariant)

pub returns-clause-after : goal.returns-clause-after
returns-clause-after c =
    let rows = rows_of c.args.rows.now.entries in
    if_ok c.into_rows.result c.into_rows.ensures.rows
    (λ (v : Vec Row Global) is q. ap (λ (rs : List Row). fin.get (changed rows rs) q) is
    ∙ all_made rows c.loop-key.changes (settled_value rows c.args.records.now) (noted c) q)

pub returns-clause-exact : goal.returns-clause-exact
returns-clause-exact c =
    let rows = rows_of c.args.rows.now.entries in
    if_ok c.into_rows.result c.into_rows.ensures.rows
    (λ (v : Vec Row Global) is. subst (λ (rs : List Row). AllByRecursion (IsChange rows) rs) (sym is)
    (all_change rows c.loop-key.changes (settled_value rows c.args.records.now) (noted c)))
