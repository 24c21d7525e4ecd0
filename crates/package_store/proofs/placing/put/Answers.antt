use Rattle.std.proofs.Common.{◌≡◌, ℕ, List, rules, ap, sym, subst, ◌∙◌}
use Rattle.std.specs.Cmp.Lexicographic.{slice_cmp}
use Rattle.std.specs.FinMap as fin
use Rattle.std.specs.List.{AllByRecursion}
use Rattle.std.specs.List.Sorted.{IsStrictlySortedBy}
use Rattle.std.specs.Map.{keys_of}
use Rattle.std.specs.Ordering.{nat_cmp}
use Rattle.apex_base.specs.Modules.{IsModule}
use Rattle.row_codec.specs.declared.batch.Row.{Row}
use Rattle.row_codec.specs.Batch as batch
use Rattle.row_map.specs.Rows.{changed}
use Rattle.package_store.specs.Placed.{file_changes}
use Rattle.package_store.proofs.Maps.{entries_again}
use Rattle.package_store.proofs.Placements.{placed, ascends, fits}
use Rattle.package_store.proofs.placing.put.Goals as goal

-- the rows are those of the module's files
is_all : (c : goal.In-None) → c.loop-path.changes.items ≡ file_changes c.args.session c.args.part c.args.files.now
is_all c = search rules

-- and the files ascend by path
ascend : (c : goal.In-None) → IsStrictlySortedBy (slice_cmp nat_cmp) (keys_of (fin.entries c.args.files.now))
ascend c = rw c.files-path-items.ensures.files at c.files-path-items.ensures.holds.ascending

is_module : (c : goal.In-None) → IsModule c.args.files.now
is_module c =
    subst IsModule (ap (λ (es : List (List ℕ × List ℕ)). fin.from_entries es) c.files-path-items.ensures.files
    ∙ entries_again c.args.files.now) c.files-path-items.ensures.holds.whole

pub returns-clause-after : goal.returns-clause-after
returns-clause-after c = λ rows key. ap (λ (rs : List Row). fin.get (changed rows rs) key) (is_all c)
    ∙ placed c.args.session c.args.part c.args.files.now rows key (ascend c)

pub returns-clause-ascending : goal.returns-clause-ascending
returns-clause-ascending c =
    subst (λ (rs : List Row). IsStrictlySortedBy (slice_cmp nat_cmp) (batch.keys_of rs)) (sym (is_all c))
    (ascends c.args.session c.args.part (fin.entries c.args.files.now) (ascend c))

pub returns-clause-fit : goal.returns-clause-fit
returns-clause-fit c =
    subst (λ (rs : List Row). AllByRecursion batch.IsRow rs) (sym (is_all c))
    (fits c.args.session c.args.part c.args.files.now (is_module c))
