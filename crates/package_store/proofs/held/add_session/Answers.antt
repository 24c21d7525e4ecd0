use Rattle.std.proofs.Common.{◌≡◌, ◌<◌, ◌≤◌, List, length, get_or, fold, take, Option, ap, sym, ◌∙◌}
use Rattle.std.specs.BTreeMap as tree
use Rattle.std.specs.Cmp.Lexicographic.{slice_cmp}
use Rattle.std.specs.Ordering.{nat_cmp}
use Rattle.std.proofs.lemmas.List.{take_all}
use Rattle.std.proofs.lemmas.List.Sums.{fold_more}
use Rattle.apex_base.specs.declared.records.Part.{Part}
use Rattle.package_store.specs.Latest.{Best, with_part}
use Rattle.package_store.proofs.LatestParts.{with_parts}
use Rattle.package_store.proofs.held.add_session.Goals as goal

pub loop-p-preserved : goal.loop-p-preserved
loop-p-preserved c =
    let xs : List Part = c.args.r.now.parts in
    let i = c.loop-p.p-index in
    let p : Part = c.p-item.result in
    let is : xs ≡ c.as_slice-p-items.result.now = sym c.as_slice-p-items.ensures in
    let low : i < length xs = rw is c.loop-p-test.true in
    let here : p ≡ get_or xs i p = rw is c.p-item.is in
    λ name.
    let f = with_part c.args.r.now.activation name in
    let start = tree.get (slice_cmp nat_cmp) c.args.held.now name in
    c.in_ok-add_part.ensures name ∙ ap (λ (best : Option Best). f best p) (c.loop-p.invariant name)
    ∙ ap (λ (x : Part). f (fold f start (take i xs)) x) here ∙ sym (fold_more f start xs i p low)

pub returns : goal.returns
returns c =
    let xs : List Part = c.args.r.now.parts in
    let high : length xs ≤ c.loop-p.p-index =
    rw (sym c.as_slice-p-items.ensures) c.loop-p-test.false in
    let all : take c.loop-p.p-index xs ≡ xs = take_all c.loop-p.p-index xs high in
    λ name.
    let start = tree.get (slice_cmp nat_cmp) c.args.held.now name in
    c.loop-p.invariant name ∙ ap (fold (with_part c.args.r.now.activation name) start) all
    ∙ with_parts c.args.r.now.activation name xs start
