use Rattle.std.proofs.Common.{◌≡◌, ◌<◌, List, Bool, length, get_or, fold, take, ap, sym, ◌∙◌}
use Rattle.std.proofs.lemmas.List.Sums.{fold_more}
use Rattle.apex_base.specs.declared.records.Part.{Part}
use Rattle.package_store.specs.Keeping.{has_part, keep_for}
use Rattle.package_store.proofs.kept.KeptParts.add_session.Goals as goal

pub loop-p-preserved : goal.loop-p-preserved
loop-p-preserved c =
    let xs : List Part = c.args.r.now.parts in
    let i = c.loop-p.p-index in
    let p : Part = c.p-item.result in
    let is : xs ≡ c.as_slice-p-items.result.now = sym c.as_slice-p-items.ensures in
    let low : i < length xs = rw is c.loop-p-test.true in
    let here : p ≡ get_or xs i p = rw is c.p-item.is in
    λ records are session part.
    let f : Bool → Part → Bool = keep_for records c.args.r.now session part in
    let start = has_part c.args.self.now session part in
    c.in_ok-add_for.ensures records are session part
    ∙ ap (λ (b : Bool). f b p) (c.loop-p.invariant records are session part)
    ∙ ap (λ (x : Part). f (fold f start (take i xs)) x) here ∙ sym (fold_more f start xs i p low)
