use Rattle.std.proofs.Common.{rules, ◌≡◌, ℕ, Option, Some, None, cond, ap, sym, ◌∙◌}
use Rattle.std.specs.BTreeMap as tree
use Rattle.std.specs.BTreeMap.{BTreeMap}
use Rattle.std.specs.Cmp.Lexicographic.{slice_cmp}
use Rattle.std.specs.Option.{option_and_then, option_or}
use Rattle.std.specs.Ordering.{nat_cmp, is_eq}
use Rattle.apex_base.specs.declared.records.Target.{Target}
use Rattle.package_store.specs.declared.earlier.EarlierTargets.{EarlierTargets}
use Rattle.package_store.proofs.LastBefore.{put_target, put_last}
use Rattle.package_store.proofs.RowNotes.{on_ok}
use Rattle.package_store.proofs.earlier.EarlierTargets.add.Goals as goal

pub returns-in-Some : goal.returns-in-Some
returns-in-Some c =
    let old = c.args.self.now in
    let p = c.args.p.now in
    let boot = c.args.boot in
    let inner = c.put_first.new.targets in
    let new : EarlierTargets = record { by_name = c.get_mut.follows.lender inner } in
    let there : Some c.in-Some.targets.now ≡ tree.get (slice_cmp nat_cmp) old.by_name p.name = c.in-Some.ensures.value in
    on_ok c.put_first.result c.put_first.ensures
    (λ first. put_last old new boot p
    (put_target old new p.name boot p.target inner
    (λ n. ((c.get_mut.follows.holds inner).3 (search rules)).0 n)
    (λ b. first b ∙ ap (λ (o : Option (BTreeMap ℕ Target)). option_or
    (option_and_then (λ ts. tree.get nat_cmp ts b) o) (cond (is_eq (nat_cmp boot b)) (Some p.target) None)) there)))

pub returns : goal.returns
returns c =
    let old = c.args.self.now in
    let p = c.args.p.now in
    let boot = c.args.boot in
    let inner = c.insert.new.self in
    let new : EarlierTargets = record { by_name = c.insert-2.new.self } in
    let same : c.get_mut.follows.lender-at-none ≡ old.by_name = search rules in
    let none : None ≡ tree.get (slice_cmp nat_cmp) old.by_name p.name = search rules in
    let empty : (b : ℕ) → tree.get nat_cmp c.new-targets.result b ≡ None = λ b. search rules in
    put_last old new boot p
    (put_target old new p.name boot p.target inner
    (λ n. rw (sym same) (c.in_ok-insert-2.ensures.updates.0 n))
    (λ b. c.in_ok-insert.ensures.updates.0 b
    ∙ ap (cond (is_eq (nat_cmp boot b)) (Some p.target)) (empty b)
    ∙ ap (λ (o : Option (BTreeMap ℕ Target)). option_or
    (option_and_then (λ ts. tree.get nat_cmp ts b) o) (cond (is_eq (nat_cmp boot b)) (Some p.target) None)) none))
