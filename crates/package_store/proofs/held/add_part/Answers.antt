use Rattle.std.proofs.Common.{rules, ◌≡◌, Some, None, ◌∙◌}
use Rattle.std.specs.BTreeMap as tree
use Rattle.std.specs.Cmp.Lexicographic.{slice_cmp}
use Rattle.std.specs.Ordering.{nat_cmp}
use Rattle.package_store.proofs.LatestParts.{put_later, put_same, put_first}
use Rattle.package_store.proofs.held.add_part.Goals as goal

pub returns-then-best-activation : goal.returns-then-best-activation
returns-then-best-activation c =
    let get = tree.get (slice_cmp nat_cmp) c.args.held.now in
    let there : Some c.in-Some.best.now ≡ get c.args.p.now.name = c.in-Some.ensures.value in
    λ name. ((c.get_mut.follows.holds (c.args.activation, c.args.p.now.target)).3 (search rules)).0 name
    ∙ put_later get c.args.activation c.args.p.now c.in-Some.best.now name there c.if-best-activation.true

pub returns-else-best-activation : goal.returns-else-best-activation
returns-else-best-activation c =
    let get = tree.get (slice_cmp nat_cmp) c.args.held.now in
    let there : Some c.in-Some.best.now ≡ get c.args.p.now.name = c.in-Some.ensures.value in
    λ name. ((c.get_mut.follows.holds c.in-Some.best.now).3 (search rules)).0 name
    ∙ put_same get c.args.activation c.args.p.now c.in-Some.best.now name there c.if-best-activation.false

pub returns : goal.returns
returns c =
    let same : c.get_mut.follows.lender-at-none ≡ c.args.held.now = search rules in
    let none : None ≡ tree.get (slice_cmp nat_cmp) c.args.held.now c.args.p.now.name = search rules in
    λ name. c.in_ok-insert.ensures.updates.0 name
    ∙ rw same (put_first (tree.get (slice_cmp nat_cmp) c.args.held.now) c.args.activation c.args.p.now name none)
