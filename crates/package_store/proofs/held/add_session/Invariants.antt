use Rattle.std.proofs.Common.{◌≡◌, ℕ, List, fold, take}
use Rattle.std.specs.BTreeMap as tree
use Rattle.std.specs.Cmp.Lexicographic.{slice_cmp}
use Rattle.std.specs.Ordering.{nat_cmp}
use Rattle.package_store.specs.Latest.{with_part}
use Rattle.package_store.proofs.held.add_session.Given as goal

-- what the parts so far have for each name
abbrev pub invariant-loop-p : goal.invariant-loop-p
invariant-loop-p l = (name : List ℕ) → tree.get (slice_cmp nat_cmp) l.held name
    ≡ fold (with_part l.r.activation name) (tree.get (slice_cmp nat_cmp) l.fn.held name) (take l.p-index l.r.parts)
