use Rattle.std.proofs.Common.{ℕ, List, Option, fold, take}
use Rattle.package_store.specs.Earlier.{IsLast, with_earlier}
use Rattle.package_store.specs.Latest.{Best}
use Rattle.package_store.proofs.earlier.EarlierTargets.add_session.Given as goal

-- what is last is so with the parts so far
abbrev pub invariant-loop-p : goal.invariant-loop-p
invariant-loop-p l = (limit : ℕ) (name : List ℕ) (best : Option Best) → IsLast l.fn.self limit name best
    → IsLast l.self limit name (fold (with_earlier l.r.activation limit name) best (take l.p-index l.r.parts))
