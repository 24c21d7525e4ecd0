use Rattle.std.proofs.Common.{◌≡◌, ◌++◌, map}
use Rattle.package_store.specs.Spelled.{change_of, listed}
use Rattle.package_store.proofs.changes.Changes.into_rows.Given as goal

-- the changes so far, and those that are left
abbrev pub invariant-loop-key : goal.invariant-loop-key
invariant-loop-key l =
    l.rows.items ++ map change_of (map (λ entry. (entry.0.items, entry.1)) l.key-iterator) ≡ listed l.fn.self
