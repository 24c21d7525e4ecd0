use Rattle.std.proofs.Common.{◌≡◌, [], nat_eq, drop}
use Rattle.std.specs.Cmp.Lexicographic.{pointwise}
use Rattle.indexmap.specs.IndexSet.{insert_all}
use Rattle.watchdog_window.proofs.observers.Observers.of.Given as goal

-- what is left, put after what was put, gives what all give
abbrev pub invariant-loop-name : goal.invariant-loop-name
invariant-loop-name l =
    insert_all (pointwise nat_eq) l.registered.keys (drop l.name-index l.fn.names) ≡ insert_all (pointwise nat_eq) [] l.fn.names
