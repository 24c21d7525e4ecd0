use Rattle.std.proofs.Common.{◌≡◌, ℕ, List, fold, take}
use Rattle.std.specs.FinMap as fin
use Rattle.package_store.specs.Named.{note_held, if_undoable}
use Rattle.package_store.proofs.naming.name_changes.Given as goal

-- what names hold, and held before those of the sessions so far that can be undone
abbrev pub invariant-loop-r : goal.invariant-loop-r
invariant-loop-r l = (key : List ℕ) → fin.get l.changes key
    ≡ fold (if_undoable l.records key) (note_held l.held.entries key) (take l.r-index l.records)
