use Rattle.std.proofs.Common.{◌≡◌, ◌++◌, map}
use Rattle.package_store.specs.Placed.{file_change, file_changes}
use Rattle.package_store.proofs.placing.put.Given as goal

-- the rows so far, and those of the files that are left
abbrev pub invariant-loop-path : goal.invariant-loop-path
invariant-loop-path l =
    l.changes.items ++ map (file_change l.session l.part) l.path-iterator ≡ file_changes l.session l.part l.files
