use Rattle.std.proofs.Common.{◌≡◌, drop}
use Rattle.module_digest.specs.Faults.{first_fault, differs}
use Rattle.module_digest.proofs.checks.differing_fault.Given as goal

abbrev pub invariant-loop-entry : goal.invariant-loop-entry
invariant-loop-entry l =
    first_fault (differs l.directory) l.entries ≡ first_fault (differs l.directory) (drop l.entry-index l.entries)
