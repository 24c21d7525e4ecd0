use Rattle.std.proofs.Common.{◌≡◌, drop}
use Rattle.module_digest.specs.Faults.{first_fault, absent}
use Rattle.module_digest.proofs.checks.absent_fault.Given as goal

abbrev pub invariant-loop-entry : goal.invariant-loop-entry
invariant-loop-entry l =
    first_fault (absent l.directory) l.entries ≡ first_fault (absent l.directory) (drop l.entry-index l.entries)
