use Rattle.std.proofs.Common.{◌≡◌, not}
use Rattle.std.specs.List.{filter}
use Rattle.module_digest.specs.Listing.{listed_files, is_own_path}
use Rattle.module_digest.specs.Faults.{first_fault, unlisted}
use Rattle.module_digest.proofs.checks.unlisted_fault.Given as goal

-- the files that are left decide
abbrev pub invariant-loop-path : goal.invariant-loop-path
invariant-loop-path l =
    first_fault (unlisted l.entries) (listed_files l.directory)
    ≡ first_fault (unlisted l.entries) (filter (λ f. not (is_own_path f.0)) l.path-iterator)
