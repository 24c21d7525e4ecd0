use Rattle.std.proofs.Common.{◌≡◌, ℕ, fold}
use Rattle.apex_base.specs.declared.numbers.SessionId.{SessionId}
use Rattle.package_store.specs.Keeping.{has_part, keep_held}
use Rattle.package_store.proofs.kept.KeptParts.add_held.Given as goal

-- what the names that are left make of what is kept so far
abbrev pub invariant-loop-best : goal.invariant-loop-best
invariant-loop-best l = (session : SessionId) (part : ℕ)
    → fold (keep_held session part) (has_part l.self session part) l.best-iterator
    ≡ fold (keep_held session part) (has_part l.fn.self session part) l.held.entries
