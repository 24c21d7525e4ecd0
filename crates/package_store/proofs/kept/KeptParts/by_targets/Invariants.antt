use Rattle.std.proofs.Common.{◌≡◌, ℕ, Bool, false, fold, take}
use Rattle.apex_base.specs.declared.numbers.SessionId.{SessionId}
use Rattle.apex_base.specs.declared.records.Record.{Record}
use Rattle.package_store.specs.Keeping.{has_part, keep_held, keep_for}
use Rattle.package_store.proofs.kept.KeptParts.by_targets.Given as goal

-- what the sessions so far keep
abbrev pub invariant-loop-r : goal.invariant-loop-r
invariant-loop-r l = (session : SessionId) (part : ℕ) → has_part l.parts session part
    ≡ fold (λ (noted : Bool) (r : Record). fold (keep_for l.records r session part) noted r.parts)
    (fold (keep_held session part) false l.held.entries) (take l.r-index l.records)
