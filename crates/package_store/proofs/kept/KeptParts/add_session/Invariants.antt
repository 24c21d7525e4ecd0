use Rattle.std.proofs.Common.{◌≡◌, ℕ, true, List, fold, take}
use Rattle.apex_base.specs.declared.numbers.SessionId.{SessionId}
use Rattle.apex_base.specs.declared.records.Record.{Record}
use Rattle.package_store.specs.Earlier.{AreEarlier, looks_back}
use Rattle.package_store.specs.Keeping.{has_part, keep_for}
use Rattle.package_store.proofs.kept.KeptParts.add_session.Given as goal

-- what the parts so far keep
abbrev pub invariant-loop-p : goal.invariant-loop-p
invariant-loop-p l = (records : List Record) → (looks_back l.r ≡ true → AreEarlier records l.earlier)
    → (session : SessionId) (part : ℕ)
    → has_part l.self session part
    ≡ fold (keep_for records l.r session part) (has_part l.fn.self session part) (take l.p-index l.r.parts)
