use Rattle.std.proofs.Common.{◌≡◌, drop}
use Rattle.std.specs.List.{list_all}
use Rattle.apex_base.specs.declared.records.Record.{Record}
use Rattle.apex_world.specs.Decided.{is_after_undone}
use Rattle.session_check.proofs.undone.are_after_undone.Given as goal

-- what is left decides
abbrev pub invariant-loop-r : goal.invariant-loop-r
invariant-loop-r l =
    list_all (λ (r : Record). is_after_undone l.sessions r.activation r.kind) (drop l.r-index l.sessions)
    ≡ list_all (λ (r : Record). is_after_undone l.sessions r.activation r.kind) l.sessions
