use Rattle.std.proofs.Common.{◌≡◌, drop, Bool}
use Rattle.std.specs.List.{list_all}
use Rattle.apex_base.specs.declared.records.Record.{Record}
use Rattle.apex_base.specs.Commit.{rollback_id}
use Rattle.apex_base.specs.Rollbacks.{is_committed}
use Rattle.apex_base.specs.Sessions.{session_of}
use Rattle.apex_world.specs.Decided.{implies, undoes_it}
use Rattle.session_check.proofs.undone.are_undone.Given as goal

-- what is left decides
abbrev pub invariant-loop-x : goal.invariant-loop-x
invariant-loop-x l =
    let test : Record → Bool =
    λ x. implies (is_committed x.rollback) (undoes_it x.id (session_of l.sessions (rollback_id x.id))) in
    list_all test (drop l.x-index l.sessions) ≡ list_all test l.sessions
