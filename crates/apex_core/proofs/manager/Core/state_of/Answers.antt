use Rattle.std.proofs.Common.{◌≡◌, sym, subst, ◌∙◌}
use Rattle.std.specs.Prelude.{List, []}
use Rattle.apex_base.specs.declared.records.Record.{Record}
use Rattle.apex_base.specs.Members.{In}
use Rattle.apex_core.proofs.manager.Core.state_of.Goals as goal

pub session_with-requires-clause-childless : goal.session_with-requires-clause-childless
session_with-requires-clause-childless c =
    let (w, s) = c.self.invariant in
    subst (λ (ss : List Record). (r : Record) → In r ss → r.children ≡ []) (sym (c.deref.ensures.value ∙ s.sessions))
    s.simple.childless
