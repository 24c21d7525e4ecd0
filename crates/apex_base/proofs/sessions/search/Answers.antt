use Rattle.std.proofs.Common.{rules, refl}
use Rattle.std.proofs.lemmas.Fn.{always_returns_same}
use Rattle.apex_base.specs.declared.records.Record.{Record}
use Rattle.apex_base.proofs.sessions.search.Goals as goal

pub returns-clause-found : goal.returns-clause-found
returns-clause-found c =
    c.binary_search_by_key.ensures.position (λ (r : Record). r.id.0)
    (always_returns_same _ _ _ (λ a r f k. (search rules, refl)))
