use Rattle.std.proofs.Common.{◌≡◌, rules, subst, ℕ}
use Rattle.std.specs.List.Sorted.{IsBinarySearchResult}
use Rattle.std.specs.Ordering.{nat_cmp}
use Rattle.apex_base.specs.declared.records.Record.{Record}
use Rattle.apex_base.proofs.Searched.{where_found, where_put, id_found}
use Rattle.apex_base.proofs.sessions.place_of.Goals as goal

pub returns-clause-found : goal.returns-clause-found
returns-clause-found c =
    let is : c.from.result ≡ c.args.id.0 = search rules in
    where_found c.args.sessions.now c.args.id c.requires c.search.result c.search.ensures.range
    (subst (λ (n : ℕ). IsBinarySearchResult (λ (r : Record). nat_cmp r.id.0 n) c.args.sessions.now c.search.result) is
    c.search.ensures.found)

pub returns-clause-id : goal.returns-clause-id
returns-clause-id c =
    let is : c.from.result ≡ c.args.id.0 = search rules in
    id_found c.args.sessions.now c.args.id c.requires c.search.result
    (subst (λ (n : ℕ). IsBinarySearchResult (λ (r : Record). nat_cmp r.id.0 n) c.args.sessions.now c.search.result) is
    c.search.ensures.found)

pub returns-clause-place : goal.returns-clause-place
returns-clause-place c = λ s same.
    let is : c.from.result ≡ c.args.id.0 = search rules in
    where_put c.args.sessions.now c.args.id c.requires s same c.search.result c.search.ensures.range
    (subst (λ (n : ℕ). IsBinarySearchResult (λ (r : Record). nat_cmp r.id.0 n) c.args.sessions.now c.search.result) is
    c.search.ensures.found)
