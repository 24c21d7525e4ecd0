-- Whether a module is its session's own, by the session that is found under its id. Callers want `own_found` and
-- `none_own`.
use Rattle.std.proofs.Common.{◌≡◌, ℕ, Bool, true, false, eqb, ◌&&◌, List, Some, None, sym, ap, ◌∙◌}
use Rattle.std.specs.List.{list_any}
use Rattle.std.proofs.lemmas.Bool.{and_parts, and_from, eqb-true, eq-eqb}
use Rattle.apex_base.specs.declared.numbers.SessionId.{SessionId}
use Rattle.apex_base.specs.declared.records.Record.{Record}
use Rattle.apex_base.specs.Held.{is_module}
use Rattle.apex_base.specs.Sessions.{session_of, Ascend}
use Rattle.apex_base.proofs.MemberLemmas.{any_in, in_any}
use Rattle.apex_base.proofs.SessionLemmas.{of_found, of_in}
use Rattle.world_facts.proofs.facts.WorldRows.{same_id}
use Rattle.std.specs.Cmp.{both_ways}
use Rattle.row_check.specs.RightRows.{has_own}

module _ (ss : List Record) (id : SessionId) (part : ℕ) (ascend : Ascend ss) where
  abbrev is_own : Record → Bool
  is_own r = list_any (λ p. is_module id part p.target) r.parts

  -- the session of the id is the one that has it
  owner : has_own ss id part ≡ true → (r : Record) × (session_of ss id ≡ Some r) × (is_own r ≡ true)
  owner own =
      let (r, i, t) = any_in (λ (r : Record). eqb r.id.0 id.0 && is_own r) ss own in
      let (same, is) = and_parts (eqb r.id.0 id.0) (is_own r) t in
      let there : session_of ss id ≡ Some r =
      ap (session_of ss) (sym (same_id r.id id (eqb-true r.id.0 id.0 same))) ∙ of_in ss r ascend i in
      (r, there, is)

  own_there : (r : Record) → session_of ss id ≡ Some r → is_own r ≡ true → has_own ss id part ≡ true
  own_there r e is =
      let (i, same) = of_found ss id r e in
      in_any (λ (r : Record). eqb r.id.0 id.0 && is_own r) r ss i
      (and_from (eqb r.id.0 id.0) (is_own r) (eq-eqb r.id.0 id.0 same) is)

  pub own_found : (r : Record) → session_of ss id ≡ Some r → is_own r ≡ has_own ss id part
  own_found r e = both_ways (is_own r) (has_own ss id part) (own_there r e) (λ own.
      let (s, f, is) = owner own in
      let same : Some r ≡ Some s = sym e ∙ f in
      let one : r ≡ s = cc same in
      ap is_own one ∙ is)

  pub none_own : session_of ss id ≡ None → false ≡ has_own ss id part
  none_own e = both_ways false (has_own ss id part) (λ no. absurd (cc no)) (λ own.
      let (s, f, is) = owner own in absurd (cc (e, f)))
