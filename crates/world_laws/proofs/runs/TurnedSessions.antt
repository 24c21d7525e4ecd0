-- What a call may make of a session, and what stays of each. Callers want `Turns`, and `parts_as`, `record_as`.
use Rattle.std.proofs.Common.{◌≡◌, ◌≢◌, ◌⊎◌, ◌<◌, ◌≤◌, true, false, ◌||◌, List, [], length}
use Rattle.std.proofs.Common.{Option, sym, ap, subst, ◌∙◌, inl, inr, arith}
use Rattle.std.specs.List.{AllByRecursion}
use Rattle.apex_base.specs.declared.numbers.SessionId.{SessionId}
use Rattle.apex_base.specs.declared.records.Cause.{Cause}
use Rattle.apex_base.specs.declared.records.Kind.{Kind}
use Rattle.apex_base.specs.declared.records.Part.{Part}
use Rattle.apex_base.specs.declared.records.Record.{Record}
use Rattle.apex_base.specs.Held.{is_unfinished, is_undoable, is_standing, is_success, is_available}
use Rattle.apex_base.specs.Members.{In, EachPair}
use Rattle.apex_base.specs.Ranges.{IsMillis}
use Rattle.apex_base.specs.Rollbacks.{is_committed}
use Rattle.apex_base.specs.Spelling.{IsId, IsKind, IsCause, IsPart, IsRecord}
use Rattle.apex_base.specs.Text.{is_print}
use Rattle.apex_world.specs.Bounds.{is_ready_rollback}
use Rattle.world_facts.specs.Follows.{IsKeptAs}
use Rattle.apex_world.specs.Lawful.{HasParts, HasRollback, AreOwn, never_activated, has_cause, is_verified}
use Rattle.apex_base.specs.Commit.{undoes}
use Rattle.apex_world.specs.Running.{is_of_image}
use Rattle.world_facts.proofs.facts.KeptLemmas.{stands_as}
use Rattle.world_facts.proofs.facts.KeptLess.{Goes}

-- what a call that moves sessions makes of one
pub record Turns (r s : Record) : Type 0 where
  pub kept : IsKeptAs r s
  pub cause : s.cause ≡ r.cause
  pub activation : s.activation ≡ r.activation
  pub moment : IsMillis s.moment
  pub unfinished : is_unfinished s.state ≡ true → is_unfinished r.state ≡ true
  pub undoable : is_undoable s.state ≡ true → is_undoable r.state ≡ true
  pub standing : is_standing s.state ≡ is_standing r.state
  pub success : is_success r.state ≡ true → is_success s.state ≡ true
  pub never : never_activated s.state ≡ never_activated r.state
  pub failed : has_cause s.state ≡ has_cause r.state
  pub begun : is_verified r.state ≡ false → is_verified s.state ≡ false
  pub rollback : HasRollback s
  pub committed : is_committed s.rollback ≡ is_committed r.rollback
  pub available : is_available s.rollback ≡ true → (is_undoable r.state || is_available r.rollback) ≡ true
  pub ready : is_ready_rollback s ≡ true → is_ready_rollback r ≡ true
  pub imaged : is_of_image s ≡ true → is_of_image r ≡ true

-- a session that turns goes on
pub turn_goes : (r s : Record) → Turns r s → Goes r s
turn_goes r s t = record {
  parts = t.kept.parts;
  unfinished = t.unfinished;
  stays = λ e. (t.success e, t.activation);
  came = λ e. elim (stands_as r.state (sym t.standing ∙ e)) [
    | inl u ↦ inl u.1
    | inr f ↦ inr f
  ];
  available = λ e. (t.available e, t.activation);
}

-- its parts are still what they were
pub parts_as : (r s : Record) → IsKeptAs r s → HasParts r → HasParts s
parts_as r s k h = record {
  count = subst (λ (ps : List Part). ((s.children ≡ []) × (length ps ≡ 1)) ⊎ (length s.children ≡ length ps))
      (sym k.parts)
      (subst (λ (cs : List SessionId). ((cs ≡ []) × (length r.parts ≡ 1)) ⊎ (length cs ≡ length r.parts))
      (sym k.children) h.count);
  few = subst (λ (ps : List Part). length ps ≤ 16) (sym k.parts) h.few;
  names = subst (λ (ps : List Part). EachPair (λ (p q : Part). p.name ≢ q.name) ps) (sym k.parts) h.names;
  own = λ e. subst (λ (ps : List Part). AreOwn s.id 0 ps) (sym k.parts) (subst
      (λ (id : SessionId). AreOwn id 0 r.parts) (sym k.id) (h.own (ap undoes (sym k.kind) ∙ e)));
  versions = λ p i. h.versions p (subst (λ (ps : List Part). In p ps) k.parts i);
}

-- and its numbers are within their ranges
pub record_as : (r s : Record) → IsKeptAs r s → s.cause ≡ r.cause → s.activation ≡ r.activation → IsMillis s.moment
    → IsRecord r → IsRecord s
record_as r s k cause activation moment h = record {
  id = subst IsId (sym k.id) h.id;
  kind = subst (λ (x : Kind). IsKind x) (sym k.kind) h.kind;
  moment = moment;
  activation = let l = h.activation in omega (arith, l, activation);
  print = ap is_print k.print ∙ h.print;
  cause = subst (λ (c : Option Cause). IsCause c) (sym cause) h.cause;
  parts = subst (λ (ps : List Part). AllByRecursion IsPart ps) (sym k.parts) h.parts;
  few = subst (λ (ps : List Part). length ps < 256) (sym k.parts) h.few;
  children = subst (λ (cs : List SessionId). AllByRecursion IsId cs) (sym k.children) h.children;
  count = subst (λ (ps : List Part). (s.children ≡ []) ⊎ (length s.children ≡ length ps)) (sym k.parts)
      (subst (λ (cs : List SessionId). (cs ≡ []) ⊎ (length cs ≡ length r.parts)) (sym k.children) h.count);
}
