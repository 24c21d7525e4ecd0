-- The past of a new session, and what is kept beside it. Callers want `found_other`, `activations_with`, `undone_with`
-- and `kept_with`.
use Rattle.std.proofs.Common.{◌≡◌, ◌≢◌, ℕ, Bool, true, ◌&&◌, IsTrue, List}
use Rattle.std.proofs.Common.{Option, Some, sym, ap, subst, ◌∙◌, refl, inl, inr, arith}
use Rattle.std.specs.Prelude.{nat_lt}
use Rattle.std.proofs.lemmas.Bool.{false≢true}
use Rattle.apex_base.specs.declared.numbers.SessionId.{SessionId}
use Rattle.apex_base.specs.declared.records.Record.{Record}
use Rattle.apex_base.specs.declared.records.Target.{Target}
use Rattle.apex_base.specs.Commit.{rollback_id, part_before}
use Rattle.apex_base.specs.Held.{is_standing, is_success, before, kept}
use Rattle.apex_base.specs.Members.{In}
use Rattle.apex_base.specs.Modules.{FileMap}
use Rattle.apex_base.specs.Rollbacks.{is_committed}
use Rattle.apex_base.specs.Sessions.{session_of, with_session}
use Rattle.apex_base.specs.Text.{is_print}
use Rattle.apex_base.proofs.SessionLemmas.{ascend_with, with_any, with_others, of_found, of_other}
use Rattle.apex_world.specs.declared.modules.Package.{Package}
use Rattle.apex_world.specs.Lawful.{Lawful, HasActivation, HaveActivations, HaveRollbackSessions}
use Rattle.apex_world.specs.Lawful.{AllPeers, AreActivatedApart}
use Rattle.apex_world.specs.Submit.{new_session}
use Rattle.apex_world.specs.World.{World, boots}
use Rattle.world_laws.proofs.runs.AdmittedLemmas.{IsAdmitted}
use Rattle.world_facts.proofs.facts.KeptLemmas.{AreOrdered, ordered}
use Rattle.world_facts.proofs.facts.KeptLess.{IsFresh, Carries, Comes, kept_less}
use Rattle.world_laws.proofs.alike.MovesAlike.{goes_self}
use Rattle.world_laws.proofs.runs.SessionMaps.{part_of_target, map_alike}
use Rattle.world_laws.proofs.runs.NewSession.{rollback_idle, not_undoing, other_id, all_with, peers_with}
use Rattle.world_laws.proofs.runs.SessionBeside.{latest_with}

module _ (w : World) (law : Lawful w) (id : SessionId) (children : List SessionId) (rollback : Bool)
    (parts : List FileMap) (ps : List Package) (print : List ℕ) (is : IsAdmitted w id children parts ps)
    (printed : IsTrue (is_print print)) where
  abbrev ss : List Record
  ss = w.sessions

  abbrev new : Record
  new = new_session id children rollback ps print

  abbrev after : List Record
  after = with_session (new_session id children rollback ps print) w.sessions

  -- each other session has another id
  other : (r : Record) → In r ss → r.id.0 ≢ id.0
  other r h = other_id w law id children rollback parts ps print is printed r h

  -- what holds of all
  all : (P : Record → Type 0) → P new → ((r : Record) → In r ss → P r) → (s : Record) → In s after → P s
  all P first each s h = all_with w law id children rollback parts ps print is printed P first each s h

  -- Activations

  -- sessions that share a name were activated apart
  apart_with : AllPeers AreActivatedApart after
  apart_with = peers_with w law id children rollback parts ps print is printed AreActivatedApart
      law.activations.peers (λ r name h n m. (
        record { apart = λ x y z. absurd (y refl); above = λ x y. absurd (false≢true y) },
        record { apart = λ x y z. absurd (x refl); above = λ x y. absurd (false≢true x) },
      ))

  -- what is found of another id is what was found
  pub found_other : (i : SessionId) (x : Record) → session_of ss i ≡ Some x → session_of after i ≡ Some x
  found_other i x e =
      let (h, same) = of_found ss i x e in of_other new ss i (λ f. other x h (same ∙ sym f)) ∙ e

  -- activations are as they have to be
  pub activations_with : HaveActivations (boots w) after
  activations_with = record {
    each = all (HasActivation (boots w)) (record {
      none = λ e. refl;
      some = λ e. absurd (false≢true (sym e));
      most = omega arith;
    }) law.activations.each;
    peers = apart_with;
    after = λ r h x s k f z. elim (with_any new ss r h) [
      | inl a ↦ absurd (not_undoing rollback x (ap (λ (r : Record). r.kind) (sym a) ∙ k))
      | inr j ↦
          let (q, found, back) = law.undone.back r x j k in
          let one : ◌≡◌ {A = Option Record} (Some q) (Some s) = sym (found_other x q found) ∙ f in
          let same : q ≡ s = cc in
          let l = law.activations.after r j x q k found z in
          omega (arith, l, ap (λ (s : Record). s.activation) same)
    ];
  }

  -- Rollback sessions

  -- what a name held before a session stays
  before_with : (x : Record) (name : List ℕ) → before after x name ≡ before ss x name
  before_with x name = latest_with (λ r. is_success r.state && nat_lt r.activation x.activation) name new refl ss other

  -- rollback sessions are as they have to be
  pub undone_with : HaveRollbackSessions after
  undone_with = record {
    back = λ r i h k. elim (with_any new ss r h) [
      | inl a ↦ absurd (not_undoing rollback i (ap (λ (r : Record). r.kind) (sym a) ∙ k))
      | inr j ↦
          let (x, found, back) = law.undone.back r i j k in (
            x,
            found_other i x found,
            record {
              committed = back.committed;
              begun = back.begun;
              id = back.id;
              children = back.children;
              parts = back.parts ∙ map_alike (part_before ss x) (part_before after x) x.parts (λ p _.
                  part_of_target p (before ss x p.name) (before after x p.name) (sym (before_with x p.name)));
            },
          )
    ];
    forth = λ x h c. elim (with_any new ss x h) [
      | inl a ↦
          let idle = (rollback_idle rollback).1 in
          absurd (false≢true (sym idle ∙ ap (λ (x : Record). is_committed x.rollback) (sym a) ∙ c))
      | inr i ↦
          let (r, found, kind) = law.undone.forth x i c in
          (r, found_other (rollback_id x.id) r found, kind)
    ];
  }

  -- What is kept

  -- the new session keeps nothing but its modules
  pub fresh_new : IsFresh ss new
  fresh_new = record { unused = other; idle = refl; unavailable = (rollback_idle rollback).0 }

  -- each other session stays
  carries_with : Carries ss after
  carries_with = record {
    back = λ s h. elim (with_any new ss s h) [
      | inl e ↦ inr (subst (IsFresh ss) (sym e) fresh_new)
      | inr i ↦ inl (s, i, goes_self s)
    ];
    forth = λ r h. (r, with_others new ss r h (other r h), goes_self r);
  }

  -- sessions are in their order
  ordered_with : AreOrdered after
  ordered_with = record {
    ascend = ascend_with new ss law.ids.ascend;
    peers = apart_with;
    active = all (λ s. is_standing s.state ≡ true → s.activation ≡ 0 → ⊥) (λ e z. false≢true e)
        (ordered w law).active;
  }

  -- it was kept, or it is a module of the new session
  pub kept_with : (t : Target) → In t (kept after) → Comes ss after t
  kept_with t h = kept_less ss after (ordered w law) ordered_with carries_with t h
