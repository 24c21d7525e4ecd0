-- Rollbacks of sessions after a commit. Callers want `commit_rollbacks`, `was_available`, `still_committed` and
-- `was_committed`.
use Rattle.std.proofs.Common.{◌≡◌, ◌≢◌, ℕ, true, List, sym, ap, subst, ◌∙◌, refl, inl, inr}
use Rattle.std.proofs.lemmas.Bool.{false≢true}
use Rattle.apex_base.specs.declared.numbers.SessionId.{SessionId}
use Rattle.apex_base.specs.declared.records.Record.{Record}
use Rattle.apex_base.specs.Commit.{committed, rolls_back}
use Rattle.apex_base.specs.Held.{is_success, is_available}
use Rattle.apex_base.specs.Members.{In}
use Rattle.apex_base.specs.Rollbacks.{is_committed}
use Rattle.apex_world.specs.Lawful.{Lawful, AllPeers, HasRollback, HaveRollbacks, NotBothAvailable}
use Rattle.apex_world.specs.World.{World}
use Rattle.world_laws.proofs.runs.CommitOne.{CommitsTo, Taken, GivesWay, Stays, leaves, made, members}
use Rattle.world_laws.proofs.runs.CommitParts.{rolls}
use Rattle.world_facts.proofs.facts.OpenedSessions.{one_session}
use Rattle.world_laws.proofs.runs.CommitPeers.{waits_never, success, named_before}
use Rattle.world_laws.proofs.meaning.RollbackStates.{settles_not_enabled, not_enabled_not}

-- what is available after a commit was available
pub was_available : (x r s : Record) → CommitsTo x r s → is_available s.rollback ≡ true → is_available r.rollback ≡ true
was_available x r s (Taken d e) f = absurd (false≢true (sym (ap (λ (r : Record). is_available r.rollback) e) ∙ f))
was_available x r s (GivesWay d w e) f = (settles_not_enabled r.rollback).available
    (ap (λ (r : Record). is_available r.rollback) (sym e) ∙ f)
was_available x r s (Stays d w e) f = ap (λ (r : Record). is_available r.rollback) (sym e) ∙ f

-- what was committed stays so
pub still_committed : (x r s : Record) → CommitsTo x r s → is_committed r.rollback ≡ true
    → is_committed s.rollback ≡ true
still_committed x r s (Taken d e) f = ap (λ (r : Record). is_committed r.rollback) e
still_committed x r s (GivesWay d w e) f = ap (λ (r : Record). is_committed r.rollback) e
    ∙ (settles_not_enabled r.rollback).committed ∙ f
still_committed x r s (Stays d w e) f = ap (λ (r : Record). is_committed r.rollback) e ∙ f

-- another one that is committed was committed
pub was_committed : (x r s : Record) → CommitsTo x r s → r.id.0 ≢ x.id.0 → is_committed s.rollback ≡ true
    → is_committed r.rollback ≡ true
was_committed x r s (Taken d e) apart f = absurd (apart d)
was_committed x r s (GivesWay d w e) apart f = sym (settles_not_enabled r.rollback).committed
    ∙ ap (λ (r : Record). is_committed r.rollback) (sym e) ∙ f
was_committed x r s (Stays d w e) apart f = ap (λ (r : Record). is_committed r.rollback) (sym e) ∙ f

module _ (w : World) (law : Lawful w) (x : Record) (h : In x w.sessions) (e : is_available x.rollback ≡ true)
    (print : List ℕ) where
  abbrev new : Record
  new = made w.sessions x print

  abbrev after : List Record
  after = committed w.sessions x print

  new_rollback : HasRollback new
  new_rollback = record {
    kind = refl;
    enabling = λ f. absurd (false≢true f);
    available = λ f. absurd (false≢true f);
    committed = λ f. absurd (false≢true f);
    none = λ f. refl;
    not_yet = λ f. refl;
  }

  rollback_of : (r s : Record) → In r w.sessions → CommitsTo x r s → HasRollback r → HasRollback s
  rollback_of r s i (Taken d f) is =
      let one = one_session w.sessions r x law.ids.ascend i h d in
      subst HasRollback (sym f) (record {
        kind = sym (ap (λ (r : Record). rolls_back r.kind) one ∙ rolls w law x h e);
        enabling = λ g. absurd (false≢true g);
        available = λ g. absurd (false≢true g);
        committed = λ g. ap (λ (r : Record). is_success r.state) one ∙ success w law x h e print;
        none = λ g. absurd (false≢true (sym g));
        not_yet = λ g. absurd (false≢true g);
      })
  rollback_of r s i (GivesWay d wait f) is =
      subst HasRollback (sym f) (record {
        kind = (settles_not_enabled r.rollback).some ∙ is.kind;
        enabling = λ g. absurd (not_enabled_not r.rollback g);
        available = λ g. absurd (false≢true (sym (waits_never r.state wait).1
            ∙ is.available ((settles_not_enabled r.rollback).available g)));
        committed = λ g. absurd (false≢true (sym (waits_never r.state wait).1
            ∙ is.committed (sym (settles_not_enabled r.rollback).committed ∙ g)));
        none = λ g. is.none (sym (settles_not_enabled r.rollback).some ∙ g);
        not_yet = λ g. absurd (not_enabled_not r.rollback g);
      })
  rollback_of r s i (Stays d g f) is = subst HasRollback (sym f) is

  available_peers : AllPeers NotBothAvailable after
  available_peers r s name i j d n m u v =
      elim (members w.sessions x print r i) [
        | inl f ↦ false≢true (ap (λ (r : Record). is_available r.rollback) (sym f) ∙ u)
        | inr (a, k, c) ↦ elim (members w.sessions x print s j) [
          | inl g ↦ false≢true (ap (λ (r : Record). is_available r.rollback) (sym g) ∙ v)
          | inr (b, l, c') ↦ law.rollbacks.peers a b name k l
              (λ same. d (ap (λ (id : SessionId). id.0) (leaves x a r c).kept.id ∙ same
              ∙ ap (λ (id : SessionId). id.0) (sym (leaves x b s c').kept.id)))
              (named_before a r name (leaves x a r c) n) (named_before b s name (leaves x b s c') m)
              (was_available x a r c u) (was_available x b s c' v)
        ]
      ]

  -- rollbacks fit the states of their sessions, and no two of a name are available
  pub commit_rollbacks : HaveRollbacks after
  commit_rollbacks = record {
    each = λ s i. elim (members w.sessions x print s i) [
      | inl f ↦ subst HasRollback (sym f) new_rollback
      | inr (r, j, c) ↦ rollback_of r s j c (law.rollbacks.each r j)
    ];
    peers = available_peers;
  }
