-- The tests of sessions that share a name, and of their activation boots, causes and rollbacks, decide them. Callers
-- want `activations_decide`, `cause_decides`, `rollbacks_decide` and `alone_decides`.
use Rattle.std.proofs.Common.{◌≡◌, ◌≢◌, ℕ, ◌<◌, Bool, true, false, cond, not, ◌&&◌}
use Rattle.std.proofs.Common.{List, Option, Some, None, is_some, is_none, sym, ap, ◌∙◌, refl, inl, inr, ⊎_elim}
use Rattle.std.proofs.Common.{Decides, arith}
use Rattle.std.specs.Str.{bytes_eq}
use Rattle.std.proofs.lemmas.Bool.Decides.{Decides-and, Decides-or, Decides-not, Decides-eqb, Decides-ltb}
use Rattle.std.proofs.lemmas.Bool.{ltb-true, lt-ltb}
use Rattle.apex_base.specs.declared.numbers.SessionId.{SessionId}
use Rattle.apex_base.specs.declared.records.Kind.{Kind}
use Rattle.apex_base.specs.declared.records.Kind.TheVariants.{Plain, WithRollback, RollbackOf}
use Rattle.apex_base.specs.declared.records.Part.{Part}
use Rattle.apex_base.specs.declared.records.Record.{Record}
use Rattle.apex_base.specs.Commit.{rolls_back}
use Rattle.apex_base.specs.Held.{is_unfinished, is_undoable, is_available, is_standing, is_success}
use Rattle.apex_base.specs.Members.{EachPair}
use Rattle.apex_base.specs.Rollbacks.{is_enabling, is_committed}
use Rattle.apex_base.specs.Sessions.{names, shares, session_of, Ascend}
use Rattle.apex_base.proofs.MemberLemmas.{any_in, in_any}
use Rattle.apex_world.specs.Decided.{all_peers, not_both_unfinished, has_activation, are_activated_apart}
use Rattle.apex_world.specs.Decided.{is_before_boot, is_after_undone, have_activations, has_its_cause, has_rollback}
use Rattle.apex_world.specs.Decided.{not_both_available, have_rollbacks}
use Rattle.apex_world.specs.Lawful.{AllPeers, NotBothUnfinished, HasActivation, AreActivatedApart}
use Rattle.apex_world.specs.Lawful.{HaveActivations, never_activated, has_cause, HasRollback, NotBothAvailable}
use Rattle.apex_world.specs.Lawful.{HaveRollbacks}
use Rattle.world_facts.proofs.facts.DecidedIds.{pair_among, pairs_by}
use Rattle.world_facts.proofs.facts.DecidedTests.{itself, at_most, every, pairs_decide, if_decides, unless_decides}
use Rattle.world_facts.proofs.facts.DecidedTests.{implies_decides}
use Rattle.world_facts.proofs.facts.KeptLemmas.{names_own}
use Rattle.world_facts.proofs.facts.WorldRows.{same_name}

-- A name that two sessions have

-- two sessions that have a name share one
names_shared : (r s : Record) (name : List ℕ) → names name r ≡ true → names name s ≡ true → shares r s ≡ true
names_shared r s name n m =
    let (p, h, e) = any_in (λ (p : Part). bytes_eq p.name name) r.parts n in
    in_any (λ (p : Part). names p.name s) p r.parts h (ap (λ (n : List ℕ). names n s) (same_name p.name name e) ∙ m)

-- two sessions that share a name both have it
shared_name : (r s : Record) → shares r s ≡ true → (name : List ℕ) × (names name r ≡ true) × (names name s ≡ true)
shared_name r s e =
    let (p, h, n) = any_in (λ (p : Part). names p.name s) r.parts e in
    (p.name, names_own r p h, n)

-- what two sessions are that share a name
abbrev ArePeers : (Record → Record → Type 0) → Record → Record → Type 0
ArePeers P r s = (shares r s ≡ true) → P r s × P s r

-- where each pair is as peers are, all peers are
peers_by_pair : (P : Record → Record → Type 0) (ss : List Record) → EachPair (ArePeers P) ss → AllPeers P ss
peers_by_pair P ss h r s name i j d n m =
    elim (pair_among (ArePeers P) ss h r s i j) [
      | inl e ↦ absurd (d (ap (λ (r : Record). r.id.0) e))
      | inr o ↦ elim o [
        | inl p ↦ (p (names_shared r s name n m)).0
        | inr p ↦ (p (names_shared s r name m n)).1
      ]
    ]

-- and the other way round, in a list that ascends
pairs_of_peers : (P : Record → Record → Type 0) (ss : List Record) → Ascend ss → AllPeers P ss
    → EachPair (ArePeers P) ss
pairs_of_peers P ss a h =
    pairs_by (λ (r s : Record). r.id.0 < s.id.0) (ArePeers P) ss a
    (λ r s i j below e.
    let (name, n, m) = shared_name r s e in
    let differ : r.id.0 ≢ s.id.0 = λ same. omega (arith, below, same) in
    let other : s.id.0 ≢ r.id.0 = λ same. omega (arith, below, same) in
    (h r s name i j differ n m, h s r name j i other m n))

-- a test of two sessions, made of all that share a name
pub peers_decide : (test : Record → Record → Bool) (P : Record → Record → Type 0)
    → ((r s : Record) → Decides (test r s) (P r s)) → (ss : List Record) → Ascend ss
    → Decides (all_peers test ss) (AllPeers P ss)
peers_decide test P each ss a =
    let d = pairs_decide _ (ArePeers P)
    (λ r s. implies_decides (shares r s) _ (itself (shares r s)) (Decides-and _ _ (each r s) (each s r))) ss in
    (λ e. peers_by_pair P ss (d.0 e), λ h. d.1 (pairs_of_peers P ss a h))

-- not both pass a test
pub both_decide : (a b : Bool) → Decides (not (a && b)) (a ≡ true → b ≡ true → ⊥)
both_decide a b =
    let d = Decides-not _ (Decides-and _ _ (itself a) (itself b)) in
    (λ e p q. d.0 e (p, q), λ h. d.1 (λ p. h p.0 p.1))

-- Activation boots

-- the test of one activation boot decides it
pub activation_decides : (boots : ℕ) (r : Record) → Decides (has_activation boots r) (HasActivation boots r)
activation_decides boots r =
    let d = Decides-and _ _ (if_decides (never_activated r.state) _ _ (Decides-eqb r.activation 0)
    (Decides-not _ (Decides-eqb r.activation 0))) (at_most r.activation boots) in (
      λ e. let ((none, some), most) = d.0 e in
          record { none = none; some = λ f. let differs = some f in omega (arith, differs); most = most },
      λ h. d.1 ((h.none, λ f same. let low = h.some f in omega (arith, low, same)), h.most),
    )

-- the test of two activation boots decides them
activated_apart_decides : (r s : Record) → Decides (are_activated_apart r s) (AreActivatedApart r s)
activated_apart_decides r s =
    let d = Decides-and _ _ (unless_decides _ _ (Decides-eqb r.activation 0)
    (unless_decides _ _ (Decides-eqb s.activation 0) (Decides-not _ (Decides-eqb r.activation s.activation))))
    (implies_decides _ _ (Decides-and _ _ (itself (is_undoable r.state)) (itself (is_standing s.state)))
    (Decides-ltb s.activation r.activation)) in (
      λ e. let (apart, above) = d.0 e in record { apart = apart; above = λ u f. above (u, f) },
      λ h. d.1 (h.apart, λ p. h.above p.0 p.1),
    )

-- what a rollback session's activation has to be
abbrev pub IsAfter : List Record → ℕ → Kind → Type 0
IsAfter ss boot kind = (x : SessionId) (s : Record) → kind ≡ RollbackOf x → session_of ss x ≡ Some s → boot ≢ 0
    → s.activation < boot

-- what is activated before a boot passes the test
before_of : (boot : ℕ) (o : Option Record) → ((s : Record) → o ≡ Some s → s.activation < boot)
    → is_before_boot boot o ≡ true
before_of boot None h = refl
before_of boot (Some s) h = lt-ltb s.activation boot (h s refl)

-- and what passes was activated before it
of_before : (boot : ℕ) (o : Option Record) (s : Record) → o ≡ Some s → is_before_boot boot o ≡ true
    → s.activation < boot
of_before boot o s e b = ltb-true s.activation boot (ap (is_before_boot boot) (sym e) ∙ b)

-- the test of a rollback session decides that it was activated after the other
pub after_decides : (ss : List Record) (boot : ℕ) (kind : Kind)
    → Decides (is_after_undone ss boot kind) (IsAfter ss boot kind)
after_decides ss boot Plain = (λ e x s k. absurd (cc), λ h. refl)
after_decides ss boot WithRollback = (λ e x s k. absurd (cc), λ h. refl)
after_decides ss boot (RollbackOf y) =
    let d = unless_decides _ _ (Decides-eqb boot 0) (itself (is_before_boot boot (session_of ss y))) in (
      λ e x s k f differs.
          let same : y ≡ x = cc in
          of_before boot (session_of ss y) s (ap (session_of ss) same ∙ f) (d.0 e differs),
      λ h. d.1 (λ differs. before_of boot (session_of ss y) (λ s f. h y s refl f differs)),
    )

-- the test of all activation boots decides them
pub activations_decide : (boots : ℕ) (ss : List Record) → Ascend ss
    → Decides (have_activations boots ss) (HaveActivations boots ss)
activations_decide boots ss a =
    let d = Decides-and _ _ (every _ (HasActivation boots) ss (λ r h. activation_decides boots r))
    (Decides-and _ _ (peers_decide are_activated_apart AreActivatedApart activated_apart_decides ss a)
    (every _ (λ r. IsAfter ss r.activation r.kind) ss (λ r h. after_decides ss r.activation r.kind))) in (
      λ e. let (each, (peers, after)) = d.0 e in record { each = each; peers = peers; after = after },
      λ h. d.1 (h.each, (h.peers, h.after)),
    )

-- Causes, and whatever is there if and only if a test passes

-- the test that something is there if and only if another passes
there_decides : {X : Type 0} (b : Bool) (o : Option X) → Decides (cond b (is_some o) (is_none o)) (b ≡ is_some o)
there_decides true None = (λ e. absurd (cc), λ e. absurd (cc))
there_decides true (Some x) = (λ e. refl, λ e. refl)
there_decides false None = (λ e. refl, λ e. refl)
there_decides false (Some x) = (λ e. absurd (cc), λ e. absurd (cc))

-- the test of a cause decides that there is one where there has to be
pub cause_decides : (r : Record) → Decides (has_its_cause r) (has_cause r.state ≡ is_some r.cause)
cause_decides r = there_decides (has_cause r.state) r.cause

-- Rollbacks

-- the test that nothing is there
none_is : {X : Type 0} (o : Option X) → Decides (is_none o) (is_some o ≡ false)
none_is None = (λ e. refl, λ e. refl)
none_is (Some x) = (λ e. absurd (cc), λ e. absurd (cc))

-- the test of one rollback decides it
pub rollback_decides : (r : Record) → Decides (has_rollback r) (HasRollback r)
rollback_decides r =
    let d = Decides-and _ _ (there_decides (rolls_back r.kind) r.rollback)
    (Decides-and _ _ (implies_decides _ _ (itself (is_enabling r.rollback))
    (Decides-and _ _ (itself (is_unfinished r.state)) (Decides-eqb r.moment 0)))
    (Decides-and _ _ (implies_decides _ _
    (Decides-or _ _ (itself (is_available r.rollback)) (itself (is_committed r.rollback)))
    (itself (is_success r.state)))
    (implies_decides _ _ (none_is r.rollback) (Decides-eqb r.moment 0)))) in (
      λ e. let (kind, (enabling, (ready, none))) = d.0 e in
          record {
            kind = sym kind;
            enabling = λ f. (enabling f).0;
            available = λ f. ready (inl f);
            committed = λ f. ready (inr f);
            none = none;
            not_yet = λ f. (enabling f).1;
          },
      λ h. d.1 (sym h.kind, (λ f. (h.enabling f, h.not_yet f), (⊎_elim h.available h.committed, h.none))),
    )

-- the test of all rollbacks decides them
pub rollbacks_decide : (ss : List Record) → Ascend ss → Decides (have_rollbacks ss) (HaveRollbacks ss)
rollbacks_decide ss a =
    let d = Decides-and _ _ (every has_rollback HasRollback ss (λ r h. rollback_decides r))
    (peers_decide not_both_available NotBothAvailable
    (λ r s. both_decide (is_available r.rollback) (is_available s.rollback)) ss a) in
    (λ e. let (each, peers) = d.0 e in record { each = each; peers = peers }, λ h. d.1 (h.each, h.peers))

-- the test of unfinished sessions decides that no two share a name
pub alone_decides : (ss : List Record) → Ascend ss
    → Decides (all_peers not_both_unfinished ss) (AllPeers NotBothUnfinished ss)
alone_decides ss a = peers_decide not_both_unfinished NotBothUnfinished
    (λ r s. both_decide (is_unfinished r.state) (is_unfinished s.state)) ss a
