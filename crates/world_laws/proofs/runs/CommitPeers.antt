-- Sessions that share a name after a commit. Callers want `commit_alone`, `commit_activations`, `commit_causes`,
-- `same_names` and `IsFree`.
use Rattle.std.proofs.Common.{◌≡◌, ◌≢◌, ℕ, Bool, true, false, ◌||◌, is_some, List, [], ◌∷◌, map}
use Rattle.std.proofs.Common.{sym, ap, subst, ◌∙◌, refl, inl, inr, arith}
use Rattle.std.specs.List.{list_any}
use Rattle.std.specs.Str.{bytes_eq}
use Rattle.std.proofs.lemmas.Bool.{and_from, false≢true}
use Rattle.apex_base.specs.declared.numbers.SessionId.{SessionId}
use Rattle.apex_base.specs.declared.records.Part.{Part}
use Rattle.apex_base.specs.declared.records.Record.{Record}
use Rattle.apex_base.specs.declared.records.State.{State}
use Rattle.apex_base.specs.declared.records.State.TheVariants as state
use Rattle.apex_base.specs.Commit.{is_waiting, part_before, committed, after_commit}
use Rattle.apex_base.specs.Held.{is_unfinished, is_undoable, is_standing, is_success, is_available}
use Rattle.apex_base.specs.Members.{In}
use Rattle.apex_base.specs.Sessions.{names, shares}
use Rattle.apex_base.proofs.MemberLemmas.{any_in, in_any}
use Rattle.apex_world.specs.Lawful.{Lawful, AllPeers, NotBothUnfinished, AreActivatedApart, HasActivation}
use Rattle.apex_world.specs.Lawful.{IsActivatedAfter, HaveActivations, never_activated, has_cause}
use Rattle.apex_world.specs.World.{World, boots}
use Rattle.world_laws.proofs.runs.CommitOne.{CommitsTo, Taken, GivesWay, Stays, Leaves, leaves, made, members, was_so}
use Rattle.world_laws.proofs.runs.CommitOne.{commits_to, found_after}
use Rattle.world_laws.proofs.runs.CommitParts.{new_ids}
use Rattle.world_facts.proofs.facts.OpenedSessions.{one_session}
use Rattle.world_facts.proofs.facts.WorldRows.{same_name}
use Rattle.world_facts.proofs.facts.StateFacts.{success_finished}

-- States

waiting_or_undoable : (s : State) → is_unfinished s ≡ true → is_waiting s ≡ false → is_undoable s ≡ true
waiting_or_undoable state.Verified e f = absurd (cc)
waiting_or_undoable state.Staged e f = absurd (cc)
waiting_or_undoable state.Activated e f = refl
waiting_or_undoable state.ActivationFailed e f = absurd (cc)
waiting_or_undoable state.Success e f = absurd (cc)
waiting_or_undoable state.RevertInProgress e f = refl
waiting_or_undoable state.Reverted e f = absurd (cc)
waiting_or_undoable state.Aborted e f = absurd (cc)

-- what waits was never activated, and doesn't stand
pub waits_never : (s : State) → is_waiting s ≡ true → (never_activated s ≡ true) × (is_success s ≡ false)
waits_never state.Verified e = (refl, refl)
waits_never state.Staged e = (refl, refl)
waits_never state.Activated e = absurd (cc)
waits_never state.ActivationFailed e = absurd (cc)
waits_never state.Success e = absurd (cc)
waits_never state.RevertInProgress e = absurd (cc)
waits_never state.Reverted e = absurd (cc)
waits_never state.Aborted e = absurd (cc)

either : (b : Bool) → (b ≡ true → ⊥) → b ≡ false
either true d = absurd (d refl)
either false d = refl

-- Names

any_part : (ss : List Record) (x : Record) (name : List ℕ) (ps : List Part)
    → list_any (λ (p : Part). bytes_eq p.name name) (map (part_before ss x) ps)
    ≡ list_any (λ (p : Part). bytes_eq p.name name) ps
any_part ss x name [] = refl
any_part ss x name (p ∷ ps) = ap (λ (b : Bool). bytes_eq p.name name || b) (any_part ss x name ps)

-- the session that is made has the names of the one that it undoes
pub same_names : (ss : List Record) (x : Record) (print name : List ℕ) → names name (made ss x print) ≡ names name x
same_names ss x print name = any_part ss x name x.parts

-- a session keeps its names
pub named_before : (r s : Record) (name : List ℕ) → Leaves r s → names name s ≡ true → names name r ≡ true
named_before r s name l n = ap (λ (ps : List Part). list_any (λ (p : Part). bytes_eq p.name name) ps)
    (sym l.kept.parts) ∙ n

-- sessions that have a name in common share it
pub both_name : (x r : Record) (name : List ℕ) → names name x ≡ true → names name r ≡ true → shares x r ≡ true
both_name x r name n m =
    let (p, i, e) = any_in (λ (p : Part). bytes_eq p.name name) x.parts n in
    in_any (λ (p : Part). names p.name r) p x.parts i (ap (λ (a : List ℕ). names a r) (same_name p.name name e) ∙ m)

-- no session that can be undone shares a name with x
abbrev pub IsFree : List Record → Record → Type 0
IsFree sessions x = (r : Record) → In r sessions → is_undoable r.state ≡ true → shares x r ≡ true → ⊥

module _ (w : World) (law : Lawful w) (x : Record) (h : In x w.sessions) (e : is_available x.rollback ≡ true)
    (print : List ℕ) where
  abbrev new : Record
  new = made w.sessions x print

  abbrev after : List Record
  after = committed w.sessions x print

  -- what can be committed is a success
  pub success : is_success x.state ≡ true
  success = (law.rollbacks.each x h).available e

  -- Who is unfinished

  unfinished_shares : IsFree w.sessions x → (r s : Record) → In r w.sessions → CommitsTo x r s → shares x r ≡ true
      → is_unfinished s.state ≡ true → ⊥
  unfinished_shares free r s i (Taken d f) n u =
      let one = one_session w.sessions r x law.ids.ascend i h d in
      false≢true (sym (success_finished x.state success)
      ∙ ap (λ (r : Record). is_unfinished r.state) (sym one) ∙ ap (λ (r : Record). is_unfinished r.state) (sym f) ∙ u)
  unfinished_shares free r s i (GivesWay d wait f) n u =
      false≢true (ap (λ (r : Record). is_unfinished r.state) (sym f) ∙ u)
  unfinished_shares free r s i (Stays d f g) n u =
      let u' = ap (λ (r : Record). is_unfinished r.state) (sym g) ∙ u in
      free r i (waiting_or_undoable r.state u' (either (is_waiting r.state)
      (λ wait. false≢true (sym f ∙ and_from (is_waiting r.state) (shares x r) wait n)))) n

  alone_beside : IsFree w.sessions x → (r s : Record) (name : List ℕ) → r ≡ new → In s after → r.id.0 ≢ s.id.0
      → names name r ≡ true → names name s ≡ true → is_unfinished s.state ≡ true → ⊥
  alone_beside free r s name f i d n m u =
      elim (members w.sessions x print s i) [
        | inl g ↦ d (ap (λ (r : Record). r.id.0) (f ∙ sym g))
        | inr (v, j, c) ↦ unfinished_shares free v s j c (both_name x v name
            (sym (same_names w.sessions x print name) ∙ ap (names name) (sym f) ∙ n)
            (named_before v s name (leaves x v s c) m)) u
      ]

  -- no two sessions that share a name are unfinished
  pub commit_alone : IsFree w.sessions x → AllPeers NotBothUnfinished after
  commit_alone free r s name i j d n m u v =
      elim (members w.sessions x print r i) [
        | inl f ↦ alone_beside free r s name f j d n m v
        | inr (a, k, c) ↦ elim (members w.sessions x print s j) [
          | inl g ↦ alone_beside free s r name g i (λ same. d (sym same)) m n u
          | inr (b, l, c') ↦ law.alone a b name k l
              (λ same. d (ap (λ (id : SessionId). id.0) (leaves x a r c).kept.id ∙ same
              ∙ ap (λ (id : SessionId). id.0) (sym (leaves x b s c').kept.id)))
              (named_before a r name (leaves x a r c) n) (named_before b s name (leaves x b s c') m)
              (was_so a r (leaves x a r c) is_unfinished refl u)
              (was_so b s (leaves x b s c') is_unfinished refl v)
        ]
      ]

  -- Activation boots

  activation_after : (r s : Record) → Leaves r s → HasActivation (boots w) r → HasActivation (boots w) s
  activation_after r s l a = record {
    none = λ f. elim l.goes [
      | inl g ↦ l.activation ∙ a.none (ap never_activated (sym g) ∙ f)
      | inr (wait, g) ↦ l.activation ∙ a.none (waits_never r.state wait).0
    ];
    some = λ f. elim l.goes [
      | inl g ↦ rw l.activation (a.some (ap never_activated (sym g) ∙ f))
      | inr (wait, g) ↦ absurd (false≢true (sym f ∙ ap never_activated g))
    ];
    most = rw l.activation a.most;
  }

  new_activation : HasActivation (boots w) new
  new_activation = record { none = λ f. refl; some = λ f. absurd (false≢true (sym f)); most = omega arith }

  apart_after : (a b r s : Record) → Leaves a r → Leaves b s → AreActivatedApart a b → AreActivatedApart r s
  apart_after a b r s l m p = record {
    apart = rw (l.activation, m.activation) p.apart;
    above = λ u v. rw (l.activation, m.activation) (p.above (was_so a r l is_undoable refl u)
        (was_so b s m is_standing refl v));
  }

  commit_apart : AllPeers AreActivatedApart after
  commit_apart r s name i j d n m =
      elim (members w.sessions x print r i) [
        | inl f ↦ subst (λ (r : Record). AreActivatedApart r s) (sym f) (record {
          apart = λ some other same. some refl;
          above = λ u v. absurd (false≢true u);
        })
        | inr (a, k, c) ↦ elim (members w.sessions x print s j) [
          | inl g ↦ subst (λ (s : Record). AreActivatedApart r s) (sym g) (record {
            apart = λ some other same. other refl;
            above = λ u v. absurd (false≢true v);
          })
          | inr (b, l, c') ↦ apart_after a b r s (leaves x a r c) (leaves x b s c') (law.activations.peers a b name k l
              (λ same. d (ap (λ (id : SessionId). id.0) (leaves x a r c).kept.id ∙ same
              ∙ ap (λ (id : SessionId). id.0) (sym (leaves x b s c').kept.id)))
              (named_before a r name (leaves x a r c) n) (named_before b s name (leaves x b s c') m))
        ]
      ]

  -- the session that is undone is found again, and has the boot that it had
  undone_before : (r s : Record) → In r w.sessions → Leaves r s → IsActivatedAfter after s
  undone_before r s i l id z k found some =
      let kind = sym l.kept.kind ∙ k in
      let (y, there, is) = law.undone.back r id i kind in
      let again = found_after w.sessions x print (new_ids w law x h e) id y there in
      let one : z ≡ after_commit x y = cc (found, again) in
      let same : z.activation ≡ y.activation = ap (λ (r : Record). r.activation) one
      ∙ (leaves x y (after_commit x y) (commits_to x y)).activation in
      let low = law.activations.after r i id y kind there (λ none. some (l.activation ∙ none)) in
      let same' = l.activation in
      omega (arith, low, same, same')

  -- activation boots are as they were, and the new session has none
  pub commit_activations : HaveActivations (boots w) after
  commit_activations = record {
    each = λ s i. elim (members w.sessions x print s i) [
      | inl f ↦ subst (HasActivation (boots w)) (sym f) new_activation
      | inr (r, j, c) ↦ activation_after r s (leaves x r s c) (law.activations.each r j)
    ];
    peers = commit_apart;
    after = λ s i. elim (members w.sessions x print s i) [
      | inl f ↦ subst (IsActivatedAfter after) (sym f) (λ id z k found some. absurd (some refl))
      | inr (r, j, c) ↦ undone_before r s j (leaves x r s c)
    ];
  }

  -- Causes

  cause_of : (r s : Record) → CommitsTo x r s → has_cause r.state ≡ is_some r.cause
      → has_cause s.state ≡ is_some s.cause
  cause_of r s (Taken d f) is = subst (λ (s : Record). has_cause s.state ≡ is_some s.cause) (sym f) is
  cause_of r s (GivesWay d wait f) is = subst (λ (s : Record). has_cause s.state ≡ is_some s.cause) (sym f) refl
  cause_of r s (Stays d g f) is = subst (λ (s : Record). has_cause s.state ≡ is_some s.cause) (sym f) is

  -- sessions that failed have a cause, and no others
  pub commit_causes : (s : Record) → In s after → has_cause s.state ≡ is_some s.cause
  commit_causes s i =
      elim (members w.sessions x print s i) [
        | inl f ↦ subst (λ (s : Record). has_cause s.state ≡ is_some s.cause) (sym f) refl
        | inr (r, j, c) ↦ cause_of r s c (law.causes r j)
      ]
