-- What a boot makes of the sessions of a lawful world has the laws of sessions by themselves, and of two that share a
-- name: parts, unfinished sessions, activation boots, causes, rollbacks. Callers want what is `pub` in the last module.
use Rattle.std.proofs.Common.{◌≡◌, ◌≢◌, ◌⊎◌, ℕ, ◌≤◌, ◌<◌, ◌+◌, true, false, List, [], ◌∷◌, ◌++◌, length, map, Option}
use Rattle.std.proofs.Common.{Some}
use Rattle.std.proofs.Common.{sym, ap, subst, ◌∙◌, inl, inr, arith, is_some}
use Rattle.std.specs.List.{list_any}
use Rattle.std.specs.Option.{option_map}
use Rattle.std.specs.Str.{bytes_eq}
use Rattle.std.proofs.lemmas.Bool.{false≢true}
use Rattle.std.proofs.lemmas.List.{length-append}
use Rattle.apex_base.specs.declared.numbers.SessionId.{SessionId}
use Rattle.apex_base.specs.declared.records.Cause.{Cause}
use Rattle.apex_base.specs.declared.records.Kind.TheVariants.{RollbackOf}
use Rattle.apex_base.specs.declared.records.Part.{Part}
use Rattle.apex_base.specs.declared.records.Record.{Record}
use Rattle.apex_base.specs.Held.{is_success, is_unfinished}
use Rattle.apex_base.specs.Members.{In, EachPair}
use Rattle.apex_base.specs.Sessions.{names, session_of}
use Rattle.apex_base.proofs.Finding.{some_of}
use Rattle.apex_base.proofs.MemberLemmas.{in_map_back}
use Rattle.apex_base.proofs.SessionLemmas.{of_found, of_map}
use Rattle.apex_world.specs.declared.calls.BootOrder.{BootOrder}
use Rattle.apex_world.specs.Boot.{become}
use Rattle.world_facts.specs.Follows.{IsKeptAs}
use Rattle.apex_world.specs.Lawful.{Lawful, AreOwn, HasParts, AllPeers, NotBothUnfinished, AreActivatedApart}
use Rattle.apex_world.specs.Lawful.{HasActivation}
use Rattle.apex_world.specs.Lawful.{IsActivatedAfter, HaveActivations, has_cause, HasRollback, NotBothAvailable}
use Rattle.apex_world.specs.Lawful.{HaveRollbacks}
use Rattle.apex_world.specs.Lawful.{HaveIds}
use Rattle.apex_world.specs.Selection.{Mounts, cause_of}
use Rattle.apex_world.specs.World.{World, boots}
use Rattle.apex_base.specs.Commit.{rolls_back, undoes}
use Rattle.world_laws.proofs.meaning.BootFollows.{ids_map}
use Rattle.world_laws.proofs.runs.BootCauses.{causes_made}
use Rattle.world_laws.proofs.meaning.BootRollbacks.{settles, settled_enabling, gives_up}
use Rattle.world_laws.proofs.meaning.BootSessions.{become_keeps}
use Rattle.world_laws.proofs.runs.BootTurned.{turned_unfinished, turned_success, turned_activation, turned_has, turned_apart}
use Rattle.world_laws.proofs.meaning.BootTurns.{Turns, Rests, Activates, Remains, Fails, Reverts, turns}

-- Sessions that are kept

-- a session keeps its names
pub names_kept : (name : List ℕ) (r s : Record) → IsKeptAs r s → names name s ≡ names name r
names_kept name r s k = ap (λ (ps : List Part). list_any (λ p. bytes_eq p.name name) ps) k.parts

-- and the form of its parts
pub parts_kept : (r s : Record) → IsKeptAs r s → HasParts r → HasParts s
parts_kept r s k h = record {
  count = subst (λ (ps : List Part). ((s.children ≡ []) × (length ps ≡ 1)) ⊎ (length s.children ≡ length ps))
      (sym k.parts) (subst (λ (cs : List SessionId). ((cs ≡ []) × (length r.parts ≡ 1)) ⊎ (length cs ≡ length r.parts))
      (sym k.children) h.count);
  few = subst (λ (ps : List Part). length ps ≤ 16) (sym k.parts) h.few;
  names = subst (λ (ps : List Part). EachPair (λ (p q : Part). p.name ≢ q.name) ps) (sym k.parts) h.names;
  own = λ e. subst (λ (ps : List Part). AreOwn s.id 0 ps) (sym k.parts)
      (subst (λ (id : SessionId). AreOwn id 0 r.parts) (sym k.id) (h.own (ap undoes (sym k.kind) ∙ e)));
  versions = λ p i. h.versions p (subst (λ (ps : List Part). In p ps) k.parts i);
}

module _ (f : Record → Record) (ss : List Record) (keeps : (r : Record) → IsKeptAs r (f r)) where
  -- what holds of each holds of each after a step of each by itself
  pub each_map : (P Q : Record → Type 0) → ((r : Record) → In r ss → P r → Q (f r)) → ((r : Record) → In r ss → P r)
      → (s : Record) → In s (map f ss) → Q s
  each_map P Q turn law s h = let (r, i, e) = in_map_back f s ss h in subst Q e (turn r i (law r i))

  -- and likewise of two that share a name
  pub peers_map : (P Q : Record → Record → Type 0)
      → ((r s : Record) → In r ss → In s ss → P r s → Q (f r) (f s)) → AllPeers P ss → AllPeers Q (map f ss)
  peers_map P Q turn law t u name h i d n m =
      let (r, j, e) = in_map_back f t ss h in
      let (s, k, g) = in_map_back f u ss i in
      subst (λ (t : Record). Q t u) e (subst (λ (u : Record). Q (f r) u) g (turn r s j k (law r s name j k
      (λ same. d (ap (λ (x : Record). x.id.0) (sym e) ∙ ap (λ (x : SessionId). x.0) (keeps r).id ∙ same
      ∙ ap (λ (x : SessionId). x.0) (sym (keeps s).id) ∙ ap (λ (x : Record). x.id.0) g))
      (sym (names_kept name r (f r) (keeps r)) ∙ ap (names name) e ∙ n)
      (sym (names_kept name s (f s) (keeps s)) ∙ ap (names name) g ∙ m))))

  both_peers : (P Q : Record → Record → Type 0) → AllPeers P ss → AllPeers Q ss → AllPeers (λ r s. P r s × Q r s) ss
  both_peers P Q a b r s name h i d n m = (a r s name h i d n m, b r s name h i d n m)

  -- a session is found where it was
  pub found_map : (id : SessionId) (s : Record) → session_of (map f ss) id ≡ Some s
      → (r : Record) × (session_of ss id ≡ Some r) × (f r ≡ s)
  found_map id s e = some_of f (session_of ss id) s (sym (of_map f ss id (λ r. (keeps r).id)) ∙ e)

  pub map_found : (id : SessionId) (r : Record) → session_of ss id ≡ Some r → session_of (map f ss) id ≡ Some (f r)
  map_found id r e = of_map f ss id (λ r. (keeps r).id) ∙ ap (option_map f) e

-- Boots

-- a session that has no rollback given up stays unfinished
unfinished_on : (cause : Option Cause) (b : ℕ) (r s : Record) → is_unfinished r.state ≡ true
    → gives_up s.state ≡ false → Turns cause b r s → is_unfinished s.state ≡ true
unfinished_on cause b r s u e (Rests f g a) = ap is_unfinished g ∙ u
unfinished_on cause b r s u e (Activates f g a c) = ap is_unfinished g
unfinished_on cause b r s u e (Remains f g a c) = ap is_unfinished g
unfinished_on cause b r s u e (Fails f g a) = absurd (false≢true (sym e ∙ ap gives_up g))
unfinished_on cause b r s u e (Reverts f g a) = absurd (false≢true (sym e ∙ ap gives_up g))

module _ (w : World) (law : Lawful w) (order : BootOrder) (mounts : Mounts) where
  -- the number of this boot
  abbrev pub number : ℕ
  number = length (w.eras ++ w.contents ∷ [])

  abbrev pub turn : Record → Record
  turn = become mounts w.modules order number

  abbrev pub after : List Record
  after = map turn w.sessions

  abbrev pub cause_for : Record → Option Cause
  cause_for r = cause_of mounts w.modules order.image.modules r.parts

  pub keeps : (r : Record) → IsKeptAs r (turn r)
  keeps r = become_keeps mounts w.modules order number r

  pub way : (r : Record) → Turns (cause_for r) number r (turn r)
  way r = turns mounts w.modules order number r

  pub number_is : number ≡ boots w + 1
  number_is = length-append w.eras (w.contents ∷ [])

  -- each session was activated by an earlier boot
  pub was_before : (r : Record) → In r w.sessions → r.activation < number
  was_before r h = let m = (law.activations.each r h).most in omega (arith, m, number_is)

  pub ids_after : HaveIds after
  ids_after = ids_map w.sessions turn keeps law.ids

  pub parts_after : (s : Record) → In s after → HasParts s
  parts_after = each_map turn w.sessions keeps HasParts HasParts (λ r h p. parts_kept r (turn r) (keeps r) p) law.parts

  alone_turned : (r s : Record) → NotBothUnfinished r s → NotBothUnfinished (turn r) (turn s)
  alone_turned r s alone u v = alone (turned_unfinished (cause_for r) number r (turn r) u (way r))
      (turned_unfinished (cause_for s) number s (turn s) v (way s))

  pub alone_after : AllPeers NotBothUnfinished after
  alone_after = peers_map turn w.sessions keeps NotBothUnfinished NotBothUnfinished
      (λ r s h i p. alone_turned r s p) law.alone

  -- Activation boots

  has_before : (r : Record) → In r w.sessions → HasActivation number r
  has_before r h = let each = law.activations.each r h in record {
    none = each.none;
    some = each.some;
    most = let l = was_before r h in omega (arith, l);
  }

  peers_after : AllPeers AreActivatedApart after
  peers_after = peers_map turn w.sessions keeps (λ r s. NotBothUnfinished r s × AreActivatedApart r s)
      AreActivatedApart (λ r s h i p. turned_apart number (cause_for r) (cause_for s) r (turn r) s (turn s) (way r)
      (way s) (was_before r h) (was_before s i) p.0 p.1)
      (both_peers turn w.sessions keeps NotBothUnfinished AreActivatedApart law.alone law.activations.peers)

  -- a session that a rollback session undoes was a success
  pub undone_success : (r : Record) (x : SessionId) (s : Record) → In r w.sessions → r.kind ≡ RollbackOf x
      → session_of w.sessions x ≡ Some s → is_success s.state ≡ true
  undone_success r x s h kind found =
      let (y, there, is) = law.undone.back r x h kind in
      let same : s ≡ y = cc (found, there) in
      let among = (of_found w.sessions x y there).0 in
      ap (λ (s : Record). is_success s.state) same ∙ (law.rollbacks.each y among).committed is.committed

  after_of : (r : Record) → In r w.sessions → IsActivatedAfter after (turn r)
  after_of r h x t kind found some =
      let (s, was, e) = found_map turn w.sessions keeps x t found in
      let kind' : r.kind ≡ RollbackOf x = sym (keeps r).kind ∙ kind in
      let stays = (turned_success (cause_for s) number s (turn s) (undone_success r x s h kind' was) (way s)).1 in
      let same : t.activation ≡ s.activation = ap (λ (r : Record). r.activation) (sym e) ∙ stays in
      let low = was_before s (of_found w.sessions x s was).0 in
      elim (turned_activation (cause_for r) number r (turn r) (way r)) [
        | inl f ↦
            let l = law.activations.after r h x s kind' was (λ z. some (f ∙ z)) in
            omega (arith, f, same, l)
        | inr (f, u) ↦ omega (arith, f, same, low)
      ]

  pub activations_after : HaveActivations number after
  activations_after = record {
    each = each_map turn w.sessions keeps (HasActivation number) (HasActivation number)
        (λ r h p. turned_has (cause_for r) number r (turn r) (omega (arith, number_is)) p (way r)) has_before;
    peers = peers_after;
    after = each_map turn w.sessions keeps (IsActivatedAfter w.sessions) (IsActivatedAfter after)
        (λ r h p. after_of r h) law.activations.after;
  }

  -- Causes

  pub causes_after : (s : Record) → In s after → has_cause s.state ≡ is_some s.cause
  causes_after = each_map turn w.sessions keeps (λ r. has_cause r.state ≡ is_some r.cause)
      (λ r. has_cause r.state ≡ is_some r.cause)
      (λ r h e. (causes_made mounts w.modules order number r).has e) law.causes

  -- Rollbacks

  has_rollback : (r : Record) → HasRollback r → HasRollback (turn r)
  has_rollback r h =
      let set = settles mounts w.modules order number r in
      let moment = (causes_made mounts w.modules order number r).moment in
      let success : is_success r.state ≡ true → is_success (turn r).state ≡ true = λ e.
      ap is_success (turned_success (cause_for r) number r (turn r) e (way r)).0 ∙ e in record {
        kind = set.some ∙ h.kind ∙ ap rolls_back (sym (keeps r).kind);
        enabling = λ e. unfinished_on (cause_for r) number r (turn r) (h.enabling (set.enabling e))
            (settled_enabling mounts w.modules order number r e) (way r);
        available = λ e. success (h.available (set.available e));
        committed = λ e. success (h.committed (sym set.committed ∙ e));
        none = λ e. moment ∙ h.none (sym set.some ∙ e);
        not_yet = λ e. moment ∙ h.not_yet (set.enabling e);
      }

  pub rollbacks_after : HaveRollbacks after
  rollbacks_after = record {
    each = each_map turn w.sessions keeps HasRollback HasRollback (λ r h p. has_rollback r p) law.rollbacks.each;
    peers = peers_map turn w.sessions keeps NotBothAvailable NotBothAvailable
        (λ r s h i p e f. p ((settles mounts w.modules order number r).available e)
        ((settles mounts w.modules order number s).available f)) law.rollbacks.peers;
  }
