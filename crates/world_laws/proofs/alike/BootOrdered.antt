-- What a boot makes of sessions keeps the order that modules are kept by, and keeps no more of them. Callers want
-- `ages`, `ordered_booted`, `carries_booted`, `nothing_booted` and `above`.
use Rattle.std.proofs.Common.{◌≡◌, ◌≢◌, ◌⊎◌, ℕ, ◌<◌, true, List, [], ◌∷◌, ◌++◌, length, map, Option, sym, ap}
use Rattle.std.proofs.Common.{subst, ◌∙◌, inl, inr, arith}
use Rattle.std.specs.List.{list_any}
use Rattle.std.specs.Str.{bytes_eq}
use Rattle.std.proofs.lemmas.Bool.{or_right}
use Rattle.std.proofs.lemmas.List.{length-append}
use Rattle.apex_base.specs.declared.numbers.SessionId.{SessionId}
use Rattle.apex_base.specs.declared.records.Cause.{Cause}
use Rattle.apex_base.specs.declared.records.Part.{Part}
use Rattle.apex_base.specs.declared.records.Record.{Record}
use Rattle.apex_base.specs.Held.{is_unfinished, is_undoable, is_standing, is_success, is_available}
use Rattle.apex_base.specs.Members.{In}
use Rattle.apex_base.specs.Sessions.{names}
use Rattle.apex_base.proofs.MemberLemmas.{in_map, in_map_back}
use Rattle.apex_base.proofs.SessionLemmas.{ascend_map}
use Rattle.apex_world.specs.declared.calls.BootOrder.{BootOrder}
use Rattle.apex_world.specs.Boot.{become}
use Rattle.world_facts.specs.Follows.{IsKeptAs}
use Rattle.apex_world.specs.Lawful.{Lawful, AreActivatedApart}
use Rattle.apex_world.specs.Selection.{Mounts, cause_of}
use Rattle.apex_world.specs.World.{World}
use Rattle.world_laws.proofs.alike.AlikeAfter.{NothingNew}
use Rattle.world_laws.proofs.meaning.BootRollbacks.{settles}
use Rattle.world_laws.proofs.meaning.BootSessions.{become_keeps}
use Rattle.world_laws.proofs.meaning.BootTurns.{Turns, turns}
use Rattle.world_facts.proofs.facts.KeptLemmas.{AreOrdered, stands_activated}
use Rattle.world_facts.proofs.facts.KeptLess.{Goes, Carries}
use Rattle.world_laws.proofs.alike.BootAges.{IsYoung, IsOld, aged, turn_unfinished, turn_stays, turn_came}
use Rattle.world_facts.proofs.facts.StateFacts.{undoable_unfinished}

module _ (w : World) (law : Lawful w) (order : BootOrder) (mounts : Mounts) where
  abbrev number : ℕ
  number = length (w.eras ++ w.contents ∷ [])

  abbrev f : Record → Record
  f r = become mounts w.modules order number r

  abbrev mid : List Record
  mid = map f w.sessions

  abbrev cause : Record → Option Cause
  cause r = cause_of mounts w.modules order.image.modules r.parts

  -- what the boot makes of a session
  pub turn : (r : Record) → Turns (cause r) number r (f r)
  turn r = turns mounts w.modules order number r

  -- what it leaves of one
  pub keeps : (r : Record) → IsKeptAs r (f r)
  keeps r = become_keeps mounts w.modules order number r

  -- it activates a session, or leaves its activation boot
  pub ages : (r : Record) → IsYoung number r (f r) ⊎ IsOld r (f r)
  ages r = aged (cause r) number r (f r) (turn r)

  -- no session was activated by this boot before
  pub above : (r : Record) → In r w.sessions → r.activation < number
  above r h =
      let most = (law.activations.each r h).most in
      let n = length-append w.eras (w.contents ∷ []) in
      omega (arith, most, n)

  -- a session keeps its id
  pub number_same : (r : Record) → (f r).id.0 ≡ r.id.0
  number_same r = ap (λ (id : SessionId). id.0) (keeps r).id

  -- and its names
  pub names_back : (name : List ℕ) (r : Record) → names name (f r) ≡ true → names name r ≡ true
  names_back name r n = ap (λ (ps : List Part). list_any (λ p. bytes_eq p.name name) ps) (sym (keeps r).parts) ∙ n

  -- The order

  not_both : (p q : Record) (name : List ℕ) → In p w.sessions → In q w.sessions → p.id.0 ≢ q.id.0
      → names name p ≡ true → names name q ≡ true → is_unfinished p.state ≡ true → is_unfinished q.state ≡ true → ⊥
  not_both p q name h i d n m u v = law.alone p q name h i d n m u v

  apart_by : (p q : Record) (name : List ℕ) → In p w.sessions → In q w.sessions → p.id.0 ≢ q.id.0
      → names name p ≡ true → names name q ≡ true → IsYoung number p (f p) ⊎ IsOld p (f p)
      → IsYoung number q (f q) ⊎ IsOld q (f q) → AreActivatedApart (f p) (f q)
  apart_by p q name h i d n m (inl x) (inl y) =
      absurd (not_both p q name h i d n m (ap is_unfinished x.staged) (ap is_unfinished y.staged))
  apart_by p q name h i d n m (inl x) (inr y) = record {
    apart = λ a b e. let l = above q i in omega (arith, l, e, x.activation, y.activation);
    above = λ u v. let l = above q i in omega (arith, l, x.activation, y.activation);
  }
  apart_by p q name h i d n m (inr x) (inl y) = record {
    apart = λ a b e. let l = above p h in omega (arith, l, e, x.activation, y.activation);
    above = λ u v. absurd (not_both p q name h i d n m (undoable_unfinished p.state (x.undoable u))
        (ap is_unfinished y.staged));
  }
  apart_by p q name h i d n m (inr x) (inr y) =
      let old = law.activations.peers p q name h i d n m in
      record {
        apart = λ a b e. old.apart (λ z. a (x.activation ∙ z)) (λ z. b (y.activation ∙ z))
            (sym x.activation ∙ e ∙ y.activation);
        above = λ u v. let l = old.above (x.undoable u) (y.stands v) in omega (arith, l, x.activation, y.activation);
      }

  peers_booted : (r s : Record) (name : List ℕ) → In r mid → In s mid → r.id.0 ≢ s.id.0 → names name r ≡ true
      → names name s ≡ true → AreActivatedApart r s
  peers_booted r s name h i d n m =
      let (p, j, e) = in_map_back f r w.sessions h in
      let (q, k, g) = in_map_back f s w.sessions i in
      let apart = apart_by p q name j k
      (λ x. d (ap (λ (r : Record). r.id.0) (sym e) ∙ number_same p ∙ x ∙ sym (number_same q)
      ∙ ap (λ (r : Record). r.id.0) g))
      (names_back name p (ap (names name) e ∙ n)) (names_back name q (ap (names name) g ∙ m)) (ages p) (ages q) in
      subst (λ (s : Record). AreActivatedApart r s) g (subst (λ (r : Record). AreActivatedApart r (f q)) e apart)

  active_by : (r : Record) → In r w.sessions → IsYoung number r (f r) ⊎ IsOld r (f r) → is_standing (f r).state ≡ true
      → (f r).activation ≡ 0 → ⊥
  active_by r h (inl x) u z = let l = above r h in omega (arith, l, z, x.activation)
  active_by r h (inr x) u z =
      let l = (law.activations.each r h).some (stands_activated r.state (x.stands u)) in
      omega (arith, l, z, x.activation)

  -- the order stays
  pub ordered_booted : AreOrdered mid
  ordered_booted = record {
    ascend = ascend_map f w.sessions (λ r. (keeps r).id) law.ids.ascend;
    peers = peers_booted;
    active = λ s h u z.
        let (r, i, e) = in_map_back f s w.sessions h in
        active_by r i (ages r) (ap (λ (s : Record). is_standing s.state) e ∙ u)
        (ap (λ (s : Record). s.activation) e ∙ z);
  }

  -- Modules

  goes_booted : (r : Record) → In r w.sessions → Goes r (f r)
  goes_booted r h = record {
    parts = (keeps r).parts;
    unfinished = turn_unfinished (cause r) number r (f r) (turn r);
    stays = turn_stays (cause r) number r (f r) (turn r);
    came = turn_came (cause r) number r (f r) (turn r);
    available = λ e.
        let was = (settles mounts w.modules order number r).available e in (
          or_right (is_undoable r.state) (is_available r.rollback) was,
          (turn_stays (cause r) number r (f r) (turn r) ((law.rollbacks.each r h).available was)).1,
        );
  }

  -- each session comes from one before
  pub carries_booted : Carries w.sessions mid
  carries_booted = record {
    back = λ s i.
        let (r, j, e) = in_map_back f s w.sessions i in
        inl (r, j, subst (Goes r) e (goes_booted r j));
    forth = λ r i. (f r, in_map f r w.sessions i, goes_booted r i);
  }

  -- and none is new
  pub nothing_booted : NothingNew w.sessions mid
  nothing_booted s p i fresh j =
      let (r, k, e) = in_map_back f s w.sessions i in
      absurd (fresh.unused r k (sym (number_same r) ∙ ap (λ (s : Record). s.id.0) e))

  -- a success stays so
  pub success_booted : (r : Record) → is_success r.state ≡ true → is_success (f r).state ≡ true
  success_booted r e = (turn_stays (cause r) number r (f r) (turn r) e).0
