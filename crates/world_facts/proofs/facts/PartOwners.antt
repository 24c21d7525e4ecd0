-- Whose module a part has: it is a part of that session too, of the same name, and that session was a success where it
-- is another one. Callers want `Owner`, `owned_in`, `owned` and
-- `same_part_name`.
use Rattle.std.proofs.Common.{◌≡◌, ◌⊎◌, ℕ, ◌+◌, ◌<◌, ◌≤◌, zero, suc, true, false, ◌&&◌, List, [], ◌∷◌, Some, sym, ap}
use Rattle.std.proofs.Common.{subst, ◌∙◌, refl, inl, inr, arith}
use Rattle.std.specs.Prelude.{nat_lt, slice_get}
use Rattle.std.proofs.lemmas.Bool.{ltb-true, and_parts}
use Rattle.apex_base.specs.declared.numbers.SessionId.{SessionId}
use Rattle.apex_base.specs.declared.records.Kind.{Kind}
use Rattle.apex_base.specs.declared.records.Kind.TheVariants.{Plain, WithRollback, RollbackOf}
use Rattle.apex_base.specs.declared.records.Part.{Part}
use Rattle.apex_base.specs.declared.records.Record.{Record}
use Rattle.apex_base.specs.declared.records.Target.{Target}
use Rattle.apex_base.specs.declared.records.Target.TheVariants as targets
use Rattle.apex_base.specs.Commit.{part_before, undoes}
use Rattle.apex_base.specs.Held.{is_success, before}
use Rattle.apex_base.specs.Members.{In}
use Rattle.apex_base.specs.Sessions.{session_of, Ascend}
use Rattle.apex_base.proofs.MemberLemmas.{in_map_back}
use Rattle.apex_base.proofs.SessionLemmas.{of_found}
use Rattle.apex_world.specs.Lawful.{Lawful, AreOwn, HasParts, HaveActivations, HaveRollbackSessions}
use Rattle.apex_world.specs.World.{World, boots}
use Rattle.world_facts.proofs.facts.KeptLemmas.{success_stands, stands_activated}
use Rattle.world_facts.proofs.facts.LatestLemmas.{named_by, latest_is}
use Rattle.world_facts.proofs.facts.OpenedSessions.{one_session}
use Rattle.world_facts.proofs.facts.OwnTargets.{target_session, target_part}
use Rattle.world_facts.proofs.facts.WorldRows.{same_name}

-- the session that submitted a module, and its part
pub record Owner (ss : List Record) (name : List ℕ) (session : SessionId) (part version : ℕ) : Type 0 where
  pub owner : Record
  pub own : Part
  pub among : In owner ss
  pub ordinary : undoes owner.kind ≡ false
  pub id : owner.id.0 ≡ session.0
  pub there : slice_get owner.parts part ≡ Some own
  pub named : own.name ≡ name
  pub target : own.target ≡ targets.Module session part version

-- it is r, or was a success
abbrev pub IsOwned : List Record → Record → List ℕ → Target → Type 0
IsOwned ss r name t =
    (session : SessionId) (part version : ℕ) → t ≡ targets.Module session part version
    → (o : Owner ss name session part version) × ((o.owner ≡ r) ⊎ (is_success o.owner.state ≡ true))

-- where an ordinary session's part stands
own_place : (id : SessionId) (k : ℕ) (ps : List Part) (p : Part) → AreOwn id k ps → In p ps
    → (i part version : ℕ) × (part ≡ k + i) × (p.target ≡ targets.Module id part version) × (slice_get ps i ≡ Some p)
own_place id k [] p a h = absurd h
own_place id k (q ∷ ps) p a (inl e) =
    (0, k, a.0.0, omega arith, ap (λ (p : Part). p.target) (sym e) ∙ a.0.1, ap (λ (p : Part). Some p) e)
own_place id k (q ∷ ps) p a (inr h) =
    let (i, part, version, count, is, there) = own_place id (k + 1) ps p a.1 h in
    (suc i, part, version, omega (arith, count), is, there)

-- seen from another session, where this one was a success
from_success : (r s owner : Record) → is_success s.state ≡ true → (owner ≡ s) ⊎ (is_success owner.state ≡ true)
    → (owner ≡ r) ⊎ (is_success owner.state ≡ true)
from_success r s owner success (inl e) = inr (ap (λ (s : Record). is_success s.state) e ∙ success)
from_success r s owner success (inr e) = inr e

module _ (n : ℕ) (ss : List Record) (ascend : Ascend ss) (parts : (r : Record) → In r ss → HasParts r)
    (acts : HaveActivations n ss) (undone : HaveRollbackSessions ss) where
  own_owned : (r : Record) (p : Part) → In r ss → In p r.parts → undoes r.kind ≡ false
      → IsOwned ss r p.name p.target
  own_owned r p h i e session part version is =
      let (place, number, v, count, f, there) = own_place r.id 0 r.parts p ((parts r h).own e) i in
      let same : targets.Module r.id number v ≡ targets.Module session part version = sym f ∙ is in
      let one : number ≡ part = ap target_part same in (
        record {
          owner = r;
          own = p;
          among = h;
          ordinary = e;
          id = ap target_session same;
          there = ap (slice_get r.parts) (omega (arith, count, one)) ∙ there;
          named = refl;
          target = is;
        },
        inl refl,
      )

  -- the targets of what was a success in less than b boots
  abbrev Below : ℕ → Type 0
  Below b = (s : Record) (q : Part) → In s ss → is_success s.state ≡ true → s.activation < b → In q s.parts
      → IsOwned ss s q.name q.target

  -- a rollback goes back to what was a success
  back_owned : (r x : Record) (name : List ℕ) (b : ℕ) → Below b → x.activation ≤ b
      → IsOwned ss r name (before ss x name)
  back_owned r x name b below most session part version is =
      elim (latest_is (λ r. is_success r.state && nat_lt r.activation x.activation) name ss) [
        | inl none ↦ absurd (cc (none.1, is))
        | inr (s, q, l, e) ↦
            let (success, less) = and_parts (is_success s.state) (nat_lt s.activation x.activation) l.counts in
            let low : s.activation < x.activation = ltb-true s.activation x.activation less in
            let (i, n_is) = named_by name s q l.part in
            let (o, by) = below s q l.among success (omega (arith, low, most)) i session part version (sym e ∙ is) in
            subst (λ (a : List ℕ). (o : Owner ss a session part version) × ((o.owner ≡ r)
            ⊎ (is_success o.owner.state ≡ true))) (same_name q.name name n_is)
            (o, from_success r s o.owner success by)
      ]

  part_owned : (r : Record) (p : Part) (k : Kind) (b : ℕ) → r.kind ≡ k → In r ss → In p r.parts → Below b
      → ((id : SessionId) (x : Record) → r.kind ≡ RollbackOf id → session_of ss id ≡ Some x → x.activation ≤ b)
      → IsOwned ss r p.name p.target
  part_owned r p Plain b e h i below most = own_owned r p h i (ap undoes e)
  part_owned r p WithRollback b e h i below most = own_owned r p h i (ap undoes e)
  part_owned r p (RollbackOf id) b e h i below most =
      let (x, f, back) = undone.back r id h e in
      let (q, j, is) = in_map_back (part_before ss x) p x.parts
      (subst (λ (ps : List Part). In p ps) back.parts i) in
      subst (λ (p : Part). IsOwned ss r p.name p.target) is (back_owned r x q.name b below (most id x e f))

  below_all : (b : ℕ) → Below b
  below_all zero s q h c l i = absurd (omega (arith, l))
  below_all (suc b) s q h c l i =
      part_owned s q s.kind b refl h i (below_all b) (λ id x e f.
      let active = (acts.each s h).some (stands_activated s.state (success_stands s.state c)) in
      let less = acts.after s h id x e f (λ z. omega (arith, active, z)) in
      omega (arith, l, less))

  -- the module of each part
  pub owned_in : (r : Record) (p : Part) → In r ss → In p r.parts → IsOwned ss r p.name p.target
  owned_in r p h i =
      part_owned r p r.kind n refl h i (below_all n) (λ id x e f. (acts.each x (of_found ss id x f).0).most)

module _ (w : World) (law : Lawful w) where
  pub owned : (r : Record) (p : Part) → In r w.sessions → In p r.parts → IsOwned w.sessions r p.name p.target
  owned r p h i = owned_in (boots w) w.sessions law.ids.ascend law.parts law.activations law.undone r p h i

  -- parts that have one module have one name
  pub same_part_name : (r s : Record) (p q : Part) (session : SessionId) (part version version' : ℕ) → In r w.sessions
      → In s w.sessions → In p r.parts → In q s.parts → p.target ≡ targets.Module session part version
      → q.target ≡ targets.Module session part version' → p.name ≡ q.name
  same_part_name r s p q session part version version' h i j k e f =
      let (a, from) = owned r p h j session part version e in
      let (b, by) = owned s q i k session part version' f in
      let one : a.owner ≡ b.owner =
      one_session w.sessions a.owner b.owner law.ids.ascend a.among b.among (a.id ∙ sym b.id) in
      let both : slice_get a.owner.parts part ≡ Some b.own = ap (λ (r : Record). slice_get r.parts part) one ∙ b.there in
      let same : a.own ≡ b.own = cc (a.there, both) in
      sym a.named ∙ ap (λ (p : Part). p.name) same ∙ b.named
