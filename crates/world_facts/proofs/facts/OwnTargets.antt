-- The module of a part is one that an ordinary session submitted. Callers want `ordinary` and `own_at`.
use Rattle.std.proofs.Common.{◌≡◌, ◌⊎◌, ℕ, zero, suc, ◌+◌, ◌<◌, ◌≤◌, Bool, true, false, cond, ltb, ◌&&◌, List, []}
use Rattle.std.proofs.Common.{◌∷◌, Option, Some, None, sym, ap, subst, ◌∙◌, refl, inl, inr, arith}
use Rattle.std.specs.Prelude.{fold, find, nat_lt}
use Rattle.std.specs.Option.{option_map}
use Rattle.std.specs.Str.{bytes_eq}
use Rattle.std.proofs.lemmas.Bool.{and_parts, ltb-true}
use Rattle.apex_base.specs.declared.numbers.SessionId.{SessionId}
use Rattle.apex_base.specs.declared.records.Kind.{Kind}
use Rattle.apex_base.specs.declared.records.Kind.TheVariants.{Plain, WithRollback, RollbackOf}
use Rattle.apex_base.specs.declared.records.Part.{Part}
use Rattle.apex_base.specs.declared.records.Record.{Record}
use Rattle.apex_base.specs.declared.records.Target.{Target}
use Rattle.apex_base.specs.declared.records.Target.TheVariants as targets
use Rattle.apex_base.specs.Commit.{part_before, undoes}
use Rattle.apex_base.specs.Held.{is_success, candidate, later, target_of, latest, before}
use Rattle.apex_base.specs.Members.{In}
use Rattle.apex_base.specs.Sessions.{session_of}
use Rattle.apex_base.proofs.Finding.{found}
use Rattle.apex_base.proofs.MemberLemmas.{in_map_back}
use Rattle.apex_base.proofs.SessionLemmas.{of_found}
use Rattle.apex_world.specs.Lawful.{Lawful, AreOwn}
use Rattle.apex_world.specs.World.{World, boots}
use Rattle.world_facts.proofs.facts.OpenedSessions.{one_session}
use Rattle.world_facts.proofs.facts.StateFacts.{success_activated}

-- The latest of a kind is no module, or that of a part

module _ (counts : Record → Bool) (ss : List Record) (name : List ℕ) where
  -- a candidate comes from a part of a session that counts
  abbrev IsPartOf : Option (ℕ × Target) → Type 0
  IsPartOf o = (o ≡ None) ⊎ ((r : Record) × (p : Part) × In r ss × (counts r ≡ true) × In p r.parts
      × (target_of o ≡ p.target))

  candidate_of : (r : Record) (o : Option Part) → In r ss → counts r ≡ true
      → find (λ (p : Part). bytes_eq p.name name) r.parts ≡ o
      → IsPartOf (option_map (λ (p : Part). (r.activation, p.target)) o)
  candidate_of r None h e f = inl refl
  candidate_of r (Some p) h e f = inr (r, p, h, e, (found (λ (p : Part). bytes_eq p.name name) r.parts p f).0, refl)

  candidate_if : (b : Bool) (r : Record) → counts r ≡ b → In r ss → IsPartOf (candidate b name r)
  candidate_if false r e h = inl refl
  candidate_if true r e h = candidate_of r (find (λ (p : Part). bytes_eq p.name name) r.parts) h e refl

  later_if : (c : Bool) (x y : ℕ × Target) → IsPartOf (Some x) → IsPartOf (Some y) → IsPartOf (cond c (Some y) (Some x))
  later_if true x y a b = b
  later_if false x y a b = a

  later_of : (a b : Option (ℕ × Target)) → IsPartOf a → IsPartOf b → IsPartOf (later a b)
  later_of None None h i = h
  later_of (Some x) None h i = h
  later_of None (Some y) h i = i
  later_of (Some x) (Some y) h i = later_if (ltb x.0 y.0) x y h i

  fold_of : (rs : List Record) (best : Option (ℕ × Target)) → ((r : Record) → In r rs → In r ss) → IsPartOf best
      → IsPartOf (fold (λ best r. later best (candidate (counts r) name r)) best rs)
  fold_of [] best all h = h
  fold_of (r ∷ rs) best all h = fold_of rs (later best (candidate (counts r) name r)) (λ s i. all s (inr i))
      (later_of best (candidate (counts r) name r) h (candidate_if (counts r) r refl (all r (inl refl))))

  latest_part : (latest counts ss name ≡ targets.Preinstalled) ⊎ ((r : Record) × (p : Part) × In r ss
      × (counts r ≡ true) × In p r.parts × (latest counts ss name ≡ p.target))
  latest_part =
      elim (fold_of ss None (λ r h. h) (inl refl)) [
        | inl e ↦ inl (ap target_of e)
        | inr x ↦ inr x
      ]

-- The targets of an ordinary session

pub own_at : (id : SessionId) (k : ℕ) (ps : List Part) (p : Part) → AreOwn id k ps → In p ps
    → (part : ℕ) × (version : ℕ) × (p.target ≡ targets.Module id part version)
own_at id k [] p a h = absurd h
own_at id k (q ∷ ps) p a (inl e) = (k, a.0.0, ap (λ (p : Part). p.target) (sym e) ∙ a.0.1)
own_at id k (q ∷ ps) p a (inr h) = own_at id (k + 1) ps p a.1 h

abbrev pub target_session : Target → ℕ
target_session targets.Preinstalled = 0
target_session (targets.Module session part version) = session.0

abbrev pub target_part : Target → ℕ
target_part targets.Preinstalled = 0
target_part (targets.Module session part version) = part

module _ (w : World) (law : Lawful w) where
  -- an ordinary session submitted the module
  abbrev IsSubmitted : Target → Type 0
  IsSubmitted t = (session : SessionId) (part version : ℕ) → t ≡ targets.Module session part version
      → (o : Record) × In o w.sessions × (undoes o.kind ≡ false) × (o.id.0 ≡ session.0)

  own_submitted : (r : Record) (p : Part) → In r w.sessions → In p r.parts → undoes r.kind ≡ false
      → IsSubmitted p.target
  own_submitted r p h i e session part version is =
      let (k, v, f) = own_at r.id 0 r.parts p ((law.parts r h).own e) i in
      (r, h, e, ap target_session (sym f ∙ is))

  -- what the sessions of less than n boots have is submitted
  abbrev Below : ℕ → Type 0
  Below n = (s : Record) (q : Part) → In s w.sessions → is_success s.state ≡ true → s.activation < n → In q s.parts
      → IsSubmitted q.target

  -- the target of a rollback session is that of an earlier session
  back_submitted : (x : Record) (name : List ℕ) (n : ℕ) → Below n → x.activation ≤ n
      → IsSubmitted (before w.sessions x name)
  back_submitted x name n below most =
      elim (latest_part (λ r. is_success r.state && nat_lt r.activation x.activation) w.sessions name) [
        | inl e ↦ λ session part version is. absurd (cc (e, is))
        | inr (s, q, h, c, i, e) ↦
            let (success, less) = and_parts (is_success s.state) (nat_lt s.activation x.activation) c in
            let l : s.activation < x.activation = ltb-true s.activation x.activation less in
            subst IsSubmitted (sym e) (below s q h success (omega (arith, l, most)) i)
      ]

  part_submitted : (r : Record) (p : Part) (k : Kind) (n : ℕ) → r.kind ≡ k → In r w.sessions → In p r.parts → Below n
      → ((id : SessionId) (x : Record) → r.kind ≡ RollbackOf id → session_of w.sessions id ≡ Some x
      → x.activation ≤ n) → IsSubmitted p.target
  part_submitted r p Plain n e h i below most = own_submitted r p h i (ap undoes e)
  part_submitted r p WithRollback n e h i below most = own_submitted r p h i (ap undoes e)
  part_submitted r p (RollbackOf id) n e h i below most =
      let (x, f, back) = law.undone.back r id h e in
      let (q, j, is) = in_map_back (part_before w.sessions x) p x.parts
      (subst (λ (ps : List Part). In p ps) back.parts i) in
      subst IsSubmitted (ap (λ (p : Part). p.target) is) (back_submitted x q.name n below (most id x e f))

  below_all : (n : ℕ) → Below n
  below_all zero s q h c l i = absurd (omega (arith, l))
  below_all (suc n) s q h c l i =
      part_submitted s q s.kind n refl h i (below_all n) (λ id x e f.
      let active = (law.activations.each s h).some (success_activated s.state c) in
      let less = law.activations.after s h id x e f (λ z. omega (arith, active, z)) in
      omega (arith, l, less))

  -- the module of a part is one that an ordinary session submitted
  pub ordinary : (r : Record) (p : Part) → In r w.sessions → In p r.parts → IsSubmitted p.target
  ordinary r p h i =
      part_submitted r p r.kind (boots w) refl h i (below_all (boots w))
      (λ id x e f. (law.activations.each x (of_found w.sessions id x f).0).most)

  -- so no part of a rollback session is a module of its own
  pub not_own : (r : Record) (p : Part) (session : SessionId) (part version : ℕ) → In r w.sessions → In p r.parts
      → undoes r.kind ≡ true → p.target ≡ targets.Module session part version → session.0 ≡ r.id.0 → ⊥
  not_own r p session part version h i e is same =
      let (o, j, f, id) = ordinary r p h i session part version is in
      let one : o ≡ r = one_session w.sessions o r law.ids.ascend j h (id ∙ same) in
      absurd (cc (ap (λ (r : Record). undoes r.kind) one, e, f))
