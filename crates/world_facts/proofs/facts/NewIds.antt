-- The ids of new sessions: those of a submit that isn't refused, and those of the session that a rollback makes.
use Rattle.std.proofs.Common.{◌≡◌, ◌≢◌, ℕ, Bool, true, false, cond, ◌||◌, eqb, leb, IsTrue, List, [], ◌∷◌, map, Option, Some, None, sym, ap, subst, ◌∙◌, refl, inl, inr, arith}
use Rattle.std.specs.List.{list_any}
use Rattle.std.proofs.lemmas.Bool.{false≢true, and_parts, or_cases, or_parts, or_left, or_right, cases_eq, eqb-true, eq-eqb, false_from_ne_true, leb-true}
use Rattle.apex_base.specs.declared.numbers.SessionId.{SessionId}
use Rattle.apex_base.specs.declared.records.Kind.{Kind}
use Rattle.apex_base.specs.declared.records.Kind.TheVariants.{Plain, WithRollback, RollbackOf}
use Rattle.apex_base.specs.declared.records.Record.{Record}
use Rattle.apex_base.specs.declared.records.RollbackState.{RollbackState}
use Rattle.apex_base.specs.declared.records.RollbackState.TheVariants as rollbacks
use Rattle.apex_base.specs.declared.refusal.Refusal.{Refusal}
use Rattle.apex_base.specs.declared.refusal.Refusal.TheVariants.{IdTaken}
use Rattle.apex_base.specs.Commit.{rollback_id, undoes, is_caller_id}
use Rattle.apex_base.specs.Held.{is_available}
use Rattle.apex_base.specs.Members.{In}
use Rattle.apex_base.specs.Rollbacks.{is_committed}
use Rattle.apex_base.specs.Sessions.{has_id, session_of, Ascend}
use Rattle.apex_base.proofs.MemberLemmas.{in_map_back, any_in, in_any}
use Rattle.apex_base.proofs.SessionLemmas.{of_found, of_in}
use Rattle.world_facts.specs.Follows.{IsNew}
use Rattle.apex_world.specs.Lawful.{ids_of, HaveIds, HaveRollbackSessions}
use Rattle.apex_world.specs.Submit.{is_taken, id_taken}

-- the ids that a session has are those that it tells
pub has_in : (id : SessionId) (r : Record) → has_id id r ≡ true → (j : SessionId) × In j (ids_of r) × (j.0 ≡ id.0)
has_in id r h =
    elim (or_cases (eqb r.id.0 id.0) (list_any (λ (c : SessionId). eqb c.0 id.0) r.children) h) [
      | inl e ↦ (r.id, inl refl, eqb-true r.id.0 id.0 e)
      | inr e ↦ let (c, i, f) = any_in (λ (c : SessionId). eqb c.0 id.0) r.children e in (c, inr i, eqb-true c.0 id.0 f)
    ]

pub in_has : (id : SessionId) (r : Record) (j : SessionId) → In j (ids_of r) → j.0 ≡ id.0 → has_id id r ≡ true
in_has id r j (inl e) f = or_left (eqb r.id.0 id.0) (list_any
    (λ (c : SessionId). eqb c.0 id.0) r.children) (eq-eqb r.id.0 id.0 (ap (λ (x : SessionId). x.0) e ∙ f))
in_has id r j (inr h) f =
    or_right (eqb r.id.0 id.0) (list_any (λ (c : SessionId). eqb c.0 id.0) r.children) (in_any
    (λ (c : SessionId). eqb c.0 id.0) j r.children h (eq-eqb j.0 id.0 f))

-- The ids of a submit

taken_if : (b : Bool) (id : SessionId) (rest : Option Refusal) → cond b (Some (IdTaken id)) rest ≡ None
    → (b ≡ false) × (rest ≡ None)
taken_if true id rest e = absurd (cc)
taken_if false id rest e = (refl, e)

none_taken : (ss : List Record) (earlier ids : List SessionId) → id_taken ss earlier ids ≡ None → (id : SessionId)
    → In id ids → is_taken ss id ≡ false
none_taken ss earlier [] e id h = absurd h
none_taken ss earlier (i ∷ ids) e id h =
    let (b, rest) = taken_if (is_taken ss i || list_any
    (λ e. eqb e.0 i.0) earlier) i (id_taken ss (i ∷ earlier) ids) e in
    elim h [
      | inl f ↦ ap (is_taken ss) (sym f) ∙ (or_parts (is_taken ss i) (list_any (λ e. eqb e.0 i.0) earlier) b).0
      | inr j ↦ none_taken ss (i ∷ earlier) ids rest id j
    ]

not_any : (ss : List Record) (id : SessionId) (r : Record) → is_taken ss id ≡ false → In r ss → has_id id r ≡ false
not_any ss id r e h = false_from_ne_true (has_id id r) (λ f. false≢true (sym e ∙ in_any (has_id id) r ss h f))

pub submit_new : (ss : List Record) (s : Record) → id_taken ss [] (ids_of s) ≡ None → IsNew ss s
submit_new ss s e r id h i = not_any ss id r (none_taken ss [] (ids_of s) e id i) h

-- The ids of a rollback

-- those of the session that the rollback of x makes
abbrev pub rollback_ids : Record → List SessionId
rollback_ids x = map rollback_id (ids_of x)

-- nobody has had them
abbrev pub AreNew : List Record → Record → Type 0
AreNew ss x = (r : Record) (id : SessionId) → In r ss → In id (rollback_ids x) → has_id id r ≡ false

same_session : (ss : List Record) (r s : Record) → Ascend ss → In r ss → In s ss → r.id.0 ≡ s.id.0 → r ≡ s
same_session ss r s a h i e =
    let id : r.id ≡ s.id = ap (λ (n : ℕ). record { 0 = n }) e in
    let f : session_of ss r.id ≡ Some r = of_in ss r a h in
    let g : session_of ss r.id ≡ Some s = ap (session_of ss) id ∙ of_in ss s a i in
    cc (f, g)

pub not_both : (o : Option RollbackState) → is_available o ≡ true → is_committed o ≡ true → ⊥
not_both None a c = absurd (cc)
not_both (Some rollbacks.Enabling) a c = absurd (cc)
not_both (Some rollbacks.Available) a c = absurd (cc)
not_both (Some rollbacks.Committed) a c = absurd (cc)
not_both (Some rollbacks.Deleted) a c = absurd (cc)

-- a caller's id isn't one of them
low_id : (j i : SessionId) → IsTrue (is_caller_id j) → j.0 ≡ (rollback_id i).0 → ⊥
low_id j i t e =
    let m = leb-true j.0 1073741823 (and_parts (leb 1 j.0) (leb j.0 1073741823) t).1 in
    omega (arith, m, e)

same_undone : (i k : SessionId) → (rollback_id k).0 ≡ (rollback_id i).0 → k.0 ≡ i.0
same_undone i k e = omega (arith, e)

-- two sessions have no id of their rollbacks in common
pub apart_new : (ss : List Record) → HaveIds ss → (x y : Record) → In x ss → In y ss → x.id.0 ≢ y.id.0
    → (a b : SessionId) → In a (rollback_ids x) → In b (rollback_ids y) → a.0 ≢ b.0
apart_new ss ids x y h i d a b u v e =
    let (k, j, f) = in_map_back rollback_id a (ids_of x) u in
    let (l, m, g) = in_map_back rollback_id b (ids_of y) v in
    let both : k.0 ≡ l.0 = same_undone l k (ap (λ (z : SessionId). z.0) f ∙ e ∙ sym (ap (λ (z : SessionId). z.0) g)) in
    ids.apart x y k h i d (in_has k x k j refl) (in_has k y l m (sym both))

module _ (ss : List Record) (ids : HaveIds ss) (undone : HaveRollbackSessions ss) (x : Record) (h : In x ss)
    (available : is_available x.rollback ≡ true) where
  -- no session of a rollback has them
  undone_apart : (r : Record) (y i : SessionId) → In r ss → r.kind ≡ RollbackOf y → In i (ids_of x)
      → has_id (rollback_id i) r ≡ true → ⊥
  undone_apart r y i at k u e =
      let (z, found, was) = undone.back r y at k in
      let there : In z ss = (of_found ss y z found).0 in
      let (j, v, f) = has_in (rollback_id i) r e in
      let of_z : ids_of r ≡ rollback_ids z = ap (λ (a : SessionId). a ∷ r.children) was.id
      ∙ ap (λ (cs : List SessionId). rollback_id z.id ∷ cs) was.children in
      let (l, m, g) = in_map_back rollback_id j (ids_of z) (subst (In j) of_z v) in
      let both : l.0 ≡ i.0 = same_undone i l (ap (λ (a : SessionId). a.0) g ∙ f) in
      elim (cases_eq z.id.0 x.id.0) [
        | inl same ↦ not_both x.rollback available (ap
            (λ (a : Record). is_committed a.rollback) (sym (same_session ss z x ids.ascend there h same))
            ∙ was.committed)
        | inr d ↦ ids.apart z x l there h d (in_has l z l m refl) (in_has l x i u (sym both))
      ]

  kind_apart : (r : Record) (i : SessionId) (k : Kind) → r.kind ≡ k → In r ss → In i (ids_of x)
      → has_id (rollback_id i) r ≡ true → ⊥
  kind_apart r i Plain e at u f = let (j, v, g) = has_in (rollback_id i) r f in
      low_id j i (ids.callers r j at (ap undoes e) v) g
  kind_apart r i WithRollback e at u f = let (j, v, g) = has_in (rollback_id i) r f in
      low_id j i (ids.callers r j at (ap undoes e) v) g
  kind_apart r i (RollbackOf y) e at u f = undone_apart r y i at e u f

  -- the session of an available rollback is new
  pub rollback_new : AreNew ss x
  rollback_new r id at u =
      let (i, v, e) = in_map_back rollback_id id (ids_of x) u in
      ap (λ (a : SessionId). has_id a r) (sym e)
      ∙ false_from_ne_true (has_id (rollback_id i) r) (kind_apart r i r.kind refl at v)
