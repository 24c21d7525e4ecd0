-- The tests of ids and of parts decide them. Callers want `ids_decide`, `parts_decide`, `pair_among` and `pairs_by`.
use Rattle.std.proofs.Common.{◌≡◌, ◌≢◌, ◌⊎◌, ℕ, ◌+◌, ◌<◌, true, false, not, IsTrue}
use Rattle.std.proofs.Common.{List, [], ◌∷◌, length, sym, ap, subst, ◌∙◌, refl, inl, inr, Decides, arith}
use Rattle.std.specs.List.{list_all, list_any}
use Rattle.std.proofs.lemmas.Bool.Decides.{Decides-and, Decides-or, Decides-not, Decides-eqb, Decides-ltb}
use Rattle.apex_base.specs.declared.numbers.SessionId.{SessionId}
use Rattle.apex_base.specs.declared.records.Part.{Part}
use Rattle.apex_base.specs.declared.records.Record.{Record}
use Rattle.apex_base.specs.declared.records.Target.{Target}
use Rattle.apex_base.specs.declared.records.Target.TheVariants as targets
use Rattle.apex_base.specs.Commit.{target_version, undoes, is_caller_id}
use Rattle.apex_base.specs.Members.{In, EachPair}
use Rattle.apex_base.specs.Sessions.{has_id}
use Rattle.apex_base.proofs.MemberLemmas.{each_in, in_each, any_in, in_any}
use Rattle.apex_world.specs.Decided.{is_same_id, has_own_ids, are_apart, has_caller_ids, have_ids}
use Rattle.apex_world.specs.Decided.{is_own, are_own, has_parts}
use Rattle.apex_world.specs.Lawful.{ids_of, HaveIds, AreOwn, HasParts}
use Rattle.world_facts.proofs.facts.DecidedTests.{itself, at_most, every, pairs_decide, none_decides, else_decides}
use Rattle.world_facts.proofs.facts.DecidedTests.{other_name_decides, id_decides, version_decides}
use Rattle.world_facts.proofs.facts.NewIds.{has_in, in_has}
use Rattle.world_facts.proofs.facts.WorldRows.{same_id}

-- Pairs of a list

module _ {X : Type 0} where
  -- two elements are one, or a pair, in one order or the other
  pub pair_among : (P : X → X → Type 0) (xs : List X) → EachPair P xs → (x y : X) → In x xs → In y xs
      → (x ≡ y) ⊎ (P x y ⊎ P y x)
  pair_among P [] h x y i j = absurd i
  pair_among P (z ∷ zs) h x y (inl e) (inl f) = inl (sym e ∙ f)
  pair_among P (z ∷ zs) h x y (inl e) (inr j) = inr (inl (subst (λ (z : X). P z y) e (each_in (P z) zs h.0 y j)))
  pair_among P (z ∷ zs) h x y (inr i) (inl f) = inr (inr (subst (λ (z : X). P z x) f (each_in (P z) zs h.0 x i)))
  pair_among P (z ∷ zs) h x y (inr i) (inr j) = pair_among P zs h.1 x y i j

  -- what holds of pairs gives what follows of them
  pub pairs_by : (R P : X → X → Type 0) (xs : List X) → EachPair R xs
      → ((x y : X) → In x xs → In y xs → R x y → P x y) → EachPair P xs
  pairs_by R P [] h by = tt
  pairs_by R P (x ∷ xs) h by = (
    in_each (P x) xs (λ y i. by x y (inl refl) (inr i) (each_in (R x) xs h.0 y i)),
    pairs_by R P xs h.1 (λ y z i j. by y z (inr i) (inr j)),
  )

-- Ids

-- one id is below the other, and they have none in common
abbrev AreApart : Record → Record → Type 0
AreApart r s = (r.id.0 < s.id.0) × ((list_any (λ id. has_id id s) (ids_of r) ≡ true) → ⊥)

-- the test of two sessions decides that they are apart
apart_decides : (r s : Record) → Decides (are_apart r s) (AreApart r s)
apart_decides r s = Decides-and _ _ (Decides-ltb r.id.0 s.id.0)
    (Decides-not _ (itself (list_any (λ id. has_id id s) (ids_of r))))

-- an id that both have is one in common
common : (r s : Record) (id : SessionId) → has_id id r ≡ true → has_id id s ≡ true
    → list_any (λ id. has_id id s) (ids_of r) ≡ true
common r s id h i =
    let (j, k, e) = has_in id r h in
    in_any (λ (id : SessionId). has_id id s) j (ids_of r) k (ap (λ (x : SessionId). has_id x s) (same_id j id e) ∙ i)

-- sessions that are apart have no id in common
apart_ids : (ss : List Record) → EachPair AreApart ss → (r s : Record) (id : SessionId) → In r ss → In s ss
    → r.id.0 ≢ s.id.0 → has_id id r ≡ true → has_id id s ≡ true → ⊥
apart_ids ss h r s id i j d u v =
    elim (pair_among AreApart ss h r s i j) [
      | inl e ↦ d (ap (λ (r : Record). r.id.0) e)
      | inr o ↦ elim o [
        | inl p ↦ p.1 (common r s id u v)
        | inr p ↦ p.1 (common s r id v u)
      ]
    ]

-- and sessions with such ids are apart
ids_apart : (ss : List Record) → HaveIds ss → EachPair AreApart ss
ids_apart ss h =
    pairs_by (λ (r s : Record). r.id.0 < s.id.0) AreApart ss h.ascend
    (λ r s i j below. (
      below,
      λ e.
          let (id, k, v) = any_in (λ (id : SessionId). has_id id s) (ids_of r) e in
          let differ : r.id.0 ≢ s.id.0 = λ same. omega (arith, below, same) in
          h.apart r s id i j differ (in_has id r id k refl) v,
    ))

-- the test of the ids of one session
own_ids_decide : (r : Record) → Decides (has_own_ids r) (EachPair (λ (a b : SessionId). a.0 ≢ b.0) (ids_of r))
own_ids_decide r = pairs_decide (λ a b. not (is_same_id a b)) (λ (a b : SessionId). a.0 ≢ b.0)
    (λ a b. Decides-not _ (Decides-eqb a.0 b.0)) (ids_of r)

-- the test of the ids that callers give
pub caller_ids_decide : (r : Record) → Decides (has_caller_ids r) (undoes r.kind ≡ false → (id : SessionId)
    → In id (ids_of r) → IsTrue (is_caller_id id))
caller_ids_decide r =
    let d = every is_caller_id (λ id. IsTrue (is_caller_id id)) (ids_of r) (λ id h. itself (is_caller_id id)) in
    else_decides (undoes r.kind) (list_all is_caller_id (ids_of r)) d

-- the test of all ids decides them
pub ids_decide : (ss : List Record) → Decides (have_ids ss) (HaveIds ss)
ids_decide ss =
    let d = Decides-and _ _ (pairs_decide are_apart AreApart apart_decides ss)
    (Decides-and _ _ (every has_own_ids _ ss (λ r h. own_ids_decide r))
    (every has_caller_ids _ ss (λ r h. caller_ids_decide r))) in (
      λ e. let (apart, (distinct, callers)) = d.0 e in
          record {
            ascend = pairs_by AreApart (λ (r s : Record). r.id.0 < s.id.0) ss apart (λ r s i j p. p.0);
            distinct = distinct;
            apart = apart_ids ss apart;
            callers = λ r id i f. callers r i f id;
          },
      λ h. d.1 (ids_apart ss h, (h.distinct, λ r i f id. h.callers r id i f)),
    )

-- Parts

-- the test of an own target decides that it is one
own_decides : (id : SessionId) (k : ℕ) (t : Target)
    → Decides (is_own id k t) ((version : ℕ) × (t ≡ targets.Module id k version))
own_decides id k targets.Preinstalled = (λ e. absurd (cc), λ h. let e = h.1 in absurd (cc))
own_decides id k (targets.Module session part version) =
    let d = Decides-and _ _ (id_decides session id) (Decides-eqb part k) in (
      λ e. let (a, b) = d.0 e in (version, cc),
      λ h. let e = h.1 in let a : session ≡ id = cc in let b : part ≡ k = cc in d.1 (a, b),
    )

-- the same of all parts
all_own_decide : (id : SessionId) (k : ℕ) (ps : List Part) → Decides (are_own id k ps) (AreOwn id k ps)
all_own_decide id k [] = (λ e. tt, λ h. refl)
all_own_decide id k (p ∷ ps) = Decides-and _ _ (own_decides id k p.target) (all_own_decide id (k + 1) ps)

-- the test of parts decides them
pub parts_decide : (r : Record) → Decides (has_parts r) (HasParts r)
parts_decide r =
    let d = Decides-and _ _ (Decides-or _ _ (Decides-and _ _ (none_decides r.children) (Decides-eqb (length r.parts) 1))
    (Decides-eqb (length r.children) (length r.parts)))
    (Decides-and _ _ (at_most (length r.parts) 16)
    (Decides-and _ _ (pairs_decide _ (λ (p q : Part). p.name ≢ q.name) (λ p q. other_name_decides p.name q.name)
    r.parts)
    (Decides-and _ _ (else_decides (undoes r.kind) _ (all_own_decide r.id 0 r.parts))
    (every _ _ r.parts (λ p h. version_decides p.version (target_version p.target)))))) in (
      λ e. let (count, (few, (names, (own, versions)))) = d.0 e in
          record { count = count; few = few; names = names; own = own; versions = versions },
      λ h. d.1 (h.count, (h.few, (h.names, (h.own, h.versions)))),
    )
