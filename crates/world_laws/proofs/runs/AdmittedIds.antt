-- The ids of a submit, and how many parts it has. Callers want `all_callers`, `ids_differ`, `count_passes` and
-- `counted_is`.
use Rattle.std.proofs.Common.{◌≡◌, ◌≢◌, ◌⊎◌, ℕ, ◌≤◌, Bool, true, false, cond, eqb, leb, ◌||◌, IsTrue, List, [], ◌∷◌}
use Rattle.std.proofs.Common.{length, Option, Some, None, sym, ap, subst, ◌∙◌, refl, inl, inr, arith}
use Rattle.std.specs.List.{list_any}
use Rattle.std.proofs.lemmas.Bool.{false≢true, and_parts, or_parts, eqb-true, eq-eqb, leb-true}
use Rattle.apex_base.specs.declared.numbers.SessionId.{SessionId}
use Rattle.apex_base.specs.declared.records.Record.{Record}
use Rattle.apex_base.specs.declared.refusal.Refusal.{Refusal}
use Rattle.apex_base.specs.declared.refusal.Refusal.TheVariants.{IdRange, IdTaken}
use Rattle.apex_base.specs.Members.{In, EachPair}
use Rattle.apex_base.proofs.MemberLemmas.{in_any, in_each}
use Rattle.apex_world.specs.Submit.{id_range, is_taken, id_taken, is_count}
use Rattle.apex_base.specs.Commit.{is_caller_id}

-- an id that is in range, and what follows it
range_if : (b : Bool) (id : SessionId) (rest : Option Refusal) → cond b rest (Some (IdRange id)) ≡ None
    → (b ≡ true) × (rest ≡ None)
range_if true id rest e = (refl, e)
range_if false id rest e = absurd (cc)

-- each id is one that a caller may give
pub all_callers : (ids : List SessionId) → id_range ids ≡ None → (id : SessionId) → In id ids → IsTrue (is_caller_id id)
all_callers [] e id h = absurd h
all_callers (i ∷ ids) e id h =
    let (is, rest) = range_if (is_caller_id i) i (id_range ids) e in
    elim h [
      | inl same ↦ subst (λ (i : SessionId). IsTrue (is_caller_id i)) same is
      | inr j ↦ all_callers ids rest id j
    ]

-- an id that is free, and what follows it
taken_if : (b : Bool) (id : SessionId) (rest : Option Refusal) → cond b (Some (IdTaken id)) rest ≡ None
    → (b ≡ false) × (rest ≡ None)
taken_if true id rest e = absurd (cc)
taken_if false id rest e = (refl, e)

-- no id stands earlier in the call
not_earlier : (ss : List Record) (earlier ids : List SessionId) → id_taken ss earlier ids ≡ None → (a b : SessionId)
    → In a earlier → In b ids → a.0 ≢ b.0
not_earlier ss earlier [] e a b h i = absurd i
not_earlier ss earlier (id ∷ ids) e a b h i =
    let (free, rest) = taken_if (is_taken ss id || list_any (λ e. eqb e.0 id.0) earlier) id
    (id_taken ss (id ∷ earlier) ids) e in
    elim i [
      | inl same ↦ λ f. false≢true (sym (or_parts (is_taken ss id) (list_any (λ e. eqb e.0 id.0) earlier) free).1
          ∙ in_any (λ (e : SessionId). eqb e.0 id.0) a earlier h
          (eq-eqb a.0 id.0 (f ∙ ap (λ (x : SessionId). x.0) (sym same))))
      | inr j ↦ not_earlier ss (id ∷ earlier) ids rest a b (inr h) j
    ]

-- the ids of a submit differ
pub ids_differ : (ss : List Record) (earlier ids : List SessionId) → id_taken ss earlier ids ≡ None
    → EachPair (λ (a b : SessionId). a.0 ≢ b.0) ids
ids_differ ss earlier [] e = tt
ids_differ ss earlier (id ∷ ids) e =
    let (free, rest) = taken_if (is_taken ss id || list_any (λ e. eqb e.0 id.0) earlier) id
    (id_taken ss (id ∷ earlier) ids) e in (
      in_each (λ (b : SessionId). id.0 ≢ b.0) ids (λ b h. not_earlier ss (id ∷ earlier) ids rest id b (inl refl) h),
      ids_differ ss (id ∷ earlier) ids rest,
    )

-- How many parts

-- what isn't refused passes
pub count_passes : (b : Bool) (refusal : Refusal) → cond b None (Some refusal) ≡ None → b ≡ true
count_passes true refusal e = refl
count_passes false refusal e = absurd (cc)

-- there is one part, or one for each child, and there are at most 16
pub counted_is : (children : List SessionId) (n : ℕ) → is_count children n ≡ true
    → (((children ≡ []) × (n ≡ 1)) ⊎ (length children ≡ n)) × (n ≤ 16)
counted_is [] n e = let one = eqb-true n 1 e in (inl (refl, one), omega (arith, one))
counted_is (c ∷ cs) n e =
    let (same, few) = and_parts (eqb (length (c ∷ cs)) n) (leb n 16) e in
    (inr (eqb-true (length (c ∷ cs)) n same), leb-true n 16 few)
