-- Where no session has children, an id stands for the session that has it. Callers want `found_alone`.
use Rattle.std.proofs.Common.{◌≡◌, ◌≢◌, ◌<◌, ◌==◌, Bool, true, false, ◌||◌, List, [], ◌∷◌, find, Some, None, sym}
use Rattle.std.proofs.Common.{◌∙◌, refl, inl, inr, arith, eq-eqb}
use Rattle.std.proofs.lemmas.Bool.{cases_order, ne_eqb}
use Rattle.std.specs.List.{AllByRecursion}
use Rattle.apex_base.specs.declared.numbers.SessionId.{SessionId}
use Rattle.apex_base.specs.declared.records.Record.{Record}
use Rattle.apex_base.specs.Members.{In}
use Rattle.apex_base.specs.Sessions.{has_id, session_of, Ascend}
use Rattle.apex_base.proofs.SessionLemmas.{of_lt, of_eq, of_gt}

or_none : (b : Bool) → (b || false) ≡ b
or_none true = refl
or_none false = refl

module _ (id : SessionId) where
  has_alone : (r : Record) → r.children ≡ [] → has_id id r ≡ (r.id.0 == id.0)
  has_alone r none = rw none (or_none (r.id.0 == id.0))

  -- no later one has the id
  none_after : (xs : List Record) → ((r : Record) → In r xs → r.children ≡ [])
      → AllByRecursion (λ (r : Record). id.0 < r.id.0) xs → find (has_id id) xs ≡ None
  none_after [] alone high = refl
  none_after (x ∷ xs) alone high =
      let l = high.0 in
      rw (has_alone x (alone x (inl refl)), ne_eqb x.id.0 id.0 (λ e. omega (arith, l, e)))
      (none_after xs (λ r i. alone r (inr i)) high.1)

  above_all : (x : Record) → id.0 < x.id.0 → (xs : List Record)
      → AllByRecursion (λ (r : Record). x.id.0 < r.id.0) xs → AllByRecursion (λ (r : Record). id.0 < r.id.0) xs
  above_all x l [] a = tt
  above_all x l (y ∷ ys) a = let m = a.0 in (omega (arith, l, m), above_all x l ys a.1)

  passed : (x : Record) (xs : List Record) → x.children ≡ [] → x.id.0 ≢ id.0 → find (has_id id) (x ∷ xs) ≡ find (has_id id) xs
  passed x xs none apart = rw (has_alone x none, ne_eqb x.id.0 id.0 apart) refl

  here : (x : Record) (xs : List Record) → x.children ≡ [] → x.id.0 ≡ id.0 → find (has_id id) (x ∷ xs) ≡ Some x
  here x xs none e = rw (has_alone x none, eq-eqb x.id.0 id.0 e) refl

  pub found_alone : (xs : List Record) → Ascend xs → ((r : Record) → In r xs → r.children ≡ [])
      → find (has_id id) xs ≡ session_of xs id
  found_alone [] ascend alone = refl
  found_alone (x ∷ xs) ascend alone = elim (cases_order x.id.0 id.0) [
    | inl e ↦ here x xs (alone x (inl refl)) e ∙ sym (of_eq id x xs e)
    | inr o ↦ elim o [
      | inl l ↦ passed x xs (alone x (inl refl)) (λ e. omega (arith, l, e))
          ∙ found_alone xs ascend.1 (λ r i. alone r (inr i)) ∙ sym (of_lt id x xs l)
      | inr l ↦ passed x xs (alone x (inl refl)) (λ e. omega (arith, l, e))
          ∙ none_after xs (λ r i. alone r (inr i)) (above_all x l xs ascend.0) ∙ sym (of_gt id x xs l)
    ]
  ]
