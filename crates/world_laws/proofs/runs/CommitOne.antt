-- What the commit of a rollback makes of one session, and who is there afterwards. Callers want `CommitsTo`, `Leaves`,
-- `leaves`, `members`, `stays_there` and `found_after`.
use Rattle.std.proofs.Common.{◌≡◌, ◌≢◌, ◌⊎◌, ℕ, Bool, true, false, cond, List, map, Some, sym, ap, subst, ◌∙◌}
use Rattle.std.proofs.Common.{refl, inl, inr, eqb}
use Rattle.std.specs.Option.{option_map}
use Rattle.std.proofs.lemmas.Bool.{and_parts, false≢true, eqb-true, eq-eqb}
use Rattle.apex_base.specs.declared.numbers.SessionId.{SessionId}
use Rattle.apex_base.specs.declared.records.Record.{Record}
use Rattle.apex_base.specs.declared.records.RollbackState.TheVariants as rollbacks
use Rattle.apex_base.specs.declared.records.State.{State}
use Rattle.apex_base.specs.declared.records.State.TheVariants as state
use Rattle.apex_base.specs.Commit.{is_waiting, is_superseded, superseded, rollback_id, rollback_session, after_commit}
use Rattle.apex_base.specs.Commit.{committed}
use Rattle.apex_base.specs.Members.{In}
use Rattle.apex_base.specs.Sessions.{session_of, shares}
use Rattle.apex_base.proofs.MemberLemmas.{in_map, in_map_back}
use Rattle.apex_base.proofs.SessionLemmas.{with_any, with_others, of_found, of_other, of_map}
use Rattle.world_facts.specs.Follows.{IsKeptAs}
use Rattle.world_facts.proofs.facts.LeadsLemmas.{changed, same, new_id}
use Rattle.world_facts.proofs.facts.NewIds.{AreNew}

-- its rollback is committed, it gives way, or it stays
pub data CommitsTo (x r s : Record) : Type 0 where
  Taken : r.id.0 ≡ x.id.0 → s ≡ record r { rollback = Some rollbacks.Committed } → CommitsTo x r s
  GivesWay : r.id.0 ≢ x.id.0 → is_waiting r.state ≡ true → s ≡ superseded (rollback_id x.id) r → CommitsTo x r s
  Stays : r.id.0 ≢ x.id.0 → is_superseded x r ≡ false → s ≡ r → CommitsTo x r s

module _ (x r : Record) where
  apart_if : eqb r.id.0 x.id.0 ≡ false → r.id.0 ≢ x.id.0
  apart_if e same_id = false≢true (sym e ∙ eq-eqb r.id.0 x.id.0 same_id)

  commits_if : (b c : Bool) → eqb r.id.0 x.id.0 ≡ b → is_superseded x r ≡ c
      → CommitsTo x r (cond b (record r { rollback = Some rollbacks.Committed })
      (cond c (superseded (rollback_id x.id) r) r))
  commits_if true c e f = Taken (eqb-true r.id.0 x.id.0 e) refl
  commits_if false true e f = GivesWay (apart_if e) (and_parts (is_waiting r.state) (shares x r) f).0 refl
  commits_if false false e f = Stays (apart_if e) f refl

  -- one of these it is
  pub commits_to : CommitsTo x r (after_commit x r)
  commits_to = commits_if (eqb r.id.0 x.id.0) (is_superseded x r) refl refl

-- what each of them leaves of a session
pub record Leaves (r s : Record) : Type 0 where
  pub kept : IsKeptAs r s
  pub activation : s.activation ≡ r.activation
  pub moment : s.moment ≡ r.moment
  pub goes : (s.state ≡ r.state) ⊎ ((is_waiting r.state ≡ true) × (s.state ≡ state.ActivationFailed))

leaves_all : (r : Record) → Leaves r r
leaves_all r = record { kept = same r; activation = refl; moment = refl; goes = inl refl }

leaves_taken : (r : Record) → Leaves r (record r { rollback = Some rollbacks.Committed })
leaves_taken r = record {
  kept = changed r;
  activation = refl;
  moment = refl;
  goes = inl refl;
}

leaves_failed : (new : SessionId) (r : Record) → is_waiting r.state ≡ true → Leaves r (superseded new r)
leaves_failed new r e = record {
  kept = changed r;
  activation = refl;
  moment = refl;
  goes = inr (e, refl);
}

-- this much each of them leaves
pub leaves : (x r s : Record) → CommitsTo x r s → Leaves r s
leaves x r s (Taken e f) = subst (Leaves r) (sym f) (leaves_taken r)
leaves x r s (GivesWay d e f) = subst (Leaves r) (sym f) (leaves_failed (rollback_id x.id) r e)
leaves x r s (Stays d e f) = subst (Leaves r) (sym f) (leaves_all r)

module _ (r s : Record) (l : Leaves r s) where
  -- what isn't so of a session that failed was so before
  pub was_so : (f : State → Bool) → f state.ActivationFailed ≡ false → f s.state ≡ true → f r.state ≡ true
  was_so f never e =
      elim l.goes [
        | inl g ↦ ap f (sym g) ∙ e
        | inr (w, g) ↦ absurd (false≢true (sym never ∙ ap f (sym g) ∙ e))
      ]

  -- what isn't so of a session that waits stays so
  pub still_so : (f : State → Bool) → (is_waiting r.state ≡ true → f r.state ≡ false) → f r.state ≡ true
      → f s.state ≡ true
  still_so f never e =
      elim l.goes [
        | inl g ↦ ap f g ∙ e
        | inr (w, g) ↦ absurd (false≢true (sym (never w) ∙ e))
      ]

-- Who is there after a commit

module _ (ss : List Record) (x : Record) (print : List ℕ) where
  -- the session that is made, and what has become of the others
  abbrev pub made : Record
  made = rollback_session ss x print

  abbrev pub others : List Record
  others = map (after_commit x) ss

  -- who is there was made, or comes from one who was
  pub members : (s : Record) → In s (committed ss x print)
      → (s ≡ made) ⊎ ((r : Record) × In r ss × CommitsTo x r s)
  members s h =
      elim (with_any made others s h) [
        | inl e ↦ inl e
        | inr i ↦ let (r, j, e) = in_map_back (after_commit x) s ss i in
            inr (r, j, subst (CommitsTo x r) e (commits_to x r))
      ]

  module _ (fresh : AreNew ss x) where
    -- nobody had the id of the session that is made
    pub made_apart : (r : Record) → In r ss → r.id.0 ≢ made.id.0
    made_apart r h = new_id ss made r fresh h

    -- a commit changes no id
    pub same_number : (r : Record) → (after_commit x r).id.0 ≡ r.id.0
    same_number r = ap (λ (id : SessionId). id.0) (leaves x r (after_commit x r) (commits_to x r)).kept.id

    -- each session is there in its new state
    pub stays_there : (r : Record) → In r ss → In (after_commit x r) (committed ss x print)
    stays_there r h = with_others made others (after_commit x r) (in_map (after_commit x) r ss h)
        (λ e. made_apart r h (sym (same_number r) ∙ e))

    -- and it is found by its id
    pub found_after : (id : SessionId) (r : Record) → session_of ss id ≡ Some r
        → session_of (committed ss x print) id ≡ Some (after_commit x r)
    found_after id r e =
        let (h, is) = of_found ss id r e in
        of_other made others id (λ f. made_apart r h (is ∙ sym f))
        ∙ of_map (after_commit x) ss id (λ r. (leaves x r (after_commit x r) (commits_to x r)).kept.id)
        ∙ ap (option_map (after_commit x)) e
