-- Commits leave each session that a boot has settled. Callers want `trigger_lasts` and what `Lasts` says.
use Rattle.std.proofs.Common.{◌≡◌, ◌≢◌, ◌⊎◌, ℕ, Bool, true, false, cond, List, [], ◌∷◌, map, Option}
use Rattle.std.proofs.Common.{Some, None, sym, ap, subst, ◌∙◌, refl, inl, inr, eqb}
use Rattle.std.specs.Option.{option_map}
use Rattle.std.proofs.lemmas.Bool.{and_parts, false≢true}
use Rattle.apex_base.specs.declared.numbers.SessionId.{SessionId}
use Rattle.apex_base.specs.declared.records.Record.{Record}
use Rattle.apex_base.specs.declared.records.RollbackState.TheVariants as rollbacks
use Rattle.apex_base.specs.declared.records.State.{State}
use Rattle.apex_base.specs.declared.records.State.TheVariants as state
use Rattle.apex_base.specs.Commit.{is_waiting, is_superseded, superseded, rollback_id, rollback_session, after_commit}
use Rattle.apex_base.specs.Commit.{committed}
use Rattle.apex_base.specs.Held.{is_standing, candidate, held}
use Rattle.apex_base.specs.Members.{In}
use Rattle.apex_base.specs.Sessions.{session_of, shares}
use Rattle.apex_base.proofs.MemberLemmas.{in_map_back}
use Rattle.apex_base.proofs.SessionLemmas.{with_any, of_found, of_other, of_map}
use Rattle.apex_world.specs.declared.calls.Observer.{Observer}
use Rattle.apex_world.specs.declared.calls.ObserverKind.{ObserverKind}
use Rattle.apex_world.specs.declared.calls.ObserverKind.TheVariants.{Fixed, Rollback}
use Rattle.apex_world.specs.Trigger.{acted, acting_among, commits, commit_all, triggered}
use Rattle.world_laws.proofs.meaning.HeldLemmas.{stands_for, held_beside, held_map}

-- the state of a session that no commit touches
abbrev pub lasts : State → Bool
lasts state.Verified = false
lasts state.Staged = false
lasts state.Activated = true
lasts state.ActivationFailed = false
lasts state.Success = true
lasts state.RevertInProgress = true
lasts state.Reverted = true
lasts state.Aborted = true

pub record IsSameAs (r s : Record) : Type 0 where
  pub id : s.id ≡ r.id
  pub parts : s.parts ≡ r.parts
  pub state : s.state ≡ r.state

-- sessions that last are the same after a change as before it, and hold the same
pub record Lasts (ss after : List Record) : Type 0 where
  pub back : (s : Record) → In s after → lasts s.state ≡ true → (r : Record) × In r ss × IsSameAs r s
  pub forth : (r : Record) (id : SessionId) → session_of ss id ≡ Some r → lasts r.state ≡ true
      → (s : Record) × (session_of after id ≡ Some s) × IsSameAs r s
  pub held : (name : List ℕ) → held after name ≡ held ss name

same : (r : Record) → IsSameAs r r
same r = record { id = refl; parts = refl; state = refl }

same_on : (r s t : Record) → IsSameAs r s → IsSameAs s t → IsSameAs r t
same_on r s t k l = record { id = l.id ∙ k.id; parts = l.parts ∙ k.parts; state = l.state ∙ k.state }

pub lasts_same : (ss : List Record) → Lasts ss ss
lasts_same ss = record { back = λ s h l. (s, h, same s); forth = λ r id e l. (r, e, same r); held = λ name. refl }

lasts_on : (ss ts us : List Record) → Lasts ss ts → Lasts ts us → Lasts ss us
lasts_on ss ts us a b = record {
  back = λ u h l. let (t, i, k) = b.back u h l in let (s, j, m) = a.back t i (ap lasts (sym k.state) ∙ l) in
      (s, j, same_on s t u m k);
  forth = λ r id e l. let (t, i, k) = a.forth r id e l in let (u, j, m) = b.forth t id i (ap lasts k.state ∙ l) in
      (u, j, same_on r t u k m);
  held = λ name. b.held name ∙ a.held name;
}

waits_not : (s : State) → is_waiting s ≡ true → (lasts s ≡ false) × (is_standing s ≡ false)
waits_not state.Verified e = (refl, refl)
waits_not state.Staged e = (refl, refl)
waits_not state.Activated e = absurd (cc)
waits_not state.ActivationFailed e = absurd (cc)
waits_not state.Success e = absurd (cc)
waits_not state.RevertInProgress e = absurd (cc)
waits_not state.Reverted e = absurd (cc)
waits_not state.Aborted e = absurd (cc)

stands_last : (s : State) → lasts s ≡ false → is_standing s ≡ false
stands_last state.Verified e = refl
stands_last state.Staged e = refl
stands_last state.Activated e = absurd (cc)
stands_last state.ActivationFailed e = refl
stands_last state.Success e = absurd (cc)
stands_last state.RevertInProgress e = absurd (cc)
stands_last state.Reverted e = absurd (cc)
stands_last state.Aborted e = absurd (cc)

-- One session at a commit

pub record Commits (r s : Record) : Type 0 where
  pub id : s.id ≡ r.id
  -- it stays, or it waited and has failed
  pub goes : (s.parts ≡ r.parts) × ((s.state ≡ r.state)
      ⊎ ((is_waiting r.state ≡ true) × (s.state ≡ state.ActivationFailed)))
  pub stands : (name : List ℕ) → stands_for name s ≡ stands_for name r

quiet : (name : List ℕ) (r : Record) → is_standing r.state ≡ false → stands_for name r ≡ None
quiet name r e = ap (λ (b : Bool). candidate b name r) e

fails_if : (b : Bool) (x r : Record) → is_superseded x r ≡ b → Commits r (cond b (superseded (rollback_id x.id) r) r)
fails_if false x r e = record { id = refl; goes = (refl, inl refl); stands = λ name. refl }
fails_if true x r e = let w = (and_parts (is_waiting r.state) (shares x r) e).0 in record {
  id = refl;
  goes = (refl, inr (w, refl));
  stands = λ name. sym (quiet name r (waits_not r.state w).1);
}

commits_if : (b : Bool) (x r : Record) → Commits r
    (cond b (record r { rollback = Some rollbacks.Committed })
    (cond (is_superseded x r) (superseded (rollback_id x.id) r) r))
commits_if true x r = record { id = refl; goes = (refl, inl refl); stands = λ name. refl }
commits_if false x r = fails_if (is_superseded x r) x r refl

pub commits_one : (x r : Record) → Commits r (after_commit x r)
commits_one x r = commits_if (eqb r.id.0 x.id.0) x r

commits_back : (r s : Record) → Commits r s → lasts s.state ≡ true → IsSameAs r s
commits_back r s c l =
    elim c.goes.1 [
      | inl e ↦ record { id = c.id; parts = c.goes.0; state = e }
      | inr (w, e) ↦ absurd (false≢true (sym (ap lasts e) ∙ l))
    ]

commits_forth : (r s : Record) → Commits r s → lasts r.state ≡ true → IsSameAs r s
commits_forth r s c l =
    elim c.goes.1 [
      | inl e ↦ record { id = c.id; parts = c.goes.0; state = e }
      | inr (w, e) ↦ absurd (false≢true (sym (waits_not r.state w).0 ∙ l))
    ]

commits_lost : (r s : Record) → Commits r s → lasts r.state ≡ false → lasts s.state ≡ false
commits_lost r s c l =
    elim c.goes.1 [
      | inl e ↦ ap lasts e ∙ l
      | inr (w, e) ↦ ap lasts e
    ]

-- A commit

-- no session that lasts has the id that the commit of x gives to its session
abbrev pub Clear : List Record → Record → Type 0
Clear ss x = (r : Record) → In r ss → r.id.0 ≡ (rollback_id x.id).0 → lasts r.state ≡ false

module _ (ss : List Record) (x : Record) (print : List ℕ) where
  abbrev new : Record
  new = rollback_session ss x print

  abbrev rest : List Record
  rest = map (after_commit x) ss

  clear_rest : (y : Record) → Clear ss y → Clear rest y
  clear_rest y clear s h e =
      let (r, i, f) = in_map_back (after_commit x) s ss h in
      let c : Commits r s = subst (Commits r) f (commits_one x r) in
      commits_lost r s c (clear r i (ap (λ (id : SessionId). id.0) (sym c.id) ∙ e))

  -- it stays so
  pub clear_after : (y : Record) → Clear ss y → Clear (committed ss x print) y
  clear_after y clear s h e =
      elim (with_any new rest s h) [
        | inl f ↦ ap (λ (r : Record). lasts r.state) f
        | inr i ↦ clear_rest y clear s i e
      ]

  back_from : (s : Record) → lasts s.state ≡ true → (s ≡ new) ⊎ In s rest → (r : Record) × In r ss × IsSameAs r s
  back_from s l (inl e) = absurd (false≢true (sym (ap (λ (r : Record). lasts r.state) e) ∙ l))
  back_from s l (inr h) =
      let (r, i, f) = in_map_back (after_commit x) s ss h in
      (r, i, commits_back r s (subst (Commits r) f (commits_one x r)) l)

  forth_if : Clear ss x → (r : Record) (id : SessionId) → session_of ss id ≡ Some r → lasts r.state ≡ true
      → (s : Record) × (session_of (committed ss x print) id ≡ Some s) × IsSameAs r s
  forth_if clear r id e l =
      let (among, is) = of_found ss id r e in
      let apart : new.id.0 ≢ id.0 = λ f. absurd (false≢true (sym (clear r among (is ∙ sym f)) ∙ l)) in (
        after_commit x r,
        of_other new rest id apart ∙ of_map (after_commit x) ss id (λ r. (commits_one x r).id)
            ∙ ap (option_map (after_commit x)) e,
        commits_forth r (after_commit x r) (commits_one x r) l,
      )

  -- a commit leaves the sessions that last, and what is held
  pub commit_lasts : Clear ss x → Lasts ss (committed ss x print)
  commit_lasts clear = record {
    back = λ s h l. back_from s l (with_any new rest s h);
    forth = forth_if clear;
    held = λ name. held_beside name new rest refl (λ r h e. quiet name r
        (stands_last r.state (clear_rest x clear r h e)))
        ∙ held_map name (after_commit x) ss (λ r h. (commits_one x r).stands name);
  }

-- Commits one after another

pub all_last : (print : List ℕ) (xs ss : List Record) → ((x : Record) → In x xs → Clear ss x)
    → Lasts ss (commit_all print ss xs)
all_last print [] ss clear = lasts_same ss
all_last print (x ∷ xs) ss clear =
    lasts_on ss (committed ss x print) (commit_all print (committed ss x print) xs)
    (commit_lasts ss x print (clear x (inl refl)))
    (all_last print xs (committed ss x print) (λ y h. clear_after ss x print y (clear y (inr h))))

kind_lasts : (ss : List Record) (print : List ℕ) (xs : List Record) → ((x : Record) → In x xs → Clear ss x)
    → (k : ObserverKind) → Lasts ss (commit_all print ss (commits xs k))
kind_lasts ss print xs clear (Fixed level) = lasts_same ss
kind_lasts ss print xs clear Rollback = all_last print xs ss clear

acted_lasts : (ss : List Record) (print : List ℕ) (xs : List Record) → ((x : Record) → In x xs → Clear ss x)
    → (o : Option Observer) → Lasts ss (acted ss print xs o).sessions
acted_lasts ss print xs clear None = lasts_same ss
acted_lasts ss print xs clear (Some o) = kind_lasts ss print xs clear o.kind

pub trigger_lasts : (ss : List Record) (print : List ℕ) (xs : List Record) (os : List Observer)
    → ((x : Record) → In x xs → Clear ss x) → Lasts ss (triggered ss print xs os).sessions
trigger_lasts ss print xs os clear = acted_lasts ss print xs clear (acting_among xs os)
