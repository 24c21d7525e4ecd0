-- Commits and triggers keep what sessions kept. Callers want `committed_keeps` and `triggered_keeps`.
use Rattle.std.proofs.Common.{◌≡◌, ℕ, Bool, true, false, eqb, ◌&&◌, List, [], ◌∷◌, filter, Option, Some, None}
use Rattle.std.proofs.Common.{sym, ap, ◌∙◌, refl, inl, inr, arith}
use Rattle.std.specs.Prelude.{not}
use Rattle.std.proofs.lemmas.Bool.{and_parts, and_from, false≢true}
use Rattle.apex_base.specs.declared.numbers.SessionId.{SessionId}
use Rattle.apex_base.specs.declared.records.Record.{Record}
use Rattle.apex_base.specs.declared.records.RollbackState.{RollbackState}
use Rattle.apex_base.specs.declared.records.RollbackState.TheVariants.{Enabling, Available, Committed, Deleted}
use Rattle.apex_base.specs.Commit.{rollback_id, rolls_back, rollback_session, committed, undoes}
use Rattle.apex_base.specs.Held.{is_available, is_undoable, is_staged}
use Rattle.apex_base.specs.Members.{In}
use Rattle.apex_base.specs.Rollbacks.{is_committed, is_eligible}
use Rattle.apex_base.specs.Sessions.{session_of}
use Rattle.apex_base.proofs.SessionLemmas.{of_found, of_in}
use Rattle.apex_world.specs.declared.calls.Observer.{Observer}
use Rattle.apex_world.specs.declared.calls.ObserverKind.{ObserverKind}
use Rattle.apex_world.specs.declared.calls.ObserverKind.TheVariants.{Fixed, Rollback}
use Rattle.apex_world.specs.Lawful.{Lawful}
use Rattle.apex_world.specs.Rows.{is_staged_session, may_happen, has_snapshot, has_pre_restore}
use Rattle.apex_world.specs.Running.{Running}
use Rattle.apex_world.specs.Submit.{image_print}
use Rattle.apex_world.specs.Trigger.{acted, acting_among, commits, commit_all, triggered}
use Rattle.apex_world.specs.World.{World}
use Rattle.world_laws.proofs.runs.CommitKept.{kept_before}
use Rattle.world_laws.proofs.runs.CommitOne.{CommitsTo, Taken, GivesWay, Stays, leaves, members, was_so}
use Rattle.world_laws.proofs.runs.CommitRuns.{eligible_available, committed_running}
use Rattle.world_facts.proofs.facts.OpenedSessions.{one_session}
use Rattle.world_laws.proofs.alike.StagedSome.{staged_some}
use Rattle.world_laws.proofs.runs.TriggerRuns.{AreEligible, rest_eligible, filter_eligible}
use Rattle.world_facts.proofs.facts.WorldRows.{same_id}
use Rattle.world_laws.proofs.rows.KeptRows.{KeepsPast, KeepsRows, keeps_all, keeps_on}
use Rattle.world_laws.proofs.alike.MayHappen.{available_may, may_as_before, may_if_not_enabled}

-- a rollback that is available isn't committed
never_both : (o : Option RollbackState) → is_available o ≡ true → is_committed o ≡ true → ⊥
never_both None e f = absurd (cc)
never_both (Some Enabling) e f = absurd (cc)
never_both (Some Available) e f = absurd (cc)
never_both (Some Committed) e f = absurd (cc)
never_both (Some Deleted) e f = absurd (cc)

module _ (w : World) (law : Lawful w) (x : Record) (h : In x w.sessions) (e : is_available x.rollback ≡ true)
    (print : List ℕ) where
  abbrev ss : List Record
  ss = w.sessions

  abbrev after : List Record
  after = committed w.sessions x print

  -- who comes from one that was found was found by that id
  found_by : (id : SessionId) (r s : Record) → In r ss → CommitsTo x r s → s.id.0 ≡ id.0 → session_of ss id ≡ Some r
  found_by id r s i c same =
      ap (session_of ss) (sym (same_id r.id id (sym (ap (λ (id : SessionId). id.0) (leaves x r s c).kept.id) ∙ same)))
      ∙ of_in ss r law.ids.ascend i

  -- a rollback session that waits for the next boot has waited before
  ready_before : (r : Record) → In r ss → is_committed r.rollback ≡ true
      → is_staged_session (session_of after (rollback_id r.id)) ≡ true
      → is_staged_session (session_of ss (rollback_id r.id)) ≡ true
  ready_before r i c f =
      let (z, found, staged) = staged_some (session_of after (rollback_id r.id)) f in
      let (j, number) = of_found after (rollback_id r.id) z found in
      elim (members ss x print z j) [
        | inl made ↦
            let both : (rollback_id x.id).0 ≡ (rollback_id r.id).0 = ap (λ (z : Record). z.id.0) (sym made) ∙ number in
            let same : r ≡ x = one_session ss r x law.ids.ascend i h (omega (arith, both)) in
            absurd (never_both x.rollback e (ap (λ (r : Record). is_committed r.rollback) (sym same) ∙ c))
        | inr (q, k, to) ↦ ap is_staged_session (found_by (rollback_id r.id) q z k to number)
            ∙ was_so q z (leaves x q z to) is_staged refl staged
      ]

  may_same : (r : Record) → In r ss → may_happen after r.id r.rollback ≡ true
      → may_happen ss r.id r.rollback ≡ true
  may_same r i m = may_as_before ss after r.id r.rollback (ready_before r i) m

  -- a rollback that may happen after a commit might happen before it
  may_before : (r s : Record) → In r ss → CommitsTo x r s → may_happen after s.id s.rollback ≡ true
      → may_happen ss r.id r.rollback ≡ true
  may_before r s i (Taken same f) m =
      available_may ss r.id r.rollback
      (ap (λ (r : Record). is_available r.rollback) (one_session ss r x law.ids.ascend i h same) ∙ e)
  may_before r s i (GivesWay d wait f) m =
      may_same r i (may_if_not_enabled after r.id r.rollback
      (ap (λ (s : Record). may_happen after s.id s.rollback) (sym f) ∙ m))
  may_before r s i (Stays d g f) m =
      may_same r i (ap (λ (s : Record). may_happen after s.id s.rollback) (sym f) ∙ m)

  snapshot_before : (r s : Record) → In r ss → CommitsTo x r s → has_snapshot after s ≡ true
      → has_snapshot ss r ≡ true
  snapshot_before r s i c f =
      let l = leaves x r s c in
      let (first, m) = and_parts (rolls_back s.kind && not (eqb s.activation 0)) (may_happen after s.id s.rollback) f in
      and_from (rolls_back r.kind && not (eqb r.activation 0)) (may_happen ss r.id r.rollback)
      (ap (λ n. rolls_back r.kind && not (eqb n 0)) (sym l.activation)
      ∙ ap (λ k. rolls_back k && not (eqb s.activation 0)) (sym l.kept.kind) ∙ first) (may_before r s i c m)

  pre_restore_before : (r s : Record) → CommitsTo x r s → has_pre_restore s ≡ true → has_pre_restore r ≡ true
  pre_restore_before r s c f =
      let l = leaves x r s c in
      let (kind, u) = and_parts (undoes s.kind) (is_undoable s.state) f in
      and_from (undoes r.kind) (is_undoable r.state) (ap undoes (sym l.kept.kind) ∙ kind)
      (was_so r s l is_undoable refl u)

  past_before : (test test' : Record → Bool) → ((s : Record) → s ≡ rollback_session ss x print → test' s ≡ false)
      → ((r s : Record) → In r ss → CommitsTo x r s → test' s ≡ true → test r ≡ true) → (n : ℕ)
      → KeepsPast n ss after test test'
  past_before test test' none back n id s f p =
      let (i, number) = of_found after id s f in
      elim (members ss x print s i) [
        | inl made ↦ absurd (false≢true (sym (none s made) ∙ p))
        | inr (r, j, c) ↦
            let l = leaves x r s c in
            inr (record {
              old = r;
              found = found_by id r s j c number;
              parts = l.kept.parts;
              activation = l.activation;
              passes = back r s j c p;
            })
      ]

  -- a commit keeps what was kept
  pub committed_keeps : (n : ℕ) → KeepsRows n ss after
  committed_keeps n = record {
    modules = kept_before w law x h e print;
    snapshots = past_before (has_snapshot ss) (has_snapshot after) (λ s f. ap (has_snapshot after) f) snapshot_before n;
    pre_restores = past_before has_pre_restore has_pre_restore (λ s f. ap has_pre_restore f)
        (λ r s i c. pre_restore_before r s c) n;
  }

-- Commits one after another, and triggers

-- commits keep what was kept
pub all_keep : (n : ℕ) (xs : List Record) (w : World) → Running w → AreEligible w.sessions xs
    → KeepsRows n w.sessions (commit_all (image_print w.image) w.sessions xs)
all_keep n [] w run all = keeps_all n w.sessions
all_keep n (x ∷ xs) w run all =
    let (h, e) = all.each x (inl refl) in
    let print = image_print w.image in
    let after = committed w.sessions x print in
    keeps_on n w.sessions after (commit_all print after xs)
    (committed_keeps w run.lawful x h (eligible_available w.sessions x e) print n)
    (all_keep n xs (record w { sessions = after }) (committed_running w run x h e) (rest_eligible w run x h e xs all))

module _ (n : ℕ) (w : World) (run : Running w) (xs : List Record) (all : AreEligible w.sessions xs) where
  kind_keeps : (k : ObserverKind) → KeepsRows n w.sessions (commit_all (image_print w.image) w.sessions (commits xs k))
  kind_keeps (Fixed level) = keeps_all n w.sessions
  kind_keeps Rollback = all_keep n xs w run all

  acted_keeps : (o : Option Observer) → KeepsRows n w.sessions (acted w.sessions (image_print w.image) xs o).sessions
  acted_keeps None = keeps_all n w.sessions
  acted_keeps (Some o) = kind_keeps o.kind

-- a trigger keeps what was kept, whoever acts
pub triggered_keeps : (n : ℕ) (test : Record → Bool) (w : World) → Running w
    → ((x : Record) → test x ≡ true → is_eligible w.sessions x ≡ true) → (observers : List Observer)
    → KeepsRows n w.sessions (triggered w.sessions (image_print w.image) (filter test w.sessions) observers).sessions
triggered_keeps n test w run passes observers =
    acted_keeps n w run (filter test w.sessions) (filter_eligible test w run.lawful passes)
    (acting_among (filter test w.sessions) observers)
