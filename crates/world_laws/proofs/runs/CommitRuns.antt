-- The commit of a rollback keeps a world running. Callers want `committed_running`, `eligible_available` and
-- `eligible_free`.
use Rattle.std.proofs.Common.{◌≡◌, ℕ, ◌≤◌, Bool, true, false, ◌&&◌, ◌||◌, IsTrue, IfSome, is_some, List}
use Rattle.std.proofs.Common.{Option, Some, None, sym, ap, subst, ◌∙◌, refl, inl, inr}
use Rattle.std.specs.Prelude.{not}
use Rattle.std.proofs.lemmas.Bool.{and_parts, and_from, or_cases, or_left, or_right, false≢true}
use Rattle.apex_base.specs.declared.numbers.Scale.{Scale}
use Rattle.apex_base.specs.declared.records.Record.{Record}
use Rattle.apex_base.specs.Commit.{committed, undoes}
use Rattle.apex_base.specs.Held.{is_unfinished, is_undoable, is_available, is_staged}
use Rattle.apex_base.specs.Members.{In}
use Rattle.apex_base.specs.Numbers.{scale_modules}
use Rattle.apex_base.specs.Rollbacks.{is_eligible, is_in_use}
use Rattle.apex_base.specs.Sessions.{names, shares}
use Rattle.apex_base.specs.Text.{is_print}
use Rattle.apex_base.proofs.Finding.{is_there}
use Rattle.apex_base.proofs.MemberLemmas.{in_any}
use Rattle.apex_world.specs.declared.calls.Image.{Image}
use Rattle.apex_world.specs.Bounds.{can_be_rolled_back, is_ready_rollback, name_count}
use Rattle.apex_world.specs.Lawful.{Lawful, IsRunningImage}
use Rattle.apex_world.specs.Running.{Running, is_activated, is_of_image, runs}
use Rattle.apex_world.specs.Submit.{image_print, in_running}
use Rattle.apex_world.specs.World.{World}
use Rattle.world_laws.proofs.runs.CommitKept.{commit_modules, commit_bounds}
use Rattle.world_laws.proofs.runs.CommitOne.{leaves, members, was_so}
use Rattle.world_laws.proofs.runs.CommitParts.{commit_ids, commit_parts, commit_ranges}
use Rattle.world_laws.proofs.runs.CommitPeers.{IsFree, commit_alone, commit_activations, commit_causes, same_names}
use Rattle.world_laws.proofs.runs.CommitPeers.{named_before}
use Rattle.world_laws.proofs.runs.CommitRollbacks.{commit_rollbacks, was_available}
use Rattle.world_laws.proofs.runs.CommitUndone.{commit_undone}
use Rattle.world_laws.proofs.runs.NameCounts.{names_within}
use Rattle.world_facts.proofs.facts.StateFacts.{staged_unfinished}
use Rattle.world_laws.proofs.runs.RunningLemmas.{ranges_with}

ready_unfinished : (r : Record) → is_ready_rollback r ≡ true → is_unfinished r.state ≡ true
ready_unfinished r e = staged_unfinished r.state (and_parts (undoes r.kind) (is_staged r.state) e).1

not_both : (b : Bool) → not b ≡ true → b ≡ true → ⊥
not_both true e f = false≢true e
not_both false e f = false≢true f

-- what can be committed is available
pub eligible_available : (ss : List Record) (x : Record) → is_eligible ss x ≡ true → is_available x.rollback ≡ true
eligible_available ss x e = (and_parts (is_available x.rollback) (not (is_in_use ss x)) e).0

-- and no session that can be undone shares a name with it
pub eligible_free : (ss : List Record) (x : Record) → is_eligible ss x ≡ true → IsFree ss x
eligible_free ss x e r h u s =
    not_both (is_in_use ss x) (and_parts (is_available x.rollback) (not (is_in_use ss x)) e).1
    (in_any (λ (r : Record). is_undoable r.state && shares x r) r ss h
    (and_from (is_undoable r.state) (shares x r) u s))

-- the fingerprint of what runs
running_print : (scale : Scale) (o : Option Image) → is_some o ≡ true → IfSome o (IsRunningImage scale)
    → IsTrue (is_print (image_print o))
running_print scale None e is = absurd (false≢true e)
running_print scale (Some image) e is = is.print

module _ (w : World) (run : Running w) (x : Record) (h : In x w.sessions) (e : is_eligible w.sessions x ≡ true) where
  abbrev law : Lawful w
  law = run.lawful

  abbrev print : List ℕ
  print = image_print w.image

  abbrev after : List Record
  after = committed w.sessions x print

  available : is_available x.rollback ≡ true
  available = eligible_available w.sessions x e

  -- the image has the names of what may happen
  names_run : (s : Record) (name : List ℕ) → In s after → is_of_image s ≡ true → names name s ≡ true
      → runs w name ≡ true
  names_run s name i u n =
      elim (members w.sessions x print s i) [
        | inl f ↦ run.sessions x name h (or_right (is_activated x.state) (can_be_rolled_back x || is_ready_rollback x)
            (or_left (can_be_rolled_back x) (is_ready_rollback x) available))
            (sym (same_names w.sessions x print name) ∙ ap (names name) (sym f) ∙ n)
        | inr (r, j, c) ↦
            let l = leaves x r s c in
            run.sessions r name j (elim (or_cases (is_activated s.state) (can_be_rolled_back s || is_ready_rollback s)
            u) [
              | inl a ↦ or_left (is_activated r.state) (can_be_rolled_back r || is_ready_rollback r)
                  (was_so r s l is_activated refl a)
              | inr b ↦ or_right (is_activated r.state) (can_be_rolled_back r || is_ready_rollback r)
                  (elim (or_cases (can_be_rolled_back s) (is_ready_rollback s) b) [
                    | inl a ↦ or_left (can_be_rolled_back r) (is_ready_rollback r) (was_available x r s c a)
                    | inr g ↦
                        let both = and_parts (undoes s.kind) (is_staged s.state) g in
                        or_right (can_be_rolled_back r) (is_ready_rollback r) (and_from (undoes r.kind)
                        (is_staged r.state) (ap undoes (sym l.kept.kind) ∙ both.0)
                        (was_so r s l is_staged refl both.1))
                  ])
            ]) (named_before r s name l n)
      ]

  few_waiting : name_count is_ready_rollback after ≤ scale_modules w.scale
  few_waiting =
      let (image, there) = is_there w.image run.image in
      let is : IsRunningImage w.scale image =
      subst (λ (o : Option Image). IfSome o (IsRunningImage w.scale)) there law.ranges.image in
      names_within is_ready_rollback after w.scale image is.modules (commit_ids w law x h available print).ascend
      (record {
        each = λ r i u. (commit_parts w law x h available print r i).names;
        peers = λ r s name i j d n m u v. commit_alone w law x h available print (eligible_free w.sessions x e) r s name
            i j d n m (ready_unfinished r u) (ready_unfinished s v);
      })
      (λ r name i u n.
      ap (λ (o : Option Image). is_some (in_running o name)) (sym there)
      ∙ names_run r name i (or_right (is_activated r.state) (can_be_rolled_back r || is_ready_rollback r)
      (or_right (can_be_rolled_back r) (is_ready_rollback r) u)) n)

  committed_lawful : Lawful (record w { sessions = after })
  committed_lawful = record {
    ranges = ranges_with w law.ranges after w.modules w.clock
        (commit_ranges w law x h available print (running_print w.scale w.image run.image law.ranges.image))
        law.ranges.modules law.ranges.clock;
    ids = commit_ids w law x h available print;
    parts = commit_parts w law x h available print;
    alone = commit_alone w law x h available print (eligible_free w.sessions x e);
    activations = commit_activations w law x h available print;
    causes = commit_causes w law x h available print;
    rollbacks = commit_rollbacks w law x h available print;
    undone = commit_undone w law x h available print;
    modules = commit_modules w law x h available print;
    bounds = commit_bounds w law x h available print few_waiting;
    begun = law.begun;
  }

  -- the commit of an eligible rollback keeps a world running
  pub committed_running : Running (record w { sessions = committed w.sessions x (image_print w.image) })
  committed_running = record {
    lawful = committed_lawful;
    image = run.image;
    sessions = λ r name i u n. names_run r name i u n;
    contents = run.contents;
    watches = run.watches;
    observers = run.observers;
    sorted = run.sorted;
    past = run.past;
  }
