-- Commits one after another, and triggers, keep worlds running. Callers want `all_running`, `triggered_running`,
-- `elsewhen_running`, `forgetting_running`, `looping_running` and `boot_running`.
use Rattle.std.proofs.Common.{◌≡◌, ◌≢◌, ℕ, ◌≤◌, ◌<◌, Bool, true, false, cond, ◌&&◌, List, [], ◌∷◌, filter, Option, Some}
use Rattle.std.proofs.Common.{None, sym, ap, subst, ◌∙◌, refl, inl, inr, arith}
use Rattle.std.specs.Prelude.{not}
use Rattle.std.specs.List.{list_any}
use Rattle.std.specs.Str.{bytes_eq}
use Rattle.std.proofs.lemmas.Bool.{and_parts, and_from, false≢true, false_from_ne_true}
use Rattle.apex_base.specs.declared.records.Part.{Part}
use Rattle.apex_base.specs.declared.records.Record.{Record}
use Rattle.apex_base.specs.Commit.{committed, after_commit}
use Rattle.apex_base.specs.Held.{is_undoable, is_available}
use Rattle.apex_base.specs.Members.{In, EachPair}
use Rattle.apex_base.specs.Ranges.{IsMillis}
use Rattle.apex_base.specs.Rollbacks.{is_eligible, is_in_use}
use Rattle.apex_base.specs.Sessions.{shares}
use Rattle.apex_base.specs.Windows.{is_looping}
use Rattle.apex_base.proofs.MemberLemmas.{any_in, in_any, each_in, in_filter}
use Rattle.apex_base.proofs.SumLemmas.{pairs_map}
use Rattle.apex_world.specs.declared.calls.BootOrder.{BootOrder}
use Rattle.apex_world.specs.declared.calls.Observer.{Observer}
use Rattle.apex_world.specs.declared.calls.ObserverKind.{ObserverKind}
use Rattle.apex_world.specs.declared.calls.ObserverKind.TheVariants.{Fixed, Rollback}
use Rattle.apex_world.specs.Boot.{loop_trigger, after_loop, started, boot_world}
use Rattle.apex_world.specs.Lawful.{Lawful}
use Rattle.apex_world.specs.Report.{failures_of}
use Rattle.apex_world.specs.Running.{Running}
use Rattle.apex_world.specs.Selection.{Mounts}
use Rattle.apex_world.specs.Submit.{image_print}
use Rattle.apex_world.specs.Trigger.{eligible, acted, acting_among, commits, commit_all, triggered}
use Rattle.apex_world.specs.World.{World, Failures, boots}
use Rattle.world_laws.proofs.runs.CommitOne.{CommitsTo, Taken, GivesWay, Stays, leaves, members, was_so, commits_to}
use Rattle.world_laws.proofs.runs.CommitOne.{stays_there}
use Rattle.world_laws.proofs.runs.CommitParts.{new_ids}
use Rattle.world_laws.proofs.runs.CommitPeers.{waits_never}
use Rattle.world_laws.proofs.runs.CommitRuns.{eligible_available, committed_running}
use Rattle.world_laws.proofs.meaning.CommitStays.{ascend_filter}

-- different sessions, each of which is there and can be committed
pub record AreEligible (ss xs : List Record) : Type 0 where
  pub different : EachPair (λ (x y : Record). x.id.0 ≢ y.id.0) xs
  pub each : (x : Record) → In x xs → In x ss × (is_eligible ss x ≡ true)

module _ (w : World) (run : Running w) (x : Record) (h : In x w.sessions) (e : is_eligible w.sessions x ≡ true) where
  abbrev law : Lawful w
  law = run.lawful

  abbrev print : List ℕ
  print = image_print w.image

  abbrev after : List Record
  after = committed w.sessions x print

  -- another available session stays as it is
  same_after : (y s : Record) → In y w.sessions → is_available y.rollback ≡ true → x.id.0 ≢ y.id.0 → CommitsTo x y s
      → s ≡ y
  same_after y s i a d (Taken same f) = absurd (d (sym same))
  same_after y s i a d (GivesWay apart wait f) = absurd (false≢true (sym (waits_never y.state wait).1
      ∙ (law.rollbacks.each y i).available a))
  same_after y s i a d (Stays apart g f) = f

  shares_before : (y r s : Record) → CommitsTo x r s → shares y s ≡ shares y r
  shares_before y r s c = ap (λ (ps : List Part). list_any (λ (p : Part).
      list_any (λ (q : Part). bytes_eq q.name p.name) ps) y.parts) (leaves x r s c).kept.parts

  used_before : (y : Record) → is_in_use after y ≡ true → is_in_use w.sessions y ≡ true
  used_before y u =
      let (s, i, both) = any_in (λ (s : Record). is_undoable s.state && shares y s) after u in
      let (undoable, sharing) = and_parts (is_undoable s.state) (shares y s) both in
      elim (members w.sessions x print s i) [
        | inl f ↦ absurd (false≢true (ap (λ (r : Record). is_undoable r.state) (sym f) ∙ undoable))
        | inr (r, j, c) ↦ in_any (λ (s : Record). is_undoable s.state && shares y s) r w.sessions j
            (and_from (is_undoable r.state) (shares y r) (was_so r s (leaves x r s c) is_undoable refl undoable)
            (sym (shares_before y r s c) ∙ sharing))
      ]

  not_used_after : (y : Record) → not (is_in_use w.sessions y) ≡ true → not (is_in_use after y) ≡ true
  not_used_after y free = ap not (false_from_ne_true (is_in_use after y)
      (λ u. false≢true (ap not (sym (used_before y u)) ∙ free)))

  still_eligible : (y : Record) → In y w.sessions → is_eligible w.sessions y ≡ true → x.id.0 ≢ y.id.0
      → In y after × (is_eligible after y ≡ true)
  still_eligible y i f d =
      let both = and_parts (is_available y.rollback) (not (is_in_use w.sessions y)) f in
      let stays : after_commit x y ≡ y = same_after y (after_commit x y) i both.0 d (commits_to x y) in (
        subst (λ (s : Record). In s after) stays
            (stays_there w.sessions x print (new_ids w law x h (eligible_available w.sessions x e)) y i),
        and_from (is_available y.rollback) (not (is_in_use after y)) both.0 (not_used_after y both.1),
      )

  -- after one commit the others can still be committed
  pub rest_eligible : (xs : List Record) → AreEligible w.sessions (x ∷ xs) → AreEligible after xs
  rest_eligible xs all = record {
    different = all.different.1;
    each = λ y i.
        let (j, f) = all.each y (inr i) in
        still_eligible y j f (each_in (λ (y : Record). x.id.0 ≢ y.id.0) xs all.different.0 y i);
  }

-- any number of commits, each of another session
pub all_running : (xs : List Record) (w : World) → Running w → AreEligible w.sessions xs
    → Running (record w { sessions = commit_all (image_print w.image) w.sessions xs })
all_running [] w run all = run
all_running (x ∷ xs) w run all =
    let (h, e) = all.each x (inl refl) in
    all_running xs (record w { sessions = committed w.sessions x (image_print w.image) }) (committed_running w run x h e)
    (rest_eligible w run x h e xs all)

-- those that pass a test
pub filter_eligible : (test : Record → Bool) (w : World) → Lawful w
    → ((x : Record) → test x ≡ true → is_eligible w.sessions x ≡ true)
    → AreEligible w.sessions (filter test w.sessions)
filter_eligible test w law passes = record {
  different = pairs_map (λ (x y : Record). x.id.0 < y.id.0) (λ (x y : Record). x.id.0 ≢ y.id.0)
      (λ x y l e. absurd (omega (arith, l, e))) (filter test w.sessions) (ascend_filter test w.sessions law.ids.ascend);
  each = λ x h. let (i, e) = in_filter test x w.sessions h in (i, passes x e);
}

module _ (w : World) (run : Running w) (xs : List Record) (all : AreEligible w.sessions xs) where
  kind_running : (k : ObserverKind)
      → Running (record w { sessions = commit_all (image_print w.image) w.sessions (commits xs k) })
  kind_running (Fixed level) = run
  kind_running Rollback = all_running xs w run all

  acted_running : (o : Option Observer)
      → Running (record w { sessions = (acted w.sessions (image_print w.image) xs o).sessions })
  acted_running None = run
  acted_running (Some o) = kind_running o.kind

  eligible_running : (observers : List Observer)
      → Running (record w { sessions = (triggered w.sessions (image_print w.image) xs observers).sessions })
  eligible_running observers = acted_running (acting_among xs observers)

-- a trigger, whoever acts
pub triggered_running : (test : Record → Bool) (w : World) → Running w
    → ((x : Record) → test x ≡ true → is_eligible w.sessions x ≡ true) → (observers : List Observer)
    → Running (record w {
      sessions = (triggered w.sessions (image_print w.image) (filter test w.sessions) observers).sessions;
    })
triggered_running test w run passes observers =
    eligible_running w run (filter test w.sessions) (filter_eligible test w run.lawful passes) observers

-- Other moments, another clock and other failures
pub elsewhen_running : (w : World) → Running w → (moments : List ℕ) → ((m : ℕ) → In m moments → IsMillis m)
    → (boots w ≡ 0 → moments ≡ []) → (clock : ℕ) → IsMillis clock → (failures : Failures)
    → ((name : List ℕ) → EachPair (λ m n. m ≤ n) (failures_of failures name))
    → ((name : List ℕ) (m : ℕ) → In m (failures_of failures name) → m ≤ clock)
    → Running (record w { moments = moments; clock = clock; failures = failures })
elsewhen_running w run moments are_ranged begun clock ranged failures sorted past =
    let law = run.lawful in
    record {
      lawful = record {
        ranges = record {
          sessions = law.ranges.sessions;
          modules = law.ranges.modules;
          contents = law.ranges.contents;
          eras = law.ranges.eras;
          moments = are_ranged;
          watches = law.ranges.watches;
          ends = law.ranges.ends;
          boots = law.ranges.boots;
          clock = ranged;
          image = law.ranges.image;
          observers = law.ranges.observers;
        };
        ids = law.ids;
        parts = law.parts;
        alone = law.alone;
        activations = law.activations;
        causes = law.causes;
        rollbacks = law.rollbacks;
        undone = law.undone;
        modules = record {
          kept = λ session part version h.
              let k = law.modules.kept session part version h in
              record { content = k.content; name = k.name; there = k.there; checks = k.checks; says = k.says };
          distinct = law.modules.distinct;
          owned = law.modules.owned;
        };
        bounds = record {
          units = law.bounds.units;
          weight = law.bounds.weight;
          contents = law.bounds.contents;
          eras = law.bounds.eras;
          undoable = law.bounds.undoable;
          available = law.bounds.available;
          waiting = law.bounds.waiting;
          watches = law.bounds.watches;
        };
        begun = begun;
      };
      image = run.image;
      sessions = run.sessions;
      contents = run.contents;
      watches = run.watches;
      observers = run.observers;
      sorted = sorted;
      past = past;
    }

-- the moments of boots can be forgotten
pub forgetting_running : (w : World) → Running w → Running (record w { moments = [] })
forgetting_running w run =
    elsewhen_running w run [] (λ m h. absurd h) (λ e. refl) w.clock run.lawful.ranges.clock w.failures run.sorted
    run.past

-- a boot loop: a trigger for all rollbacks, after which the moments are forgotten
pub looping_running : (w : World) → Running w → (observers : List Observer)
    → Running (record w {
      sessions = (triggered w.sessions (image_print w.image) (eligible w.sessions) observers).sessions;
      moments = [];
    })
looping_running w run observers =
    let acting = triggered_running (is_eligible w.sessions) w run (λ x e. e) observers in
    forgetting_running _ acting

module _ (w : World) (order : BootOrder) (mounts : Mounts) (run : Running (started w order mounts)) where
  loop_if : (b : Bool) → Running (after_loop (started w order mounts)
      (cond b (Some (loop_trigger order (started w order mounts).sessions)) None))
  loop_if true = looping_running (started w order mounts) run order.observers
  loop_if false = run

  -- a boot leads to a world that runs, if what it started does
  pub boot_running : Running (boot_world w order mounts)
  boot_running = loop_if (is_looping order.time (started w order mounts).moments)
