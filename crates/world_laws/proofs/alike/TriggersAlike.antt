-- Triggers and reports in worlds that are alike. Callers want `triggered_alike` and `report_alike`.
use Rattle.std.proofs.Common.{◌≡◌, ℕ, ◌≤◌, Bool, true, false, cond, List, [], ◌∷◌, ◌++◌, filter, max, Option, Some}
use Rattle.std.proofs.Common.{None, sym, ap, ◌∙◌, refl, arith, Ok}
use Rattle.std.specs.Ordering.{nat_cmp, eq_by_cmp}
use Rattle.std.specs.Cmp.Lexicographic.{slice_cmp, nat_list_cmp_total}
use Rattle.std.specs.FinMap as fin
use Rattle.std.specs.FinMap.{get-insert, get-remove}
use Rattle.apex_base.specs.declared.records.Reason.{Reason}
use Rattle.apex_base.specs.declared.records.Reason.TheVariants as reason
use Rattle.apex_base.specs.declared.records.Record.{Record}
use Rattle.apex_base.specs.declared.refusal.Refusal.{Refusal}
use Rattle.apex_base.specs.Members.{In}
use Rattle.apex_base.specs.Results.{◌>>=◌}
use Rattle.apex_base.specs.Sessions.{Ascend}
use Rattle.apex_base.specs.Windows.{last_five, is_failing}
use Rattle.apex_world.specs.declared.calls.Observer.{Observer}
use Rattle.apex_world.specs.declared.calls.ObserverKind.{ObserverKind}
use Rattle.apex_world.specs.declared.calls.ObserverKind.TheVariants.{Fixed, Rollback}
use Rattle.apex_world.specs.declared.calls.Reply.TheVariants as reply
use Rattle.apex_world.specs.Data.{unknown_module}
use Rattle.apex_world.specs.Report.{failures_or, failures_of, rollbacks_for, report_trigger, at_once, counted, reported}
use Rattle.apex_world.specs.Report.{report}
use Rattle.apex_world.specs.Running.{Running}
use Rattle.apex_world.specs.Stepped.{answered}
use Rattle.world_laws.specs.StoredAlike.{AreAlikeInParts, AreSteppedAlike}
use Rattle.apex_world.specs.Submit.{pass, image_print}
use Rattle.apex_world.specs.Trigger.{acting_among, commits, commit_all, acted, triggered}
use Rattle.apex_world.specs.Watching.{is_watching}
use Rattle.apex_world.specs.World.{World, Failures}
use Rattle.world_laws.proofs.alike.AlikeLemmas.{other, beside, unchanged, refused_alike}
use Rattle.world_laws.proofs.meaning.CallStays.{among_asked, asked_ascend}
use Rattle.world_laws.proofs.alike.CommitTurns.{CanCommit}
use Rattle.world_laws.proofs.alike.CommitsAlike.{commits_alike, can_commit}
use Rattle.world_facts.proofs.facts.KeptLemmas.{AreOrdered, ordered}
use Rattle.apex_base.proofs.MomentsAlike.{AreSorted, sorted_more, moments_alike, failing_alike}

-- Triggers

module _ (w v : World) (a : AreAlikeInParts w v) (law : AreOrdered w.sessions) (print : List ℕ) (xs : List Record)
    (ascend : Ascend xs) (can : (x : Record) → In x xs → CanCommit w.sessions x) where
  abbrev with_all : World → List Record → World
  with_all z ss = record z { sessions = ss }

  kind_alike : (k : ObserverKind) → AreAlikeInParts (with_all w (commit_all print w.sessions (commits xs k)))
      (with_all (other w v a) (commit_all print w.sessions (commits xs k)))
  kind_alike (Fixed level) = unchanged w v a
  kind_alike Rollback = commits_alike print xs w v a law ascend can

  acted_alike : (o : Option Observer) → AreAlikeInParts (with_all w (acted w.sessions print xs o).sessions)
      (with_all (other w v a) (acted w.sessions print xs o).sessions)
  acted_alike None = unchanged w v a
  acted_alike (Some o) = kind_alike o.kind

  -- what a trigger leaves of sessions
  pub triggered_alike : (observers : List Observer)
      → AreAlikeInParts (with_all w (triggered w.sessions print xs observers).sessions)
      (with_all (other w v a) (triggered w.sessions print xs observers).sessions)
  triggered_alike observers = acted_alike (acting_among xs observers)

-- Failures

abbrev HaveSameFive : Failures → Failures → Type 0
HaveSameFive f g = (name : List ℕ) → last_five (failures_of f name) ≡ last_five (failures_of g name)

five_if : (b : Bool) (o p x y : Option (List ℕ)) → last_five (failures_or o) ≡ last_five (failures_or p)
    → last_five (failures_or x) ≡ last_five (failures_or y)
    → last_five (failures_or (cond b o x)) ≡ last_five (failures_or (cond b p y))
five_if true o p x y e f = e
five_if false o p x y e f = f

insert_five : (f g : Failures) (name xs ys : List ℕ) → last_five xs ≡ last_five ys → HaveSameFive f g
    → HaveSameFive (fin.insert f name xs) (fin.insert g name ys)
insert_five f g name xs ys e same q =
    let b = eq_by_cmp (slice_cmp nat_cmp) q name in
    ap (λ (o : Option (List ℕ)). last_five (failures_or o)) (get-insert nat_list_cmp_total f name xs q)
    ∙ five_if b (Some xs) (Some ys) (fin.get f q) (fin.get g q) e (same q)
    ∙ ap (λ (o : Option (List ℕ)). last_five (failures_or o)) (sym (get-insert nat_list_cmp_total g name ys q))

remove_five : (f g : Failures) (name : List ℕ) → HaveSameFive f g
    → HaveSameFive (fin.remove f name) (fin.remove g name)
remove_five f g name same q =
    let b = eq_by_cmp (slice_cmp nat_cmp) q name in
    ap (λ (o : Option (List ℕ)). last_five (failures_or o)) (get-remove nat_list_cmp_total f name q)
    ∙ five_if b None None (fin.get f q) (fin.get g q) refl (same q)
    ∙ ap (λ (o : Option (List ℕ)). last_five (failures_or o)) (sym (get-remove nat_list_cmp_total g name q))

-- worlds with other failures and another clock
with_failures : (w v : World) → AreAlikeInParts w v → (f g : Failures) → HaveSameFive f g → (clock : ℕ)
    → AreAlikeInParts (record w { failures = f; clock = clock }) (record v { failures = g; clock = clock })
with_failures w v a f g same clock = record {
  stored = record {
    sessions = a.stored.sessions;
    modules = a.stored.modules;
    contents = a.stored.contents;
    past = a.stored.past;
    boots = a.stored.boots;
    moments = a.stored.moments;
    watches = a.stored.watches;
  };
  scale = a.scale;
  image = a.image;
  observers = a.observers;
  active = a.active;
  clock = refl;
  failures = same;
}

-- The call

module _ (w v : World) (a : AreAlikeInParts w v) (run : Running w) (run' : Running v) where
  abbrev z : World
  z = other w v a

  once_alike : (clock : ℕ) (name : List ℕ) (why : Reason)
      → AreSteppedAlike (at_once w clock name why) (at_once z clock name why)
  once_alike clock name why =
      let t = report_trigger w clock name why in
      let xs = rollbacks_for why name w.sessions in
      let among = among_asked w.sessions name why in
      let then = triggered_alike w v a (ordered w run.lawful) (image_print w.image) xs
      (asked_ascend w.sessions name why run.lawful.ids.ascend)
      (λ x h. can_commit w run.lawful x (among x h).0 (among x h).1)
      (filter (is_watching w.watches clock name) w.observers) in
      record {
        reply = refl;
        world = with_failures (record w { sessions = t.sessions }) (record z { sessions = t.sessions }) then
            (fin.remove w.failures name) (fin.remove v.failures name)
            (remove_five w.failures v.failures name a.failures) clock;
      }

  counted_if : (b c : Bool) → b ≡ c → (clock : ℕ) (name : List ℕ) (why : Reason) (xs ys : List ℕ)
      → last_five xs ≡ last_five ys → AreSteppedAlike
      (cond b (at_once w clock name why)
      (record { world = record w { failures = fin.insert w.failures name xs; clock = clock }; reply = reply.Noted }))
      (cond c (at_once z clock name why)
      (record { world = record z { failures = fin.insert v.failures name ys; clock = clock }; reply = reply.Noted }))
  counted_if true true e clock name why xs ys five = once_alike clock name why
  counted_if true false e clock name why xs ys five = absurd (cc)
  counted_if false true e clock name why xs ys five = absurd (cc)
  counted_if false false e clock name why xs ys five = record {
    reply = refl;
    world = with_failures w z (unchanged w v a) (fin.insert w.failures name xs) (fin.insert v.failures name ys)
        (insert_five w.failures v.failures name xs ys five a.failures) clock;
  }

  counted_alike : (clock : ℕ) (name : List ℕ) (why : Reason) → w.clock ≤ clock
      → AreSteppedAlike (counted w clock name why) (counted z clock name why)
  counted_alike clock name why l =
      let xs = failures_of w.failures name in
      let ys = failures_of v.failures name in
      let five : last_five (xs ++ clock ∷ []) ≡ last_five (ys ++ clock ∷ []) =
      moments_alike xs ys clock (a.failures name) in
      let same = a.clock in
      let s : AreSorted (xs ++ clock ∷ []) = sorted_more xs clock (run.sorted name)
      (λ m h. let p = run.past name m h in omega (arith, p, l)) in
      let t : AreSorted (ys ++ clock ∷ []) = sorted_more ys clock (run'.sorted name)
      (λ m h. let p = run'.past name m h in omega (arith, p, l, same)) in
      counted_if (is_failing clock (xs ++ clock ∷ [])) (is_failing clock (ys ++ clock ∷ []))
      (failing_alike clock (xs ++ clock ∷ []) (ys ++ clock ∷ []) s t five) clock name why (xs ++ clock ∷ [])
      (ys ++ clock ∷ []) five

  reported_alike : (clock : ℕ) (name : List ℕ) (why : Reason) → w.clock ≤ clock
      → AreSteppedAlike (reported w clock name why) (reported z clock name why)
  reported_alike clock name reason.Unknown l = counted_alike clock name reason.Unknown l
  reported_alike clock name reason.NativeCrash l = once_alike clock name reason.NativeCrash
  reported_alike clock name reason.HealthCheck l = once_alike clock name reason.HealthCheck
  reported_alike clock name reason.AppCrash l = counted_alike clock name reason.AppCrash l
  reported_alike clock name reason.AppNotResponding l = counted_alike clock name reason.AppNotResponding l

  report_if : (o : Option Refusal) (clock : ℕ) (name : List ℕ) (why : Reason) → w.clock ≤ clock → AreSteppedAlike
      (answered w (pass o >>= λ known. Ok (reported w clock name why)))
      (answered z (pass o >>= λ known. Ok (reported z clock name why)))
  report_if None clock name why l = reported_alike clock name why l
  report_if (Some refusal) clock name why l = refused_alike w z refusal (unchanged w v a)

  -- a report
  pub report_alike : (time : ℕ) (name : List ℕ) (why : Reason)
      → AreSteppedAlike (report w time name why) (report v time name why)
  report_alike time name why =
      beside w v a (λ z. report z time name why)
      (report_if (unknown_module w.image name) (max w.clock time) name why (omega arith))
